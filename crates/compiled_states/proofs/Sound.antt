-- A state that keeps the rules is a sound world; and a sound world within its capacities, as a state of the map, keeps the rules.
use Rattle.compiled_states.proofs.Names.{place_words, list_words, copies_words, word_in, words_from, runtime_of, entries_of, is_entry, words_of, are_entries}
use Rattle.compiled_states.proofs.Names.{is_pending, is_base, are_at_most, are_versions, is_list, is_ring_at, fits_fram, Entry, parts_in_fram, words_stand}
use Rattle.compiled_states.proofs.Names.{MapValue}
use Rattle.compiled_states.proofs.Names.{fram_of, steady, World, program_places, PartsInFram, word_place, end_of, CurrentTask, NextTask, Gate, ListLength}
use Rattle.compiled_states.proofs.Names.{EmitCount}
use Rattle.compiled_states.proofs.Names.{Base, SentBase, Version, RuntimeWord, CopyPair, listed, ProgramPlaces, IsSharedWord, IsCopyWord, IsAmong, IsAtRest}
use Rattle.compiled_states.proofs.Names.{IsPendingCommit, IsSound, SoundAtRest, SoundPending, VersionsWithin, ap, length, refl, sym, ◌∙◌, subst, arith, All}
use Rattle.compiled_states.proofs.Names.{◌≡◌, ◌⊎◌, inl, inr, ℕ, zero, suc, ◌+◌, ◌-◌, ◌*◌, ◌%◌, ◌<◌, ◌≤◌, ◌==◌, ◌&&◌, ◌||◌, if◌then◌else◌, Bool, true, false}
use Rattle.compiled_states.proofs.Names.{not, List, le-leb, lt-ltb, eq-eqb, ne_eqb, and_from, or_left, or_right, leb-true, ltb-true, eqb-true, and_parts}
use Rattle.compiled_states.proofs.Names.{or_cases, list_all, nat_le, nat_lt}
use Rattle.fram_state.specs.Sound as state
use Rattle.fram_state.specs.Sound.{keeps}
use Rattle.fram_state.specs.declared.fault.Rule.TheVariants as rule
use Rattle.fram_state.specs.declared.fault.Rule.{Rule}
use Rattle.fram_state.specs.declared.runtime.Runtime.{Runtime}
use Rattle.compiled_states.proofs.Words.{steady_at, steady_small, each_at_most, all_at_most}
use Rattle.compiled_states.proofs.Named.{Mapped, its_map, copies_are}
use Rattle.compiled_states.proofs.Listed.{all_length, good_entries, good_words, good_homes, good_copies, pairs_are, counts_some, all_pairs, entries_at, AreGood}
use Rattle.compiled_states.proofs.Listed.{are_good_entries, by_pairs, some_counts}

-- what the rules say of a state
pub record Rules (m : MapValue) (words : List ℕ) (r : Runtime) (number : ℕ) : Type 0 where
  pub gate : nat_le r.gate 1 ≡ true
  pub current_task : nat_lt r.current_task (length m.tasks) ≡ true
  pub versions : are_versions m words r.version ≡ true
  pub base : is_base r number ≡ true
  pub list_length : (fits_fram (list_words m.list) && nat_le r.list_length m.list.capacity) ≡ true
  pub emit_count : (fits_fram (place_words m.emits) && nat_le r.emit_count m.emits.capacity) ≡ true
  pub next_task : (not (is_pending r) || nat_lt r.next_task (length m.tasks)) ≡ true
  pub sent_base : (not (is_pending r) || nat_le ((number + 65536 - r.sent_base) % 65536) r.emit_count) ≡ true
  pub list : (not (is_pending r) || is_list m words r.list_length) ≡ true
  pub ring : is_ring_at m.ring words (is_pending r) ≡ true

pub rules_of : (m : MapValue) (words : List ℕ) (number : ℕ) → state.IsSound m words number → Rules m words (runtime_of m.words words) number
unfolding keeps
rules_of m words number s = record {
  gate = s.each rule.Gate;
  current_task = s.each rule.CurrentTask;
  versions = s.each rule.Versions;
  base = s.each rule.Base;
  list_length = s.each rule.ListLength;
  emit_count = s.each rule.EmitCount;
  next_task = s.each rule.NextTask;
  sent_base = s.each rule.SentBase;
  list = s.each rule.List;
  ring = s.each rule.Ring;
}

rule_kept : (m : MapValue) (words : List ℕ) (r : Runtime) (number : ℕ) → Rules m words r number → (k : Rule) → keeps m words r number k ≡ true
unfolding keeps
rule_kept m words r number rs rule.Gate = rs.gate
rule_kept m words r number rs rule.CurrentTask = rs.current_task
rule_kept m words r number rs rule.Versions = rs.versions
rule_kept m words r number rs rule.Base = rs.base
rule_kept m words r number rs rule.ListLength = rs.list_length
rule_kept m words r number rs rule.EmitCount = rs.emit_count
rule_kept m words r number rs rule.NextTask = rs.next_task
rule_kept m words r number rs rule.SentBase = rs.sent_base
rule_kept m words r number rs rule.List = rs.list
rule_kept m words r number rs rule.Ring = rs.ring

-- BASE as the rules ask for it, by whether a commit is pending
abbrev base_by : Runtime → ℕ → Bool → Bool
base_by r number pending = if pending then r.base == r.sent_base || r.base == (r.sent_base + r.emit_count) % 65536 else r.base == number

-- where none is pending it is the number that the receiver takes next
pub base_at_rest : (m : MapValue) (words : List ℕ) (number : ℕ) → state.IsSound m words number → (word_in words m.words.gate ≡ 1 → ⊥)
    → word_in words m.words.base ≡ number
base_at_rest m words number sound rests =
    let r = runtime_of m.words words in
    eqb-true r.base number (sym (ap (base_by r number) (ne_eqb r.gate 1 rests)) ∙ (rules_of m words number sound).base)

-- and its ring keeps the rule
pub ring_at_rest : (m : MapValue) (words : List ℕ) (number : ℕ) → state.IsSound m words number → (word_in words m.words.gate ≡ 1 → ⊥)
    → is_ring_at m.ring words false ≡ true
ring_at_rest m words number sound rests =
    let r = runtime_of m.words words in
    let P : Bool → Type 0 = λ pending. is_ring_at m.ring words pending ≡ true in
    subst P (ne_eqb r.gate 1 rests) (rules_of m words number sound).ring

-- a state: the words of its FRAM, the number that its receiver takes next, and the words that this accepted before
pub record Saved : Type 0 where
  pub words : List ℕ
  pub whole : length words ≡ 24064
  pub number : ℕ
  pub accepted : List ℕ
  pub counted : length accepted % 0x10000 ≡ number

module _ (own : Mapped) (saved : Saved) where
  open own use {program as p, layout as l, laid, tasks as same_tasks}
  open saved use {words, whole, number, accepted, counted}

  abbrev m : MapValue
  m = its_map own

  abbrev places : ProgramPlaces
  places = program_places p l

  abbrev f : ℕ → ℕ
  f = steady (fram_of words)

  abbrev x : World
  x = record { fram = f; accepted = accepted }

  abbrev r : Runtime
  r = runtime_of m.words words

  parts : PartsInFram l
  parts = parts_in_fram l laid.layout.rules

  -- a word of the runtime
  at : (w : RuntimeWord) → f (word_place l w) ≡ word_in words (word_place l w)
  at w =
      let word = words_stand l w laid.layout.rules in
      let is = word.is_fram in
      let low = is.low in let high = is.high in
      let below = word.below in let room = laid.layout.rules.list in let end = parts.list.end in
      steady_at words (word_place l w) (record { even = is.even; low = omega (arith, low); high = omega (arith, high) }) (omega (arith, below, room, end))

  -- BASE, by whether a commit is pending
  base_is : (pending : Bool) → is_pending r ≡ pending → is_base r number ≡ base_by r number pending
  base_is pending e = ap (base_by r number) e

  -- the list, as far as it goes
  abbrev n : ℕ
  n = f (word_place l ListLength)

  abbrev entries : List Entry
  entries = entries_at words whole n l.list.address

  list_end : l.list.address + 6 * l.entries ≤ 0xFF20
  list_end = let end = parts.list.end in let room = laid.layout.rules.list in omega (arith, end, room)

  list_fits : n ≤ l.entries → l.list.address + 6 * n ≤ 0xFF20
  list_fits most = let end = list_end in omega (arith, end, most)

  same_pairs : n ≤ l.entries → listed l f ≡ all_pairs entries
  same_pairs most = pairs_are words whole n l.list.address parts.list.even parts.list.from (list_fits most)

  -- ---- a state that keeps the rules is sound

  module _ (small : All (λ w. w < 0x10000) words) (sound : state.IsSound m words number) where
    rules : Rules m words r number
    rules = rules_of m words number sound

    current_task : f (word_place l CurrentTask) < length p.tasks
    current_task =
        let is = at CurrentTask in let below = ltb-true r.current_task (length m.tasks) rules.current_task in
        omega (arith, is, below, same_tasks)

    pub list_within : n ≤ l.entries
    list_within =
        let is = at ListLength in
        let most = leb-true r.list_length m.list.capacity
        (and_parts (fits_fram (list_words m.list)) (nat_le r.list_length m.list.capacity) rules.list_length).1 in
        omega (arith, is, most)

    pub emits_within : f (word_place l EmitCount) ≤ l.emits.words
    emits_within =
        let is = at EmitCount in
        let most = leb-true r.emit_count m.emits.capacity
        (and_parts (fits_fram (place_words m.emits)) (nat_le r.emit_count m.emits.capacity) rules.emit_count).1 in
        omega (arith, is, most)

    pub versions_within : VersionsWithin places f
    versions_within i lt =
        let a = l.versions.address + 2 * i in
        let both = and_parts (fits_fram (place_words m.versions)) (are_at_most (words_from words l.versions.address l.versions.words) r.version)
        rules.versions in
        let v = parts.versions in
        let even = v.even in let low = v.from in let high = v.end in
        let most = each_at_most l.versions.words words l.versions.address r.version whole even low (omega (arith, high)) both.1 i lt in
        let here = steady_at words a (record { even = omega (arith, even); low = omega (arith, low); high = omega (arith, high, lt) })
        (omega (arith, high, lt)) in
        let there = at Version in
        omega (arith, most, here, there)

    -- where no commit is pending
    at_rest : f (word_place l Gate) ≡ 0 → IsAtRest places x
    at_rest gate =
        let is = at Gate in let base = at Base in
        let none : is_pending r ≡ false = ne_eqb r.gate 1 (λ e. omega (arith, is, gate, e)) in
        let same = eqb-true r.base number (sym (base_is false none) ∙ rules.base) in
        record {
          words = steady_small words small;
          current_task = current_task;
          gate = gate;
          base = omega (arith, base, same, counted);
          versions = versions_within;
        }

    -- and where one is
    module _ (gate : f (word_place l Gate) ≡ 1) where
      pending : is_pending r ≡ true
      pending = let is = at Gate in eq-eqb r.gate 1 (omega (arith, is, gate))

      -- what a rule asks of a pending commit
      asked : (b : Bool) → (not (is_pending r) || b) ≡ true → b ≡ true
      asked b h = sym (ap (λ c. not c || b) pending) ∙ h

      abbrev sent : ℕ
      sent = (number + 65536 - r.sent_base) % 65536

      sent_within : sent ≤ f (word_place l EmitCount)
      sent_within =
          let is = at EmitCount in
          let most = leb-true sent r.emit_count (asked (nat_le sent r.emit_count) rules.sent_base) in
          omega (arith, is, most)

      number_is : length accepted % 0x10000 ≡ (f (word_place l SentBase) + sent) % 0x10000
      number_is =
          let is = at SentBase in let word = steady_small words small (word_place l SentBase) in
          omega (arith, is, word, counted)

      either_base : (f (word_place l Base) ≡ f (word_place l SentBase))
          ⊎ (f (word_place l Base) ≡ (f (word_place l SentBase) + f (word_place l EmitCount)) % 0x10000)
      either_base =
          by_cases (or_cases (r.base == r.sent_base) (r.base == (r.sent_base + r.emit_count) % 65536) (sym (base_is true pending) ∙ rules.base))
        where
          by_cases : ((r.base == r.sent_base) ≡ true) ⊎ ((r.base == (r.sent_base + r.emit_count) % 65536) ≡ true)
              → (f (word_place l Base) ≡ f (word_place l SentBase))
              ⊎ (f (word_place l Base) ≡ (f (word_place l SentBase) + f (word_place l EmitCount)) % 0x10000)
          by_cases (inl e) =
              let b = at Base in let sb = at SentBase in let same = eqb-true r.base r.sent_base e in inl (omega (arith, b, sb, same))
          by_cases (inr e) =
              let b = at Base in let sb = at SentBase in let en = at EmitCount in
              let same = eqb-true r.base ((r.sent_base + r.emit_count) % 65536) e in inr (omega (arith, b, sb, en, same))

      entries_hold : are_entries m entries l.entries ≡ true
      entries_hold =
          let both = and_parts (fits_fram (copies_words m.copies)) (are_entries m (entries_of (words_from words l.list.address (3 * r.list_length))) l.entries)
          (asked (is_list m words r.list_length) rules.list) in
          ap (λ k. are_entries m (entries_of (words_from words l.list.address (3 * k))) l.entries) (at ListLength) ∙ both.1

      -- each entry is as it has to be, and they have no more words than there is room
      entries_are : (list_all (is_entry m) entries ≡ true) × (nat_le (words_of entries) l.entries ≡ true)
      entries_are = and_parts (list_all (is_entry m) entries) (nat_le (words_of entries) l.entries) entries_hold

      good : AreGood own entries
      good = good_entries own entries entries_are.0

      pairs : listed l f ≡ all_pairs entries
      pairs = same_pairs list_within

      list_words_within : length (listed l f) ≤ l.entries
      list_words_within =
          let most = leb-true (words_of entries) l.entries entries_are.1 in
          let size = ap length pairs ∙ all_length entries in
          omega (arith, most, size)

      next_task : f (word_place l NextTask) < length p.tasks
      next_task =
          let is = at NextTask in
          let below = ltb-true r.next_task (length m.tasks) (asked (nat_lt r.next_task (length m.tasks)) rules.next_task) in
          omega (arith, is, below, same_tasks)

      pending_commit : IsPendingCommit places x
      pending_commit = record {
        words = steady_small words small;
        gate = gate;
        current_task = current_task;
        next_task = next_task;
        list_length = list_within;
        entries = counts_some words whole n l.list.address parts.list.even parts.list.from (list_fits list_within) (good_words own entries good);
        list_words = list_words_within;
        homes = subst (λ ps. (q : CopyPair) → IsAmong ps q → IsSharedWord places q.home) (sym pairs) (good_homes own entries good);
        copies = subst (λ ps. (q : CopyPair) → IsAmong ps q → IsCopyWord places q.copy) (sym pairs) (good_copies own entries good);
        emit_count = emits_within;
        sent = sent;
        sent_some = sent_within;
        number = number_is;
        base = either_base;
        versions = versions_within;
      }

    -- GATE is 0 or 1
    gate_at_most : f (word_place l Gate) ≤ 1
    gate_at_most = let is = at Gate in let most = leb-true r.gate 1 rules.gate in omega (arith, is, most)

    pub is_sound : IsSound places x
    is_sound = by_gate (cases_gate (f (word_place l Gate)) gate_at_most)
      where
        cases_gate : (g : ℕ) → g ≤ 1 → (g ≡ 0) ⊎ (g ≡ 1)
        cases_gate zero h = inl refl
        cases_gate (suc zero) h = inr refl
        cases_gate (suc (suc g)) h = absurd (omega (arith, h))

        by_gate : (f (word_place l Gate) ≡ 0) ⊎ (f (word_place l Gate) ≡ 1) → IsSound places x
        by_gate (inl is) = SoundAtRest (at_rest is)
        by_gate (inr is) = SoundPending (pending_commit is)

  -- ---- a sound world within its capacities keeps the rules

  module _ (list : n ≤ l.entries) (emits : f (word_place l EmitCount) ≤ l.emits.words) (versions : VersionsWithin places f)
      (ring : is_ring_at m.ring words (is_pending r) ≡ true) where
    -- the rules that hold whether or not a commit is pending

    keeps_versions : are_versions m words r.version ≡ true
    keeps_versions =
        let v = parts.versions in
        let even = v.even in let low = v.from in let high = v.end in
        and_from (fits_fram (place_words m.versions)) (are_at_most (words_from words l.versions.address l.versions.words) r.version)
        (le-leb (end_of l.versions) 65536 (omega (arith, high)))
        (all_at_most l.versions.words words l.versions.address r.version whole even low (omega (arith, high)) (λ i lt.
        let here = steady_at words (l.versions.address + 2 * i)
        (record { even = omega (arith, even); low = omega (arith, low); high = omega (arith, high, lt) }) (omega (arith, high, lt)) in
        let there = at Version in let most = versions i lt in omega (arith, here, there, most)))

    keeps_list_length : (fits_fram (list_words m.list) && nat_le r.list_length m.list.capacity) ≡ true
    keeps_list_length =
        let is = at ListLength in let end = list_end in
        and_from (fits_fram (list_words m.list)) (nat_le r.list_length m.list.capacity)
        (le-leb (l.list.address + 2 * (3 * l.entries)) 65536 (omega (arith, end)))
        (le-leb r.list_length m.list.capacity (omega (arith, is, list)))

    keeps_emit_count : (fits_fram (place_words m.emits) && nat_le r.emit_count m.emits.capacity) ≡ true
    keeps_emit_count =
        let is = at EmitCount in let end = parts.emits.end in
        and_from (fits_fram (place_words m.emits)) (nat_le r.emit_count m.emits.capacity) (le-leb (end_of l.emits) 65536 (omega (arith, end)))
        (le-leb r.emit_count m.emits.capacity (omega (arith, is, emits)))

    keeps_task : f (word_place l CurrentTask) < length p.tasks → nat_lt r.current_task (length m.tasks) ≡ true
    keeps_task below = let is = at CurrentTask in lt-ltb r.current_task (length m.tasks) (omega (arith, is, below, same_tasks))

    -- all of them, where no commit is pending
    module _ (q : IsAtRest places x) where
      none_pending : is_pending r ≡ false
      none_pending = let is = at Gate in let gate = q.gate in ne_eqb r.gate 1 (λ e. omega (arith, is, gate, e))

      -- what a pending commit alone owes
      not_asked : (b : Bool) → (not (is_pending r) || b) ≡ true
      not_asked b = ap (λ c. not c || b) none_pending

      rest_keeps : Rules m words r number
      rest_keeps =
          let gate_at = at Gate in let gate = q.gate in let base_at = at Base in let base = q.base in
          record {
            gate = le-leb r.gate 1 (omega (arith, gate_at, gate));
            current_task = keeps_task q.current_task;
            versions = keeps_versions;
            base = base_is false none_pending ∙ eq-eqb r.base number (omega (arith, base_at, base, counted));
            list_length = keeps_list_length;
            emit_count = keeps_emit_count;
            next_task = not_asked (nat_lt r.next_task (length m.tasks));
            sent_base = not_asked (nat_le ((number + 65536 - r.sent_base) % 65536) r.emit_count);
            list = not_asked (is_list m words r.list_length);
            ring = ring;
          }

    -- and where one is
    module _ (q : IsPendingCommit places x) where
      one_pending : is_pending r ≡ true
      one_pending = let is = at Gate in let gate = q.gate in eq-eqb r.gate 1 (omega (arith, is, gate))

      -- a rule that it keeps
      kept : (b : Bool) → b ≡ true → (not (is_pending r) || b) ≡ true
      kept b h = or_right (not (is_pending r)) b h

      pending_base : is_base r number ≡ true
      pending_base = base_is true one_pending ∙ by_cases q.base
        where
          by_cases : (f (word_place l Base) ≡ f (word_place l SentBase))
              ⊎ (f (word_place l Base) ≡ (f (word_place l SentBase) + f (word_place l EmitCount)) % 0x10000)
              → (r.base == r.sent_base || r.base == (r.sent_base + r.emit_count) % 65536) ≡ true
          by_cases (inl e) =
              let b = at Base in let sb = at SentBase in
              or_left (r.base == r.sent_base) (r.base == (r.sent_base + r.emit_count) % 65536) (eq-eqb r.base r.sent_base (omega (arith, b, sb, e)))
          by_cases (inr e) =
              let b = at Base in let sb = at SentBase in let en = at EmitCount in
              or_right (r.base == r.sent_base) (r.base == (r.sent_base + r.emit_count) % 65536)
              (eq-eqb r.base ((r.sent_base + r.emit_count) % 65536) (omega (arith, b, sb, en, e)))

      sent_most : (number + 65536 - r.sent_base) % 65536 ≤ r.emit_count
      sent_most =
          let sb = at SentBase in let en = at EmitCount in
          let sent = q.sent_some in let is = q.number in
          let word = q.words (word_place l SentBase) in let room = q.words (word_place l EmitCount) in
          omega (arith, sb, en, sent, is, word, room, counted)

      all_entries : list_all (is_entry m) entries ≡ true
      all_entries =
          are_good_entries own entries
          (by_pairs own entries (some_counts words whole n l.list.address parts.list.even parts.list.from (list_fits list) q.entries)
          (subst (λ ps. (c : CopyPair) → IsAmong ps c → IsSharedWord places c.home) (same_pairs list) q.homes)
          (subst (λ ps. (c : CopyPair) → IsAmong ps c → IsCopyWord places c.copy) (same_pairs list) q.copies))

      few_words : words_of entries ≤ l.entries
      few_words = let size = ap length (same_pairs list) ∙ all_length entries in let most = q.list_words in omega (arith, size, most)

      pending_list : is_list m words r.list_length ≡ true
      pending_list =
          let end = parts.copies.end in
          and_from (fits_fram (copies_words m.copies)) (are_entries m (entries_of (words_from words l.list.address (3 * r.list_length))) l.entries)
          (subst (λ r. fits_fram r ≡ true) (sym (copies_are own)) (le-leb (end_of l.copies) 65536 (omega (arith, end))))
          (ap (λ k. are_entries m (entries_of (words_from words l.list.address (3 * k))) l.entries) (sym (at ListLength))
          ∙ and_from (list_all (is_entry m) entries) (nat_le (words_of entries) l.entries) all_entries (le-leb (words_of entries) l.entries few_words))

      pending_keeps : Rules m words r number
      pending_keeps =
          let gate_at = at Gate in let gate = q.gate in let next_at = at NextTask in let next = q.next_task in
          record {
            gate = le-leb r.gate 1 (omega (arith, gate_at, gate));
            current_task = keeps_task q.current_task;
            versions = keeps_versions;
            base = pending_base;
            list_length = keeps_list_length;
            emit_count = keeps_emit_count;
            next_task = kept (nat_lt r.next_task (length m.tasks)) (lt-ltb r.next_task (length m.tasks) (omega (arith, next_at, next, same_tasks)));
            sent_base = kept (nat_le ((number + 65536 - r.sent_base) % 65536) r.emit_count)
                (le-leb ((number + 65536 - r.sent_base) % 65536) r.emit_count sent_most);
            list = kept (is_list m words r.list_length) pending_list;
            ring = ring;
          }

    pub keeps_rules : IsSound places x → state.IsSound m words number
    keeps_rules (SoundAtRest q) = record { each = rule_kept m words r number (rest_keeps q) }
    keeps_rules (SoundPending q) = record { each = rule_kept m words r number (pending_keeps q) }
