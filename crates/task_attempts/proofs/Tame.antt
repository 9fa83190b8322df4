-- Where a task's program stores, under each runtime: elsewhere than GATE, before the code, and CLN and EN within their capacities.
use Rattle.task_attempts.proofs.Names.{◌≡◌, ℕ, ◌<◌, ◌≤◌, sym, subst, ⊎_elim, inl, inr, arith, emits_of, list_of, Gate, ListLength, EmitCount}
use Rattle.task_attempts.proofs.Names.{word_place, some_path_writes, end_of, IsTaskStore, at_variable, at_copy, at_element, at_version, in_list, at_list_length}
use Rattle.task_attempts.proofs.Names.{at_emit_count, in_buffer, at_answer, StoresBelow, IsEventWord, element_address, version_address, Spot}
use Rattle.task_attempts.proofs.Names.{IsSpot, spot_address, scalar, copy, Element, IsElement, IsCopied, Some}
use Rattle.memory_map.specs.Spots.{element, version}
use Rattle.task_attempts.proofs.Entries as transition
use Rattle.task_attempts.proofs.Entries.{IsTransitionStore, at_next_task, at_sent_base, at_sent_tail, in_entries}
use Rattle.task_attempts.proofs.Words.{element_word}
use Rattle.task_attempts.proofs.Tasks.{body_is}
use Rattle.task_attempts.proofs.Started.{Attempting, scene}
use Rattle.cost_bound.specs.Summaries.{summaries}

module _ (run : Attempting) where
  open run use {program as p, map as l, given, state as s, task as i, own, facts, undecided}
  open (scene run) use {here, code, space, ver}

  pub record Tame (a w : ℕ) : Type 0 where
    pub gate : a ≡ word_place l Gate → ⊥
    pub list_length : a ≡ word_place l ListLength → w ≤ l.entries
    pub emit_count : a ≡ word_place l EmitCount → w ≤ emits_of (summaries p) code
    pub from : 0x4400 ≤ a
    pub below : StoresBelow l (end_of l.copies) a w

  list_fits : list_of (summaries p) p.shared code ≤ l.entries
  list_fits = subst (λ b. list_of (summaries p) p.shared b ≤ l.entries) (body_is p l s.task i) (given.room.list s.task undecided.is_open.is_task)

  pub emits_fit : emits_of (summaries p) code ≤ l.emits.words
  emits_fit = subst (λ b. emits_of (summaries p) b ≤ l.emits.words) (body_is p l s.task i) (given.room.emits s.task undecided.is_open.is_task)

  -- one behind the runtime's words
  behind : (a w : ℕ) → l.list.address ≤ a → a < end_of l.copies → Tame a w
  behind a w low high =
      let apart = given.apart in
      record {
        gate = λ e. omega (arith, apart, e, low);
        list_length = λ e. absurd (omega (arith, apart, e, low));
        emit_count = λ e. absurd (omega (arith, apart, e, low));
        from = omega (arith, apart, low);
        below = inl high;
      }

  -- one of the runtime's words behind GATE
  runtime_word : (a w : ℕ) → (a ≡ word_place l Gate → ⊥) → l.row ≤ a → a < l.list.address → (a ≡ word_place l ListLength → w ≤ l.entries)
      → (a ≡ word_place l EmitCount → w ≤ emits_of (summaries p) code) → Tame a w
  runtime_word a w gate low high list emits =
      let apart = given.apart in
      record { gate = gate; list_length = list; emit_count = emits; from = omega (arith, apart, low); below = inl (omega (arith, apart, high)) }

  event_word : (a w : ℕ) → IsEventWord l a → Tame a w
  event_word a w is =
      let apart = given.apart in
      record {
        gate = λ e. omega (arith, apart, e, is);
        list_length = λ e. absurd (omega (arith, apart, e, is));
        emit_count = λ e. absurd (omega (arith, apart, e, is));
        from = omega (arith, is);
        below = inr is;
      }

  spot_tame : (q : Spot) (w : ℕ) → IsSpot here q → spot_address here q < end_of l.copies → Tame (spot_address here q) w
  spot_tame q w is high = let low = facts.apart.spots q is in let apart = facts.apart in behind (spot_address here q) w (omega (arith, low, apart)) high

  count_tame : (a w : ℕ) → a ≡ word_place l ListLength → w ≤ space.list → Tame a w
  count_tame a w is few =
      let fits = list_fits in
      let apart = given.apart in
      runtime_word a w (λ e. omega (arith, is, e)) (omega (arith, is)) (omega (arith, apart, is)) (λ e. omega (arith, few, fits))
      (λ e. absurd (omega (arith, is, e)))

  -- an element, its copy and its version word
  element_below : (x : Element) → IsCopied here x → element_address here x < end_of l.copies
  element_below x c =
      let h : IsElement here x =
      record { elements = c.elements; length = c.length; copies = Some c.copies; is_array = c.is_array; below = c.below } in
      let word = given.words.is_shared x.array x.index (element_address here x) (element_word p.functions l code own x h) in
      let apart = given.apart in
      omega (arith, word, apart)

  version_below : (x : Element) → IsCopied here x → version_address here x < end_of l.copies
  version_below x c =
      let v = facts.versions x c in
      let is = v.is in let below = v.below in
      let apart = given.apart in
      omega (arith, is, below, apart)

  pub task_tame : (a w : ℕ) → IsTaskStore here (some_path_writes p.functions code) space ver a w → Tame a w
  task_tame a w (at_variable v n h e is) = subst (λ z. Tame z w) (sym is) (spot_tame (scalar v n) w h (facts.variables v n h))
  task_tame a w (at_copy x h is) =
      let c = facts.copies x h in subst (λ z. Tame z w) (sym is) (spot_tame (copy x) w h (omega (arith, c)))
  task_tame a w (at_element undo x h is) =
      let e : IsElement here x = record { elements = h.elements; length = h.length; copies = Some h.copies; is_array = h.is_array; below = h.below } in
      subst (λ z. Tame z w) (sym is) (spot_tame (element x) w e (element_below x h))
  task_tame a w (at_version x h is e) = subst (λ z. Tame z w) (sym is) (spot_tame (version x) w h (version_below x h))
  task_tame a w (in_list lo hi) =
      let apart = given.apart in let fits = list_fits in behind a w lo (omega (arith, apart, hi, fits))
  task_tame a w (at_list_length is few) = count_tame a w is few
  task_tame a w (at_emit_count is few) =
      let apart = given.apart in
      runtime_word a w (λ e. omega (arith, is, e)) (omega (arith, is)) (omega (arith, apart, is)) (λ e. absurd (omega (arith, is, e))) (λ e. few)
  task_tame a w (in_buffer j h is) =
      let apart = given.apart in let fits = emits_fit in behind a w (omega (arith, apart, is)) (omega (arith, apart, is, h, fits))
  task_tame a w (at_answer k) =
      ⊎_elim {C = Tame a w} (λ e. event_word a w (record { events = k.0; from = omega (arith, e); below = omega (arith, e) }))
      (λ e. event_word a w (record { events = k.0; from = omega (arith, e); below = omega (arith, e) })) k.1

  pub transition_tame : (a w : ℕ) → IsTransitionStore here space a w → Tame a w
  transition_tame a w (at_next_task is) =
      let apart = given.apart in
      runtime_word a w (λ e. omega (arith, is, e)) (omega (arith, is)) (omega (arith, apart, is)) (λ e. absurd (omega (arith, is, e)))
      (λ e. absurd (omega (arith, is, e)))
  transition_tame a w (transition.at_list_length is few) = count_tame a w is few
  transition_tame a w (at_sent_base is) =
      let apart = given.apart in
      runtime_word a w (λ e. omega (arith, is, e)) (omega (arith, is)) (omega (arith, apart, is)) (λ e. absurd (omega (arith, is, e)))
      (λ e. absurd (omega (arith, is, e)))
  transition_tame a w (in_entries lo hi) =
      let apart = given.apart in let fits = list_fits in behind a w lo (omega (arith, apart, hi, fits))
  transition_tame a w (at_sent_tail on e) = event_word a w (record { events = on; from = omega (arith, e); below = omega (arith, e) })
