-- An attempt's start clears EC, and a commit moves TAIL.
use Rattle.std.proofs.Common.{◌≡◌, ◌≢◌, ℕ, zero, suc, ◌+◌, ◌*◌, ◌%◌, ◌<◌, ◌≤◌, List, [], ◌∷◌, ◌++◌, refl, sym, ap, ◌∙◌, subst, arith, Bool, true, false}
use Rattle.std.proofs.Common.{inl, inr, append_assoc}
use Rattle.task_attempts.proofs.Names.{Effect, Store, EachStore, World, fram_after, each_store-append}
use Rattle.task_attempts.proofs.Names.{MemoryMap, word_place, CurrentTask, Gate, ListLength, EmitCount, Base, SentBase, NextTask, Version, ProgramPlaces}
use Rattle.task_attempts.proofs.Names.{ArePrivate, IsAmong, CopyPair}
use Rattle.task_attempts.proofs.Names.{where_events, listed, put}
use Rattle.machine_effects.specs.World.{looks_taken}
use Rattle.machine_effects.specs.Inputs.{Look}
use Rattle.machine_effects.proofs.Interface.{put_same, put_other, looks_taken-append}
use Rattle.memory_map.specs.Laws as memory
use Rattle.memory_map.specs.event_places.Places.{tail_place, count_place, sent_place}
use Rattle.runtime_effects.specs.Stages.{cleared, clearing_if, is_at_end, counting_effects, opening_effects, copied_in, start_effects, copied_home, sends}
use Rattle.runtime_effects.specs.Stages.{emits_sent, commit_closed, commit_effects}
use Rattle.stands_for.specs.StandsFor.{IsPendingCommit}
use Rattle.event_rules.specs.Taking.{Before, Open, Advances, Clears, Moves, Ends, Stores, FollowsSeeing, Ended, Next, IsOffRing}
use Rattle.event_rules.proofs.Interface.{looks_after, joined, off_ring}
use Rattle.task_attempts.proofs.InOrder.{leaves_high, leaves_gate}

module _ (l : ProgramPlaces) (apart : memory.AreApart l.map) where
  abbrev m : MemoryMap
  m = l.map

  abbrev pub gate : ℕ
  gate = word_place m Gate

  abbrev pub Off : ℕ → ℕ → Type 0
  Off = IsOffRing gate

  abbrev pub OffRing : List Effect → Type 0
  OffRing es = EachStore Off es

  -- a word behind the runtime's, in front of the words that count events
  pub behind_row : (a w : ℕ) → m.list.address ≤ a → a < tail_place → Off a w
  behind_row a w lo hi = (hi, λ e. omega (arith, apart, lo, e))

  -- ---- the start

  cleared_off : (n p : ℕ) → m.list.address ≤ p → p + 2 * n ≤ tail_place → OffRing (cleared n p)
  cleared_off zero p lo hi = tt
  cleared_off (suc n) p lo hi = (behind_row p 0 lo (omega (arith, hi)), cleared_off n (p + 2) (omega (arith, lo)) (omega (arith, hi)))

  cleared_sees_none : (n p : ℕ) → looks_taken (cleared n p) ≡ []
  cleared_sees_none zero p = refl
  cleared_sees_none (suc n) p = cleared_sees_none n (p + 2)

  pub clearing_off : (c : Bool) → OffRing (clearing_if m c)
  clearing_off true =
      each_store-append Off (cleared m.versions.words m.versions.address) (Store (word_place m Version) 0 ∷ [])
      (cleared_off m.versions.words m.versions.address (omega (arith, apart)) (omega (arith, apart)))
      ((omega (arith, apart), λ e. omega (arith, e)), tt)
  clearing_off false = tt

  pub clearing_sees_none : (c : Bool) → looks_taken (clearing_if m c) ≡ []
  clearing_sees_none true =
      looks_taken-append (cleared m.versions.words m.versions.address) (Store (word_place m Version) 0 ∷ [])
      ∙ ap (λ ls. ls ++ []) (cleared_sees_none m.versions.words m.versions.address)
  clearing_sees_none false = refl

  -- in front of the store to EC
  abbrev counts : (ℕ → ℕ) → List Effect
  counts f = Store (word_place m Version) ((f (word_place m Version) + 1) % 0x10000) ∷ Store (word_place m ListLength) 0 ∷ Store (word_place m EmitCount) 0 ∷ []

  counts_off : (f : ℕ → ℕ) → OffRing (counts f)
  counts_off f = (
    (omega (arith, apart), λ e. omega (arith, e)),
    ((omega (arith, apart), λ e. omega (arith, e)), ((omega (arith, apart), λ e. omega (arith, e)), tt)),
  )

  -- the copies of private scalars
  copied_off : (t : ℕ) (ps : List CopyPair) → ArePrivate l t ps → (f : ℕ → ℕ) → OffRing (copied_in ps f)
  copied_off t [] h f = tt
  copied_off t (q ∷ ps) h f =
      let c = h.2 in
      (behind_row q.copy (f q.home) (omega (arith, apart, c)) (omega (arith, apart, c)), copied_off t ps h.4 (put f q.copy (f q.home)))

  copied_sees_none : (ps : List CopyPair) (f : ℕ → ℕ) → looks_taken (copied_in ps f) ≡ []
  copied_sees_none [] f = refl
  copied_sees_none (q ∷ ps) f = copied_sees_none ps (put f q.copy (f q.home))

  module _ (on : m.runtime.events ≡ true) (privates : ℕ → List CopyPair) (are : (t : ℕ) → ArePrivate l t (privates t)) where
    pub start_in_order : (f : ℕ → ℕ) (looks : List Look) → f gate ≢ 1 → FollowsSeeing (Advances gate) f looks Before (start_effects m privates f) Open
    start_in_order f looks undecided =
        let es = clearing_if m (is_at_end m f) in
        let g = fram_after es f in
        let cs = counts g in
        let front = es ++ cs in
        let opened = opening_effects m f in
        let task = f (word_place m CurrentTask) in
        let back = copied_in (privates task) (fram_after opened f) in
        let front_off : OffRing front = each_store-append Off es cs (clearing_off (is_at_end m f)) (counts_off g) in
        let front_none : looks_taken front ≡ [] = looks_taken-append es cs ∙ ap (λ ls. ls ++ []) (clearing_sees_none (is_at_end m f)) in
        let clear : List Effect = Store count_place 0 ∷ [] in
        let counting : counting_effects m g ≡ cs ++ clear =
        ap (λ b. Store (word_place m Version) ((g (word_place m Version) + 1) % 0x10000) ∷ Store (word_place m ListLength) 0 ∷ Store (word_place m EmitCount) 0
        ∷ where_events b clear) on in
        let opened_is : opened ≡ front ++ clear = ap (λ fs. es ++ fs) counting ∙ sym (append_assoc es cs clear) in
        let here = off_ring gate front f looks Before tt front_off front_none in
        let same = leaves_gate gate front front_off f in
        let opens : FollowsSeeing (Advances gate) f looks Before opened Open =
        subst (λ l. FollowsSeeing (Advances gate) f looks Before l Open) (sym opened_is)
        (joined (Advances gate) here (Next (Clears refl refl (λ e. undecided (sym same ∙ e))) Ended)) in
        joined (Advances gate) opens
        (off_ring gate back (fram_after opened f) (looks_after opened looks) Open tt (copied_off task (privates task) (are task) (fram_after opened f))
        (copied_sees_none (privates task) (fram_after opened f)))

  -- ---- the commit

  home_off : (ps : List CopyPair) → ((q : CopyPair) → IsAmong ps q → (m.homes.address ≤ q.home) × (q.home < tail_place)) → (f : ℕ → ℕ)
      → OffRing (copied_home ps f)
  home_off [] h f = tt
  home_off (q ∷ ps) h f =
      let k = h q (inl refl) in
      let lo = k.0 in
      (behind_row q.home (f q.copy) (omega (arith, apart, lo)) k.1, home_off ps (λ r a. h r (inr a)) (put f q.home (f q.copy)))

  home_sees_none : (ps : List CopyPair) (f : ℕ → ℕ) → looks_taken (copied_home ps f) ≡ []
  home_sees_none [] f = refl
  home_sees_none (q ∷ ps) f = home_sees_none ps (put f q.home (f q.copy))

  pub sends_off : (n number p : ℕ) (f : ℕ → ℕ) → OffRing (sends n number p f)
  sends_off zero number p f = tt
  sends_off (suc n) number p f = (tt, sends_off n ((number + 1) % 0x10000) (p + 2) f)

  pub sends_see_none : (n number p : ℕ) (f : ℕ → ℕ) → looks_taken (sends n number p f) ≡ []
  sends_see_none zero number p f = refl
  sends_see_none (suc n) number p f = sends_see_none n ((number + 1) % 0x10000) (p + 2) f

  pub commit_in_order : m.runtime.events ≡ true → (x : World) (looks : List Look) → IsPendingCommit l x
      → FollowsSeeing (Advances gate) x.fram looks Before (commit_effects m x.fram) Before
  commit_in_order on x looks pending =
      let f = x.fram in
      let copies = copied_home (listed m f) f in
      let sent = emits_sent m f in
      let first = copies ++ sent in
      let last = commit_closed m f in
      let tail = f sent_place in
      let current = f (word_place m NextTask) in
      let base = (f (word_place m SentBase) + f (word_place m EmitCount)) % 0x10000 in
      let last_is : last ≡ Store tail_place tail ∷ Store (word_place m CurrentTask) current ∷ Store (word_place m Base) base ∷ Store gate 0 ∷ [] =
      ap (λ b. where_events b (Store tail_place tail ∷ [])
      ++ (Store (word_place m CurrentTask) current ∷ Store (word_place m Base) base ∷ Store gate 0 ∷ [])) on in
      let whole : commit_effects m f ≡ first ++ last = sym (append_assoc copies sent last) in
      let first_off : OffRing first =
      each_store-append Off copies sent
      (home_off (listed m f) (λ q a. let h = pending.homes q a in (omega (arith, h), omega (arith, apart, h))) f)
      (sends_off (f (word_place m EmitCount)) (f (word_place m SentBase)) m.emits.address f) in
      let first_none : looks_taken first ≡ [] =
      looks_taken-append copies sent ∙ ap (λ ls. ls ++ looks_taken sent) (home_sees_none (listed m f) f)
      ∙ sends_see_none (f (word_place m EmitCount)) (f (word_place m SentBase)) m.emits.address f in
      let here = off_ring gate first f looks Before tt first_off first_none in
      let g = fram_after first f in
      let g_gate : g gate ≡ 1 = leaves_gate gate first first_off f ∙ pending.gate in
      let g_sent : g sent_place ≡ tail = leaves_high gate first first_off sent_place (omega arith) f in
      let g1 = put g tail_place tail in
      let g2 = put g1 (word_place m CurrentTask) current in
      let g3 = put g2 (word_place m Base) base in
      let kept : (a : ℕ) → a ≢ tail_place → a ≢ word_place m CurrentTask → a ≢ word_place m Base → g3 a ≡ g a =
      λ a t c b. put_other g2 (word_place m Base) base a b ∙ put_other g1 (word_place m CurrentTask) current a c ∙ put_other g tail_place tail a t in
      let end_gate : g3 gate ≡ 1 = kept gate (λ e. omega (arith, apart, e)) (λ e. omega (arith, e)) (λ e. omega (arith, e)) ∙ g_gate in
      let end_sent : g3 sent_place ≡ tail =
      kept sent_place (λ e. omega (arith, e)) (λ e. omega (arith, apart, e)) (λ e. omega (arith, apart, e)) ∙ g_sent in
      let end_tail : g3 tail_place ≡ tail =
      put_other g2 (word_place m Base) base tail_place (λ e. omega (arith, apart, e))
      ∙ put_other g1 (word_place m CurrentTask) current tail_place (λ e. omega (arith, apart, e)) ∙ put_same g tail_place tail in
      let closes : FollowsSeeing (Advances gate) g (looks_after first looks) Before last Before =
      subst (λ l. FollowsSeeing (Advances gate) g (looks_after first looks) Before l Before) (sym last_is)
      (Next (Moves refl (sym g_sent) g_gate)
      (Next (Stores tt (omega (arith, apart)) (λ e. omega (arith, e)))
      (Next (Stores tt (omega (arith, apart)) (λ e. omega (arith, e)))
      (Next (Ends refl refl end_gate (end_tail ∙ sym end_sent)) Ended)))) in
      subst (λ l. FollowsSeeing (Advances gate) f looks Before l Before) (sym whole) (joined (Advances gate) here closes)
