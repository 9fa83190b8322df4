-- Under undo: an attempt's start clears EC, and lists within the list; a recovery leaves the words that count events; and a commit moves TAIL.
use Rattle.std.proofs.Common.{◌≡◌, ◌≢◌, ℕ, zero, suc, ◌+◌, ◌%◌, ◌≤◌, List, [], ◌∷◌, ◌++◌, length, refl, sym, ap, ◌∙◌, subst, arith, Bool, true, false}
use Rattle.std.proofs.Common.{append_assoc}
use Rattle.task_attempts.proofs.Names.{Effect, Store, EachStore, World, fram_after, each_store-append, put, where_events, HoldsThroughout, Take, Outside}
use Rattle.task_attempts.proofs.Names.{MemoryMap, word_place, CurrentTask, Gate, ListLength, EmitCount, Base, SentBase, NextTask, Version, ProgramPlaces}
use Rattle.task_attempts.proofs.Names.{StateView}
use Rattle.machine_effects.specs.World.{looks_taken, world_after_one}
use Rattle.machine_effects.specs.Inputs.{Look}
use Rattle.machine_effects.proofs.Interface.{put_same, put_other, looks_taken-append, fram_untouched}
use Rattle.memory_map.specs.Laws as memory
use Rattle.memory_map.specs.event_places.Places.{tail_place, count_place, sent_place}
use Rattle.runtime_effects.specs.Stages.{cleared, clearing_if, is_at_end, emits_sent, tail_moved}
use Rattle.undo_effects.specs.Entries.{entry_place}
use Rattle.undo_effects.specs.Stages.{word_logged, words_logged, numbering_effects, undo_opening, undo_start, recovery, moved_on, let_go, undo_commit}
use Rattle.undo_effects.proofs.Interface.{opening_stores}
use Rattle.undo_states.specs.States.{UndoneAt, ClosesTo}
use Rattle.undo_states.proofs.Interface.{recovery_stores}
use Rattle.event_rules.specs.Taking.{Before, Open, Advances, Clears, Moves, Ends, Stores, FollowsSeeing, Ended, Next, IsOffRing}
use Rattle.event_rules.proofs.Interface.{looks_after, joined, off_ring}
use Rattle.task_attempts.proofs.InOrder.{leaves_high, leaves_gate}
use Rattle.task_attempts.proofs.Runtime.{behind_row, clearing_off, clearing_sees_none, sends_off, sends_see_none}

-- two facts of each store
pub each_both : (P Q : ℕ → ℕ → Type 0) (es : List Effect) → EachStore P es → EachStore Q es → EachStore (λ a w. P a w × Q a w) es
each_both P Q [] h k = tt
each_both P Q (Store a w ∷ es) h k = ((h.0, k.0), each_both P Q es h.1 k.1)
each_both P Q (Take r ∷ es) h k = (tt, each_both P Q es h.1 k.1)
each_both P Q (Outside o ∷ es) h k = (tt, each_both P Q es h.1 k.1)

module _ (l : ProgramPlaces) (apart : memory.AreApart l.map) where
  abbrev m : MemoryMap
  m = l.map

  abbrev gate : ℕ
  gate = word_place m Gate

  abbrev OffRing : List Effect → Type 0
  OffRing es = EachStore (IsOffRing gate) es

  -- ---- what a start lists

  word_off : (a n old : ℕ) → n + 1 ≤ m.entries
      → OffRing (Store (entry_place m n) a ∷ Store (entry_place m n + 2) old ∷ Store (word_place m ListLength) ((n + 1) % 0x10000) ∷ [])
  word_off a n old few = (
    behind_row l apart (entry_place m n) a (omega arith) (omega (arith, apart, few)),
    (
      behind_row l apart (entry_place m n + 2) old (omega arith) (omega (arith, apart, few)),
      ((omega (arith, apart), λ e. omega (arith, e)), tt),
    ),
  )

  -- behind a word that is listed one entry more counts
  counted : (a : ℕ) (f : ℕ → ℕ) → f (word_place m ListLength) + 1 ≤ m.entries
      → fram_after (word_logged m a f) f (word_place m ListLength) ≡ f (word_place m ListLength) + 1
  counted a f few =
      let n = f (word_place m ListLength) in
      put_same (put (put f (entry_place m n) a) (entry_place m n + 2) (f a)) (word_place m ListLength) ((n + 1) % 0x10000) ∙ omega (arith, apart, few)

  words_off : (xs : List ℕ) (f : ℕ → ℕ) → f (word_place m ListLength) + length xs ≤ m.entries → OffRing (words_logged m xs f)
  words_off [] f few = tt
  words_off (a ∷ rest) f few =
      let n = f (word_place m ListLength) in
      let es = word_logged m a f in
      let one : n + 1 ≤ m.entries = omega (arith, few) in
      let now = counted a f one in
      each_store-append (IsOffRing gate) es (words_logged m rest (fram_after es f)) (word_off a n (f a) one)
      (words_off rest (fram_after es f) (omega (arith, few, now)))

  words_see_none : (xs : List ℕ) (f : ℕ → ℕ) → looks_taken (words_logged m xs f) ≡ []
  words_see_none [] f = refl
  words_see_none (a ∷ rest) f = words_see_none rest (fram_after (word_logged m a f) f)

  -- an opening leaves CLN
  opened_keeps : (f : ℕ → ℕ) → fram_after (undo_opening m f) f (word_place m ListLength) ≡ f (word_place m ListLength)
  opened_keeps f =
      fram_untouched (undo_opening m f) (word_place m ListLength) f
      (opening_stores (λ a. a ≡ word_place m ListLength → ⊥) m f (λ i h e. omega (arith, apart, e)) (λ e. omega (arith, e)) (λ e. omega (arith, e))
      (λ e. omega (arith, apart, e)))

  -- ---- EN

  abbrev ZeroEmits : ℕ → ℕ → Type 0
  ZeroEmits a w = a ≡ word_place m EmitCount → w ≡ 0

  cleared_zero : (n p : ℕ) → EachStore ZeroEmits (cleared n p)
  cleared_zero zero p = tt
  cleared_zero (suc n) p = ((λ e. refl), cleared_zero n (p + 2))

  clearing_zero : (c : Bool) → EachStore ZeroEmits (clearing_if m c)
  clearing_zero true =
      each_store-append ZeroEmits (cleared m.versions.words m.versions.address) (Store (word_place m Version) 0 ∷ [])
      (cleared_zero m.versions.words m.versions.address) ((λ e. refl), tt)
  clearing_zero false = tt

  numbering_zero : (events : Bool) (v : ℕ)
      → EachStore ZeroEmits (Store (word_place m Version) v ∷ Store (word_place m EmitCount) 0 ∷ where_events events (Store count_place 0 ∷ []))
  numbering_zero true v = ((λ e. absurd (omega (arith, e))), ((λ e. refl), ((λ e. refl), tt)))
  numbering_zero false v = ((λ e. absurd (omega (arith, e))), ((λ e. refl), tt))

  words_zero : (xs : List ℕ) (f : ℕ → ℕ) → EachStore ZeroEmits (words_logged m xs f)
  words_zero [] f = tt
  words_zero (a ∷ rest) f =
      let es = word_logged m a f in
      each_store-append ZeroEmits es (words_logged m rest (fram_after es f))
      ((λ e. absurd (omega (arith, apart, e))), ((λ e. absurd (omega (arith, apart, e))), ((λ e. absurd (omega (arith, e))), tt)))
      (words_zero rest (fram_after es f))

  -- a start stores nothing but 0 to EN
  pub start_zero : (privates : ℕ → List ℕ) (f : ℕ → ℕ) → EachStore ZeroEmits (undo_start m privates f)
  start_zero privates f =
      let es = clearing_if m (is_at_end m f) in
      let opened = undo_opening m f in
      each_store-append ZeroEmits opened (words_logged m (privates (f (word_place m CurrentTask))) (fram_after opened f))
      (each_store-append ZeroEmits es (numbering_effects m (fram_after es f)) (clearing_zero (is_at_end m f))
      (numbering_zero m.runtime.events ((fram_after es f (word_place m Version) + 1) % 0x10000)))
      (words_zero (privates (f (word_place m CurrentTask))) (fram_after opened f))

  -- ---- CLN, of effects that keep a world undecided

  first_of : {St : Type 0} (v : StateView St) (s : St) (es : List Effect) (x : World) → HoldsThroughout (UndoneAt l v s) es x → UndoneAt l v s x
  first_of v s [] x h = h
  first_of v s (e ∷ es) x h = h.0

  pub stores_within : {St : Type 0} (v : StateView St) (s : St) (es : List Effect) (x : World) → HoldsThroughout (UndoneAt l v s) es x
      → EachStore (λ a w. a ≡ word_place m ListLength → w ≤ l.list_capacity (v.task s)) es
  stores_within v s [] x h = tt
  stores_within v s (Store a w ∷ es) x h = (
    (λ e.
        let few = (first_of v s es (world_after_one (Store a w) x) h.1).within in
        let stored : put x.fram a w (word_place m ListLength) ≡ w = ap (put x.fram a w) (sym e) ∙ put_same x.fram a w in
        omega (arith, few, stored)),
    stores_within v s es (world_after_one (Store a w) x) h.1,
  )
  stores_within v s (Take r ∷ es) x h = (tt, stores_within v s es x h.1)
  stores_within v s (Outside o ∷ es) x h = (tt, stores_within v s es (world_after_one (Outside o) x) h.1)

  -- ---- words of the ring

  pub recovery_off : {St : Type 0} (v : StateView St) (s : St) (x : World) → UndoneAt l v s x → OffRing (recovery m x.fram)
  recovery_off v s x u =
      recovery_stores l v s x u (IsOffRing gate) (λ a w h. (omega (arith, apart, h), λ e. omega (arith, apart, h, e)))
      (omega (arith, apart), λ e. omega (arith, e))

  module _ (on : m.runtime.events ≡ true) where
    pub logging_in_order : (privates : ℕ → List ℕ) (f : ℕ → ℕ) (looks : List Look) → f gate ≢ 1
        → f (word_place m ListLength) + length (privates (f (word_place m CurrentTask))) ≤ m.entries
        → FollowsSeeing (Advances gate) f looks Before (undo_start m privates f) Open
    logging_in_order privates f looks undecided few =
        let es = clearing_if m (is_at_end m f) in
        let g = fram_after es f in
        let cs : List Effect = Store (word_place m Version) ((g (word_place m Version) + 1) % 0x10000) ∷ Store (word_place m EmitCount) 0 ∷ [] in
        let cs_off : OffRing cs = ((omega (arith, apart), λ e. omega (arith, e)), ((omega (arith, apart), λ e. omega (arith, e)), tt)) in
        let front = es ++ cs in
        let opened = undo_opening m f in
        let xs = privates (f (word_place m CurrentTask)) in
        let h = fram_after opened f in
        let kept = opened_keeps f in
        let front_off : OffRing front = each_store-append (IsOffRing gate) es cs (clearing_off l apart (is_at_end m f)) cs_off in
        let front_none : looks_taken front ≡ [] = looks_taken-append es cs ∙ ap (λ ls. ls ++ []) (clearing_sees_none l apart (is_at_end m f)) in
        let clear : List Effect = Store count_place 0 ∷ [] in
        let counting : numbering_effects m g ≡ cs ++ clear =
        ap (λ b. Store (word_place m Version) ((g (word_place m Version) + 1) % 0x10000) ∷ Store (word_place m EmitCount) 0 ∷ where_events b clear) on in
        let opened_is : opened ≡ front ++ clear = ap (λ fs. es ++ fs) counting ∙ sym (append_assoc es cs clear) in
        let here = off_ring gate front f looks Before tt front_off front_none in
        let same = leaves_gate gate front front_off f in
        let opens : FollowsSeeing (Advances gate) f looks Before opened Open =
        subst (λ l. FollowsSeeing (Advances gate) f looks Before l Open) (sym opened_is)
        (joined (Advances gate) here (Next (Clears refl refl (λ e. undecided (sym same ∙ e))) Ended)) in
        joined (Advances gate) opens
        (off_ring gate (words_logged m xs h) h (looks_after opened looks) Open tt (words_off xs h (omega (arith, few, kept))) (words_see_none xs h))

    pub closing_in_order : {St : Type 0} (v : StateView St) (to : St) (x : World) (looks : List Look) → ClosesTo l v to x
        → FollowsSeeing (Advances gate) x.fram looks Before (undo_commit m x.fram) Before
    closing_in_order v to x looks closes =
        let f = x.fram in
        let first = emits_sent m f in
        let last = tail_moved m f ++ (moved_on m f ++ let_go m) in
        let tail = f sent_place in
        let current = f (word_place m NextTask) in
        let base = (f (word_place m SentBase) + f (word_place m EmitCount)) % 0x10000 in
        let last_is : last ≡ Store tail_place tail ∷ Store (word_place m CurrentTask) current ∷ Store (word_place m Base) base
        ∷ Store (word_place m ListLength) 0 ∷ Store gate 0 ∷ [] =
        ap (λ b. where_events b (Store tail_place tail ∷ []) ++ (Store (word_place m CurrentTask) current ∷ Store (word_place m Base) base
        ∷ Store (word_place m ListLength) 0 ∷ Store gate 0 ∷ [])) on in
        let first_off : OffRing first = sends_off l apart (f (word_place m EmitCount)) (f (word_place m SentBase)) m.emits.address f in
        let first_none : looks_taken first ≡ [] = sends_see_none l apart (f (word_place m EmitCount)) (f (word_place m SentBase)) m.emits.address f in
        let here = off_ring gate first f looks Before tt first_off first_none in
        let g = fram_after first f in
        let g_gate : g gate ≡ 1 = leaves_gate gate first first_off f ∙ closes.decided.closes.sends.gate in
        let g_sent : g sent_place ≡ tail = leaves_high gate first first_off sent_place (omega arith) f in
        let g1 = put g tail_place tail in
        let g2 = put g1 (word_place m CurrentTask) current in
        let g3 = put g2 (word_place m Base) base in
        let g4 = put g3 (word_place m ListLength) 0 in
        let kept : (a : ℕ) → a ≢ word_place m CurrentTask → a ≢ word_place m Base → a ≢ word_place m ListLength → g4 a ≡ g1 a =
        λ a c b n. put_other g3 (word_place m ListLength) 0 a n ∙ put_other g2 (word_place m Base) base a b
        ∙ put_other g1 (word_place m CurrentTask) current a c in
        let end_gate : g4 gate ≡ 1 =
        kept gate (λ e. omega (arith, e)) (λ e. omega (arith, e)) (λ e. omega (arith, e))
        ∙ put_other g tail_place tail gate (λ e. omega (arith, apart, e)) ∙ g_gate in
        let end_sent : g4 sent_place ≡ tail =
        kept sent_place (λ e. omega (arith, apart, e)) (λ e. omega (arith, apart, e)) (λ e. omega (arith, apart, e))
        ∙ put_other g tail_place tail sent_place (λ e. omega (arith, e)) ∙ g_sent in
        let end_tail : g4 tail_place ≡ tail =
        kept tail_place (λ e. omega (arith, apart, e)) (λ e. omega (arith, apart, e)) (λ e. omega (arith, apart, e)) ∙ put_same g tail_place tail in
        let closing : FollowsSeeing (Advances gate) g (looks_after first looks) Before last Before =
        subst (λ l. FollowsSeeing (Advances gate) g (looks_after first looks) Before l Before) (sym last_is)
        (Next (Moves refl (sym g_sent) g_gate)
        (Next (Stores tt (omega (arith, apart)) (λ e. omega (arith, e)))
        (Next (Stores tt (omega (arith, apart)) (λ e. omega (arith, e)))
        (Next (Stores tt (omega (arith, apart)) (λ e. omega (arith, e)))
        (Next (Ends refl refl end_gate (end_tail ∙ sym end_sent)) Ended))))) in
        joined (Advances gate) here closing
