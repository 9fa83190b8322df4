-- What FRAM holds behind a transition's stores.
use Rattle.task_attempts.proofs.Names.{◌≡◌, ℕ, suc, ◌+◌, ◌*◌, ◌%◌, ◌<◌, ◌≤◌, List, [], ◌∷◌, ◌++◌, length, refl, sym, ap, ◌∙◌, subst, ⊎_elim, arith}
use Rattle.task_attempts.proofs.Names.{append_assoc, append-nil, cases_lt, AllByRecursion, flat_map, Effect, Store, put, fram_after, fram_after-append}
use Rattle.task_attempts.proofs.Names.{put_same, put_other, put_at, Room, AreApart, TakesAndStores, entry_effects, transition_effects, takes_append}
use Rattle.task_attempts.proofs.Names.{after_entry, entered_pairs, pairs_of_runs, runs_pairs, runs_have_words, word_place, NextTask, Gate, ListLength, SentBase}
use Rattle.task_attempts.proofs.Names.{run_pairs, scalar_pairs, entries_from, entries_alike, runs_of, Places}
use Rattle.task_attempts.proofs.Names.{Bool, true, false, sent_place, where_events, freeze_effects}
use Rattle.lower.specs.declared.runs.Run.{Run}

module _ (count list : ℕ) where
  -- words before the entries and behind them stay
  pub entries_elsewhere : (rs : List Run) (i x : ℕ) (f : ℕ → ℕ) → (x ≡ count → ⊥) → (6 * i + list ≤ x → x < 6 * (i + length rs) + list → ⊥)
      → fram_after (entry_effects count list i rs) f x ≡ f x
  entries_elsewhere [] i x f ne out = refl
  entries_elsewhere (r ∷ more) i x f ne out =
      let a = 6 * i + list in
      let g = put f a r.home in
      let h = put g (a + 2) r.copy in
      let k = put h (a + 4) r.words in
      entries_elsewhere more (i + 1) x (after_entry count list i r.home r.copy r.words f) ne (λ lo hi. out (omega (arith, lo)) (omega (arith, hi)))
      ∙ put_other k count (i + 1) x ne
      ∙ put_other h (a + 4) r.words x (λ e. out (omega (arith, e)) (omega (arith, e)))
      ∙ put_other g (a + 2) r.copy x (λ e. out (omega (arith, e)) (omega (arith, e)))
      ∙ put_other f a r.home x (λ e. out (omega (arith, e)) (omega (arith, e)))

  -- what the entries name, behind what those before them name
  pub entries_name : (rs : List Run) (i : ℕ) (f : ℕ → ℕ) → count + 2 ≤ list
      → entries_from (i + length rs) list (fram_after (entry_effects count list i rs) f) ≡ entries_from i list f ++ pairs_of_runs rs
  entries_name [] i f low =
      let none : i + 0 ≡ i = omega arith in
      ap (λ n. entries_from n list f) none ∙ sym (append-nil (entries_from i list f))
  entries_name (r ∷ more) i f low =
      let g = after_entry count list i r.home r.copy r.words f in
      let next : i + suc (length more) ≡ i + 1 + length more = omega arith in
      let last = fram_after (entry_effects count list (i + 1) more) g in
      ap (λ n. entries_from n list last) next ∙ entries_name more (i + 1) g low
      ∙ ap (λ l. l ++ pairs_of_runs more) (entered_pairs count list i r.home r.copy r.words f low)
      ∙ append_assoc (entries_from i list f) (run_pairs r.words r.home r.copy) (pairs_of_runs more)

  -- how many there are
  pub count_there : (rs : List Run) (i : ℕ) (f : ℕ → ℕ) → f count ≡ i → fram_after (entry_effects count list i rs) f count ≡ i + length rs
  count_there [] i f e = omega (arith, e)
  count_there (r ∷ more) i f e =
      let a = 6 * i + list in
      let k = count_there more (i + 1) (after_entry count list i r.home r.copy r.words f)
      (put_same (put (put (put f a r.home) (a + 2) r.copy) (a + 4) r.words) count (i + 1)) in
      omega (arith, k)

  -- each of them has a word, where those before them have
  pub entries_have_words : (rs : List Run) (i : ℕ) (f : ℕ → ℕ) → count + 2 ≤ list → AllByRecursion (λ r. 0 < r.words) rs
      → ((j : ℕ) → j < i → 0 < f (list + 6 * j + 4)) → (j : ℕ) → j < i + length rs
      → 0 < fram_after (entry_effects count list i rs) f (list + 6 * j + 4)
  entries_have_words [] i f low some before j h = before j (omega (arith, h))
  entries_have_words (r ∷ more) i f low some before j h =
      let a = 6 * i + list in
      let g1 = put f a r.home in
      let g2 = put g1 (a + 2) r.copy in
      let g3 = put g2 (a + 4) r.words in
      let g = after_entry count list i r.home r.copy r.words f in
      entries_have_words more (i + 1) g low some.1
      (λ k lt.
      let x = list + 6 * k + 4 in
      let same : g x ≡ g3 x = put_other g3 count (i + 1) x (λ e. omega (arith, e, low)) in
      ⊎_elim {C = 0 < g x}
      (λ old. subst (λ n. 0 < n)
      (sym (same ∙ put_other g2 (a + 4) r.words x (λ e. omega (arith, e, old)) ∙ put_other g1 (a + 2) r.copy x (λ e. omega (arith, e, old))
      ∙ put_other f a r.home x (λ e. omega (arith, e, old)))) (before k old))
      (λ new. subst (λ n. 0 < n) (sym (same ∙ put_at g2 (a + 4) r.words x (omega (arith, lt, new)))) some.0)
      (cases_lt k i))
      j (omega (arith, h))

-- where a transition stores, up to the gate
pub data IsTransitionStore (p : Places) (room : Room) (a w : ℕ) : Type 0 where
  at_next_task : a ≡ word_place p.map NextTask → IsTransitionStore p room a w
  at_list_length : a ≡ word_place p.map ListLength → w ≤ room.list → IsTransitionStore p room a w
  at_sent_base : a ≡ word_place p.map SentBase → IsTransitionStore p room a w
  in_entries : p.map.list.address ≤ a → a < p.map.list.address + 6 * room.list → IsTransitionStore p room a w
  at_sent_tail : p.map.runtime.events ≡ true → a ≡ sent_place → IsTransitionStore p room a w

module _ (p : Places) (room : Room) where
  entries_store : (rs : List Run) (i : ℕ) → i + length rs ≤ room.list → TakesAndStores (IsTransitionStore p room)
      (entry_effects (word_place p.map ListLength) p.map.list.address i rs)
  entries_store [] i few = tt
  entries_store (r ∷ more) i few = (
    in_entries (omega arith) (omega (arith, few)),
    (
      in_entries (omega arith) (omega (arith, few)),
      (
        in_entries (omega arith) (omega (arith, few)),
        (at_list_length refl (omega (arith, few)), entries_store more (i + 1) (omega (arith, few))),
      ),
    ),
  )

  frozen_stores : (events : Bool) (index : ℕ) → (events ≡ true → IsTransitionStore p room sent_place index)
      → TakesAndStores (IsTransitionStore p room) (where_events events (Store sent_place index ∷ []))
  frozen_stores true index h = (h refl, tt)
  frozen_stores false index h = tt

  pub transition_stores : (task n base index : ℕ) → n + length (runs_of p.privates) ≤ room.list
      → TakesAndStores (IsTransitionStore p room) (transition_effects p task n base index)
  transition_stores task n base index few = (
    at_next_task refl,
    takes_append (IsTransitionStore p room) (entry_effects (word_place p.map ListLength) p.map.list.address n (runs_of p.privates))
        (Store (word_place p.map SentBase) base ∷ freeze_effects p.map index)
        (entries_store (runs_of p.privates) n few)
        (at_sent_base refl, frozen_stores p.map.runtime.events index (λ on. at_sent_tail on refl)),
  )

-- a transition behind a task's statements: the places with their room, the task that it names, BASE, the index of the next event, and FRAM as the
-- statements leave it
pub record Closing : Type 0 where
  pub places : Places
  pub room : Room
  pub apart : AreApart places room
  pub task : ℕ
  pub base : ℕ
  pub index : ℕ
  pub fram : ℕ → ℕ

module _ (transition : Closing) where
  open transition use {places as p, room, apart, task, base, index, fram as f}

  -- the entries in front of its own
  abbrev n : ℕ
  n = f (word_place p.map ListLength)

  -- a transition's effects, with the gate
  abbrev pub closing : List Effect
  closing = transition_effects p task n base index ++ Store (word_place p.map Gate) 1 ∷ []

  -- FRAM behind it
  abbrev pub closed : ℕ → ℕ
  closed = fram_after closing f

  abbrev told : ℕ → ℕ
  told = put f (word_place p.map NextTask) (task % 65536)

  abbrev with_entries : ℕ → ℕ
  with_entries = fram_after (entry_effects (word_place p.map ListLength) p.map.list.address n (runs_of p.privates)) told

  -- and with SE, where there are events
  abbrev frozen : (ℕ → ℕ) → ℕ → ℕ
  frozen g = fram_after (freeze_effects p.map index) g

  frozen_other : (g : ℕ → ℕ) (a : ℕ) → (a ≡ sent_place → ⊥) → frozen g a ≡ g a
  frozen_other g a ne = by p.map.runtime.events
    where
      by : (events : Bool) → fram_after (where_events events (Store sent_place index ∷ [])) g a ≡ g a
      by true = put_other g sent_place index a ne
      by false = refl

  closed_is : closed ≡ put (frozen (put with_entries (word_place p.map SentBase) base)) (word_place p.map Gate) 1
  closed_is =
      let es = entry_effects (word_place p.map ListLength) p.map.list.address n (runs_of p.privates) in
      fram_after-append (es ++ Store (word_place p.map SentBase) base ∷ freeze_effects p.map index) (Store (word_place p.map Gate) 1 ∷ []) told
      ∙ ap (λ g. put g (word_place p.map Gate) 1)
      (fram_after-append es (Store (word_place p.map SentBase) base ∷ freeze_effects p.map index) told)

  at_close : (a : ℕ) → (a ≡ word_place p.map Gate → ⊥) → (a ≡ word_place p.map SentBase → ⊥) → (a ≡ sent_place → ⊥) → closed a ≡ with_entries a
  at_close a ng ns nt =
      let sent = put with_entries (word_place p.map SentBase) base in
      ap (λ g. g a) closed_is ∙ put_other (frozen sent) (word_place p.map Gate) 1 a ng ∙ frozen_other sent a nt
      ∙ put_other with_entries (word_place p.map SentBase) base a ns

  pub closed_sent : closed (word_place p.map SentBase) ≡ base
  closed_sent =
      let sent = put with_entries (word_place p.map SentBase) base in
      ap (λ g. g (word_place p.map SentBase)) closed_is
      ∙ put_other (frozen sent) (word_place p.map Gate) 1 (word_place p.map SentBase) (λ e. omega (arith, e, apart))
      ∙ frozen_other sent (word_place p.map SentBase) (λ e. omega (arith, e, apart))
      ∙ put_same with_entries (word_place p.map SentBase) base

  pub closed_next : closed (word_place p.map NextTask) ≡ task % 65536
  closed_next =
      at_close (word_place p.map NextTask) (λ e. omega (arith, e, apart)) (λ e. omega (arith, e, apart)) (λ e. omega (arith, e, apart))
      ∙ entries_elsewhere (word_place p.map ListLength) p.map.list.address (runs_of p.privates) n (word_place p.map NextTask) told
      (λ e. omega (arith, e, apart))
      (λ lo hi. omega (arith, lo, apart))
      ∙ put_same f (word_place p.map NextTask) (task % 65536)

  pub closed_count : closed (word_place p.map ListLength) ≡ n + length (runs_of p.privates)
  closed_count =
      at_close (word_place p.map ListLength) (λ e. omega (arith, e, apart)) (λ e. omega (arith, e, apart)) (λ e. omega (arith, e, apart))
      ∙ count_there (word_place p.map ListLength) p.map.list.address (runs_of p.privates) n told
      (put_other f (word_place p.map NextTask) (task % 65536) (word_place p.map ListLength) (λ e. omega (arith, e, apart)))

  -- what the list names: what it named, and the private scalars
  pub closed_pairs : n + length (runs_of p.privates) ≤ room.list → entries_from (closed (word_place p.map ListLength)) p.map.list.address closed
      ≡ entries_from n p.map.list.address f ++ flat_map scalar_pairs p.privates
  closed_pairs few =
      let list = p.map.list.address in
      let rs = runs_of p.privates in
      ap (λ k. entries_from k list closed) closed_count
      ∙ entries_alike (n + length rs) list with_entries closed (λ a from to.
      at_close a (λ e. omega (arith, e, from, apart)) (λ e. omega (arith, e, from, apart)) (λ e. omega (arith, e, to, few, apart)))
      ∙ entries_name (word_place p.map ListLength) list rs n told (omega (arith, apart))
      ∙ ap (λ l. l ++ pairs_of_runs rs)
      (entries_alike n list f told (λ a from to. put_other f (word_place p.map NextTask) (task % 65536) a (λ e. omega (arith, e, from, apart))))
      ∙ ap (λ l. entries_from n list f ++ l) (runs_pairs p.privates)

  -- each entry has a word, where each had one
  pub closed_entries : n + length (runs_of p.privates) ≤ room.list
      → ((j : ℕ) → j < n → 0 < f (p.map.list.address + 6 * j + 4)) → (j : ℕ) → j < closed (word_place p.map ListLength)
      → 0 < closed (p.map.list.address + 6 * j + 4)
  closed_entries few before j h =
      let list = p.map.list.address in
      let count = closed_count in
      let there = entries_have_words (word_place p.map ListLength) list (runs_of p.privates) n told (omega (arith, apart)) (runs_have_words p.privates)
      (λ k lt. subst (λ w. 0 < w)
      (sym (put_other f (word_place p.map NextTask) (task % 65536) (list + 6 * k + 4) (λ e. omega (arith, e, apart)))) (before k lt))
      j (omega (arith, h, count)) in
      subst (λ w. 0 < w)
      (sym (at_close (list + 6 * j + 4) (λ e. omega (arith, e, apart)) (λ e. omega (arith, e, apart)) (λ e. omega (arith, e, h, count, few, apart)))) there

  -- a word at which a transition doesn't store
  pub record IsLeft (a : ℕ) : Type 0 where
    pub next_task : a ≡ word_place p.map NextTask → ⊥
    pub gate : a ≡ word_place p.map Gate → ⊥
    pub list_length : a ≡ word_place p.map ListLength → ⊥
    pub sent_base : a ≡ word_place p.map SentBase → ⊥
    pub sent_tail : a ≡ sent_place → ⊥
    pub entries : 6 * n + p.map.list.address ≤ a → a < 6 * (n + length (runs_of p.privates)) + p.map.list.address → ⊥

  pub closed_left : (a : ℕ) → IsLeft a → closed a ≡ f a
  closed_left a h =
      at_close a h.gate h.sent_base h.sent_tail
      ∙ entries_elsewhere (word_place p.map ListLength) p.map.list.address (runs_of p.privates) n a told h.list_length h.entries
      ∙ put_other f (word_place p.map NextTask) (task % 65536) a h.next_task
