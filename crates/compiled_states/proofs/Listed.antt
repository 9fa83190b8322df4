-- The commit list of a state, entry by entry, and the words that it names, pair by pair.
use Rattle.compiled_states.proofs.Names.{◌≡◌, inl, inr, ℕ, zero, suc, ◌+◌, ◌*◌, ◌%◌, ◌<◌, ◌≤◌, true, List, [], ◌∷◌, ◌++◌, length, refl, sym, ap, ◌∙◌, subst}
use Rattle.compiled_states.proofs.Names.{⊎_elim, arith, length-append, nat_le, list_all, leb-true, le-leb, eqb-true, eq-eqb, and_parts, and_from, end_of}
use Rattle.compiled_states.proofs.Names.{even_of, CopyPair, run_pairs, entries_from, ProgramPlaces, IsSharedWord, IsCopyWord, IsAmong, program_places, MapValue}
use Rattle.compiled_states.proofs.Names.{IsFramWord, IsFram, fram_of, steady, Entry, lies_in, copies_words, is_shared, word_in, words_from, entries_of}
use Rattle.compiled_states.proofs.Names.{are_shared}
use Rattle.compiled_states.proofs.Names.{is_even, is_entry, words_of, first_entry, among_either, among_front, among_back}
use Rattle.std.proofs.lemmas.List.Sums.{sum_by-cons}
use Rattle.runtime_effects.proofs.Interface.{run_length}
use Rattle.fram_state.specs.Stretch.{words_at}
use Rattle.compiled_states.proofs.Words.{steady_at}
use Rattle.compiled_states.proofs.Named.{Mapped, its_map, copies_are, shared_is, is_a_shared}

-- ---- pairs

-- something holds of each of these pairs
abbrev pub EachPair : (CopyPair → Type 0) → List CopyPair → Type 0
EachPair P ps = (q : CopyPair) → IsAmong ps q → P q

-- the pairs of an entry, and those of entries
abbrev pub pairs_of : Entry → List CopyPair
pairs_of e = run_pairs e.words e.home e.copy

abbrev pub all_pairs : List Entry → List CopyPair
all_pairs [] = []
all_pairs (e ∷ es) = pairs_of e ++ all_pairs es

pub all_length : (es : List Entry) → length (all_pairs es) ≡ words_of es
all_length [] = refl
all_length (e ∷ es) =
    let both = length-append (pairs_of e) (all_pairs es) in
    let here = run_length e.words e.home e.copy in
    let rest = all_length es in
    let sum : words_of (e ∷ es) ≡ e.words + words_of es = sum_by-cons (λ e. e.words) e es in
    omega (arith, both, here, rest, sum)

-- each of these entries has a word
abbrev pub HaveWords : List Entry → Type 0
HaveWords [] = Unit {0}
HaveWords (e ∷ es) = (0 < e.words) × HaveWords es

-- ---- an entry goes from copies to shared words
module _ (own : Mapped) where
  open own use {program as p, layout as l, laid}

  abbrev m : MapValue
  m = its_map own

  abbrev places : ProgramPlaces
  places = program_places p l

  abbrev HomesAre : List CopyPair → Type 0
  HomesAre = EachPair (λ q. IsSharedWord places q.home)

  abbrev CopiesAre : List CopyPair → Type 0
  CopiesAre = EachPair (λ q. IsCopyWord places q.copy)

  homes_of : (n home copy : ℕ) → home % 2 ≡ 0 → are_shared m.variables n home ≡ true → HomesAre (run_pairs n home copy)
  homes_of zero home copy even h q a = absurd a
  homes_of (suc n) home copy even h q (inl e) =
      let both = and_parts (is_shared m.variables home) (are_shared m.variables n (home + 2)) h in
      subst (λ r. IsSharedWord places r.home) (sym e) (shared_is own home even both.0)
  homes_of (suc n) home copy even h q (inr a) =
      let both = and_parts (is_shared m.variables home) (are_shared m.variables n (home + 2)) h in
      homes_of n (home + 2) (copy + 2) (omega (arith, even)) both.1 q a

  are_homes : (n home copy : ℕ) → HomesAre (run_pairs n home copy) → are_shared m.variables n home ≡ true
  are_homes zero home copy h = refl
  are_homes (suc n) home copy h =
      and_from (is_shared m.variables home) (are_shared m.variables n (home + 2))
      (is_a_shared own home (h (record { home = home; copy = copy }) (inl refl)))
      (are_homes n (home + 2) (copy + 2) (λ q a. h q (inr a)))

  copies_of : (n home copy : ℕ) → copy % 2 ≡ 0 → l.copies.address ≤ copy → copy + 2 * n ≤ end_of l.copies → CopiesAre (run_pairs n home copy)
  copies_of zero home copy even low high q a = absurd a
  copies_of (suc n) home copy even low high q (inl e) =
      subst (λ r. IsCopyWord places r.copy) (sym e) (record { even = even; from = low; below = omega (arith, high) })
  copies_of (suc n) home copy even low high q (inr a) =
      copies_of n (home + 2) (copy + 2) (omega (arith, even)) (omega (arith, low)) (omega (arith, high)) q a

  copies_end : (n home copy : ℕ) → CopiesAre (run_pairs (suc n) home copy) → copy + 2 * suc n ≤ end_of l.copies
  copies_end zero home copy h =
      let c = h (record { home = home; copy = copy }) (inl refl) in
      let start = (even_of l laid.layout.rules).copies in
      let even = c.even in let high = c.below in omega (arith, even, high, start)
  copies_end (suc n) home copy h = let rest = copies_end n (home + 2) (copy + 2) (λ q a. h q (inr a)) in omega (arith, rest)

  -- an entry as it has to be
  pub record IsGood (e : Entry) : Type 0 where
    pub some : 0 < e.words
    pub homes : HomesAre (pairs_of e)
    pub copied : CopiesAre (pairs_of e)

  good_entry : (e : Entry) → is_entry m e ≡ true → IsGood e
  good_entry e h =
      let a = and_parts (nat_le 1 e.words) _ h in
      let b = and_parts (is_even e.copy) _ a.1 in
      let c = and_parts (lies_in (words_at e.copy e.words) (copies_words m.copies)) _ b.1 in
      let d = and_parts (is_even e.home) (are_shared m.variables e.words e.home) c.1 in
      let there = and_parts (nat_le l.copies.address e.copy) (nat_le (e.copy + 2 * e.words) (end_of l.copies))
      (subst (λ r. lies_in (words_at e.copy e.words) r ≡ true) (copies_are own) c.0) in
      let some = leb-true 1 e.words a.0 in
      record {
        some = omega (arith, some);
        homes = homes_of e.words e.home e.copy (eqb-true (e.home % 2) 0 d.0) d.1;
        copied = copies_of e.words e.home e.copy (eqb-true (e.copy % 2) 0 b.0) (leb-true l.copies.address e.copy there.0)
            (leb-true (e.copy + 2 * e.words) (end_of l.copies) there.1);
      }

  entry_by : (n home copy : ℕ) → HomesAre (run_pairs (suc n) home copy) → CopiesAre (run_pairs (suc n) home copy)
      → is_entry m (record { home = home; copy = copy; words = suc n }) ≡ true
  entry_by n home copy homes copied =
      let first : CopyPair = record { home = home; copy = copy } in
      let c = copied first (inl refl) in
      let home_is = homes first (inl refl) in
      and_from (nat_le 1 (suc n)) _ (le-leb 1 (suc n) (omega arith))
      (and_from (is_even copy) _ (eq-eqb (copy % 2) 0 c.even)
      (and_from (lies_in (words_at copy (suc n)) (copies_words m.copies)) _
      (subst (λ r. lies_in (words_at copy (suc n)) r ≡ true) (sym (copies_are own))
      (and_from (nat_le l.copies.address copy) (nat_le (copy + 2 * suc n) (end_of l.copies)) (le-leb l.copies.address copy c.from)
      (le-leb (copy + 2 * suc n) (end_of l.copies) (copies_end n home copy copied))))
      (and_from (is_even home) (are_shared m.variables (suc n) home) (eq-eqb (home % 2) 0 home_is.even) (are_homes (suc n) home copy homes))))

  entry_is_good : (home copy words : ℕ) → IsGood (record { home = home; copy = copy; words = words })
      → is_entry m (record { home = home; copy = copy; words = words }) ≡ true
  entry_is_good home copy zero g = let some = g.some in absurd (omega (arith, some))
  entry_is_good home copy (suc n) g = entry_by n home copy g.homes g.copied

  -- entries as they have to be
  abbrev pub AreGood : List Entry → Type 0
  AreGood [] = Unit {0}
  AreGood (e ∷ es) = IsGood e × AreGood es

  pub good_entries : (es : List Entry) → list_all (is_entry m) es ≡ true → AreGood es
  good_entries [] h = tt
  good_entries (e ∷ es) h = let both = and_parts (is_entry m e) (list_all (is_entry m) es) h in (good_entry e both.0, good_entries es both.1)

  pub are_good_entries : (es : List Entry) → AreGood es → list_all (is_entry m) es ≡ true
  are_good_entries [] g = refl
  are_good_entries (e ∷ es) g =
      and_from (is_entry m e) (list_all (is_entry m) es) (entry_is_good e.home e.copy e.words g.0) (are_good_entries es g.1)

  pub good_words : (es : List Entry) → AreGood es → HaveWords es
  good_words [] g = tt
  good_words (e ∷ es) g = (g.0.some, good_words es g.1)

  pub good_homes : (es : List Entry) → AreGood es → HomesAre (all_pairs es)
  good_homes [] g q a = absurd a
  good_homes (e ∷ es) g q a = ⊎_elim {C = IsSharedWord places q.home} (g.0.homes q) (good_homes es g.1 q) (among_either (pairs_of e) (all_pairs es) q a)

  pub good_copies : (es : List Entry) → AreGood es → CopiesAre (all_pairs es)
  good_copies [] g q a = absurd a
  good_copies (e ∷ es) g q a = ⊎_elim {C = IsCopyWord places q.copy} (g.0.copied q) (good_copies es g.1 q) (among_either (pairs_of e) (all_pairs es) q a)

  pub by_pairs : (es : List Entry) → HaveWords es → HomesAre (all_pairs es) → CopiesAre (all_pairs es) → AreGood es
  by_pairs [] some homes copied = tt
  by_pairs (e ∷ es) some homes copied = (
    record {
      some = some.0;
      homes = λ q a. homes q (among_front (pairs_of e) (all_pairs es) q a);
      copied = λ q a. copied q (among_front (pairs_of e) (all_pairs es) q a);
    },
    by_pairs es some.1 (λ q a. homes q (among_back (pairs_of e) (all_pairs es) q a)) (λ q a. copied q (among_back (pairs_of e) (all_pairs es) q a)),
  )

-- ---- the entries in the FRAM
module _ (words : List ℕ) (all : length words ≡ 24064) where
  abbrev f : ℕ → ℕ
  f = steady (fram_of words)

  -- the entries of so many from an address on
  abbrev pub entries_at : ℕ → ℕ → List Entry
  entries_at n a = entries_of (words_from words a (3 * n))

  is_word : (a : ℕ) → IsFram a → IsFramWord a
  is_word a is = record { low = is.low; high = is.high; even = is.even }

  -- the one at an address
  abbrev entry_at : ℕ → Entry
  entry_at a = record { home = word_in words a; copy = word_in words (a + 2); words = word_in words (a + 4) }

  module _ (a n : ℕ) (even : a % 2 ≡ 0) (low : 0x4400 ≤ a) (high : a + 6 * suc n ≤ 0xFF20) where
    is_here : IsFram a
    is_here = record { even = even; low = low; high = omega (arith, high) }

    is_copy : IsFram (a + 2)
    is_copy = record { even = omega (arith, even); low = omega (arith, low); high = omega (arith, high) }

    is_count : IsFram (a + 4)
    is_count = record { even = omega (arith, even); low = omega (arith, low); high = omega (arith, high) }

    pub count_is : f (a + 4) ≡ word_in words (a + 4)
    count_is = steady_at words (a + 4) is_count (omega (arith, high))

    pub entries_split : entries_at (suc n) a ≡ entry_at a ∷ entries_at n (a + 6)
    entries_split = first_entry words a n all (is_word a is_here) (omega (arith, high))

    pub pairs_split : run_pairs (f (a + 4)) (f a) (f (a + 2)) ≡ pairs_of (entry_at a)
    pairs_split =
        ap (λ k. run_pairs k (f a) (f (a + 2))) count_is ∙ ap (λ h. run_pairs (word_in words (a + 4)) h (f (a + 2)))
        (steady_at words a is_here (omega (arith, high)))
        ∙ ap (λ c. run_pairs (word_in words (a + 4)) (word_in words a) c) (steady_at words (a + 2) is_copy (omega (arith, high)))

  -- the pairs that entries name are those of the entries
  pub pairs_are : (n a : ℕ) → a % 2 ≡ 0 → 0x4400 ≤ a → a + 6 * n ≤ 0xFF20 → entries_from n a f ≡ all_pairs (entries_at n a)
  pairs_are zero a even low high = refl
  pairs_are (suc n) a even low high =
      ap (λ ps. ps ++ entries_from n (a + 6) f) (pairs_split a n even low high)
      ∙ ap (λ ps. pairs_of (entry_at a) ++ ps) (pairs_are n (a + 6) (omega (arith, even)) (omega (arith, low)) (omega (arith, high)))
      ∙ ap all_pairs (sym (entries_split a n even low high))

  -- each of them has a word
  pub counts_some : (n a : ℕ) → a % 2 ≡ 0 → 0x4400 ≤ a → a + 6 * n ≤ 0xFF20 → HaveWords (entries_at n a) → (i : ℕ) → i < n → 0 < f (a + 6 * i + 4)
  counts_some zero a even low high h i lt = absurd (omega (arith, lt))
  counts_some (suc n) a even low high h zero lt =
      let all_words : HaveWords (entry_at a ∷ entries_at n (a + 6)) = subst HaveWords (entries_split a n even low high) h in
      let some = all_words.0 in
      let at : a + 6 * 0 + 4 ≡ a + 4 = omega arith in
      let same = ap f at in let count = count_is a n even low high in omega (arith, same, count, some)
  counts_some (suc n) a even low high h (suc i) lt =
      let all_words : HaveWords (entry_at a ∷ entries_at n (a + 6)) = subst HaveWords (entries_split a n even low high) h in
      let rest = counts_some n (a + 6) (omega (arith, even)) (omega (arith, low)) (omega (arith, high)) all_words.1 i (omega (arith, lt)) in
      let at : a + 6 * suc i + 4 ≡ (a + 6) + 6 * i + 4 = omega arith in
      let same = ap f at in omega (arith, same, rest)

  pub some_counts : (n a : ℕ) → a % 2 ≡ 0 → 0x4400 ≤ a → a + 6 * n ≤ 0xFF20 → ((i : ℕ) → i < n → 0 < f (a + 6 * i + 4)) → HaveWords (entries_at n a)
  some_counts zero a even low high h = tt
  some_counts (suc n) a even low high h =
      let here : 0 < word_in words (a + 4) =
      (let at : a + 6 * 0 + 4 ≡ a + 4 = omega arith in
      let same = ap f at in let count = count_is a n even low high in let some = h 0 (omega arith) in omega (arith, same, count, some)) in
      let rest : HaveWords (entries_at n (a + 6)) =
      some_counts n (a + 6) (omega (arith, even)) (omega (arith, low)) (omega (arith, high)) (λ i lt.
      let at : (a + 6) + 6 * i + 4 ≡ a + 6 * suc i + 4 = omega arith in
      let same = ap f at in let some = h (suc i) (omega (arith, lt)) in omega (arith, same, some)) in
      subst HaveWords (sym (entries_split a n even low high)) (here, rest)
