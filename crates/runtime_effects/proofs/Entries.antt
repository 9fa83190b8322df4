-- The runs that the entries of the commit list name.
use Rattle.std.proofs.Common.{◌≡◌, ℕ, zero, suc, ◌+◌, ◌*◌, ◌<◌, ◌≤◌, List, [], ◌∷◌, ◌++◌, length, refl, sym, ap, ◌∙◌, subst, arith, Some}
use Rattle.std.proofs.Common.{append_assoc, append-nil, length-append}
use Rattle.std.specs.Prelude.{slice_get, All}
use Rattle.std.specs.List.{flat_map}
use Rattle.std.proofs.lemmas.List.Elements.{All-nil, All-cons}
use Rattle.memory_map.specs.declared.place.PrivateScalar.{PrivateScalar}
use Rattle.memory_map.specs.Places.{scalar_words}
use Rattle.memory_map.specs.Spots.{private_words}
use Rattle.runtime_effects.specs.Places.{CopyPair, run_pairs, scalar_pairs, entries_from}

-- a run has as many words as it says
pub run_length : (n home copy : ℕ) → length (run_pairs n home copy) ≡ n
run_length zero home copy = refl
run_length (suc n) home copy = ap suc (run_length n (home + 2) (copy + 2))

-- a run that is a word longer
pub run_longer : (n home copy : ℕ) → run_pairs (suc n) home copy ≡ run_pairs n home copy ++ record { home = home + 2 * n; copy = copy + 2 * n } ∷ []
run_longer zero home copy =
    let e : home ≡ home + 2 * 0 = omega arith in
    let d : copy ≡ copy + 2 * 0 = omega arith in
    ap (λ a. record { home = a; copy = copy } ∷ []) e ∙ ap (λ b. record { home = home + 2 * 0; copy = b } ∷ []) d
run_longer (suc n) home copy =
    let first : CopyPair = record { home = home; copy = copy } in
    let e : home + 2 + 2 * n ≡ home + 2 * suc n = omega arith in
    let d : copy + 2 + 2 * n ≡ copy + 2 * suc n = omega arith in
    ap (λ l. first ∷ l) (run_longer n (home + 2) (copy + 2))
    ∙ ap (λ a. first ∷ (run_pairs n (home + 2) (copy + 2) ++ record { home = a; copy = copy + 2 + 2 * n } ∷ [])) e
    ∙ ap (λ b. first ∷ (run_pairs n (home + 2) (copy + 2) ++ record { home = home + 2 * suc n; copy = b } ∷ [])) d

-- words behind words
pub run_behind : (n k home copy : ℕ) → run_pairs (n + k) home copy ≡ run_pairs n home copy ++ run_pairs k (home + 2 * n) (copy + 2 * n)
run_behind zero k home copy =
    let none : 0 + k ≡ k = omega arith in
    let e : home ≡ home + 2 * 0 = omega arith in
    let d : copy ≡ copy + 2 * 0 = omega arith in
    ap (λ j. run_pairs j home copy) none ∙ ap (λ a. run_pairs k a copy) e ∙ ap (λ b. run_pairs k (home + 2 * 0) b) d
run_behind (suc n) k home copy =
    let first : CopyPair = record { home = home; copy = copy } in
    let front = run_pairs n (home + 2) (copy + 2) in
    let more : suc n + k ≡ suc (n + k) = omega arith in
    let e : home + 2 + 2 * n ≡ home + 2 * suc n = omega arith in
    let d : copy + 2 + 2 * n ≡ copy + 2 * suc n = omega arith in
    ap (λ j. run_pairs j home copy) more
    ∙ ap (λ l. first ∷ l) (run_behind n k (home + 2) (copy + 2))
    ∙ ap (λ a. first ∷ (front ++ run_pairs k a (copy + 2 + 2 * n))) e
    ∙ ap (λ b. first ∷ (front ++ run_pairs k (home + 2 * suc n) b)) d

-- word i of a run
pub run_at : (n home copy i : ℕ) → i < n → slice_get (run_pairs n home copy) i ≡ Some (record { home = 2 * i + home; copy = 2 * i + copy })
run_at zero home copy i l = absurd (omega (arith, l))
run_at (suc n) home copy zero l =
    let e : home ≡ 2 * 0 + home = omega arith in
    let d : copy ≡ 2 * 0 + copy = omega arith in
    ap (λ a. Some (record { home = a; copy = copy })) e ∙ ap (λ b. Some (record { home = 2 * 0 + home; copy = b })) d
run_at (suc n) home copy (suc i) l =
    let e : 2 * i + (home + 2) ≡ 2 * suc i + home = omega arith in
    let d : 2 * i + (copy + 2) ≡ 2 * suc i + copy = omega arith in
    run_at n (home + 2) (copy + 2) i (omega (arith, l))
    ∙ ap (λ a. Some (record { home = a; copy = 2 * i + (copy + 2) })) e ∙ ap (λ b. Some (record { home = 2 * suc i + home; copy = b })) d

-- what holds of each word of a run holds of its pairs
pub run_all : (P : CopyPair → Type 0) (n home copy : ℕ) → ((i : ℕ) → i < n → P (record { home = 2 * i + home; copy = 2 * i + copy }))
    → All P (run_pairs n home copy)
run_all P zero home copy h = All-nil P
run_all P (suc n) home copy h =
    let first : CopyPair = record { home = home; copy = copy } in
    let e : 2 * 0 + home ≡ home = omega arith in
    let d : 2 * 0 + copy ≡ copy = omega arith in
    let here = subst (λ b. P (record { home = home; copy = b })) d (subst (λ a. P (record { home = a; copy = 2 * 0 + copy })) e (h 0 (omega arith))) in
    let moved : (i : ℕ) → i < n → P (record { home = 2 * i + (home + 2); copy = 2 * i + (copy + 2) }) = λ i l.
    let e : 2 * suc i + home ≡ 2 * i + (home + 2) = omega arith in
    let d : 2 * suc i + copy ≡ 2 * i + (copy + 2) = omega arith in
    let here = subst (λ a. P (record { home = a; copy = 2 * suc i + copy })) e (h (suc i) (omega (arith, l))) in
    subst (λ b. P (record { home = 2 * i + (home + 2); copy = b })) d here in
    All-cons P first (run_pairs n (home + 2) (copy + 2)) here (run_all P n (home + 2) (copy + 2) moved)

-- private scalars have as many pairs as words
pub scalar_pairs_count : (privates : List PrivateScalar) → length (flat_map scalar_pairs privates) ≡ private_words privates
scalar_pairs_count [] = refl
scalar_pairs_count (s ∷ more) =
    let both = length-append (scalar_pairs s) (flat_map scalar_pairs more) in
    let first = run_length (scalar_words s.width) s.home s.copy in
    let rest = scalar_pairs_count more in
    omega (arith, both, first, rest)

-- entries behind entries
pub entries_behind : (n k p : ℕ) (f : ℕ → ℕ) → entries_from (n + k) p f ≡ entries_from n p f ++ entries_from k (p + 6 * n) f
entries_behind zero k p f =
    let none : 0 + k ≡ k = omega arith in
    let e : p ≡ p + 6 * 0 = omega arith in
    ap (λ j. entries_from j p f) none ∙ ap (λ q. entries_from k q f) e
entries_behind (suc n) k p f =
    let first = run_pairs (f (p + 4)) (f p) (f (p + 2)) in
    let e : p + 6 + 6 * n ≡ p + 6 * suc n = omega arith in
    let more : suc n + k ≡ suc (n + k) = omega arith in
    ap (λ j. entries_from j p f) more
    ∙ ap (λ l. first ++ l) (entries_behind n k (p + 6) f)
    ∙ ap (λ q. first ++ (entries_from n (p + 6) f ++ entries_from k q f)) e
    ∙ sym (append_assoc first (entries_from n (p + 6) f) (entries_from k (p + 6 * suc n) f))

-- FRAM that has the same words there has the same entries
pub entries_alike : (n p : ℕ) (f g : ℕ → ℕ) → ((a : ℕ) → p ≤ a → a < p + 6 * n → g a ≡ f a) → entries_from n p g ≡ entries_from n p f
entries_alike zero p f g h = refl
entries_alike (suc n) p f g h =
    let home = h p (omega arith) (omega arith) in
    let copy = h (p + 2) (omega arith) (omega arith) in
    let words = h (p + 4) (omega arith) (omega arith) in
    ap (λ w. run_pairs w (g p) (g (p + 2)) ++ entries_from n (p + 6) g) words
    ∙ ap (λ a. run_pairs (f (p + 4)) a (g (p + 2)) ++ entries_from n (p + 6) g) home
    ∙ ap (λ b. run_pairs (f (p + 4)) (f p) b ++ entries_from n (p + 6) g) copy
    ∙ ap (λ l. run_pairs (f (p + 4)) (f p) (f (p + 2)) ++ l) (entries_alike n (p + 6) f g (λ a l u. h a (omega (arith, l)) (omega (arith, u))))

-- the entries in front of the last, and the last
pub last_apart : (n p : ℕ) (f : ℕ → ℕ)
    → entries_from (suc n) p f ≡ entries_from n p f ++ run_pairs (f (p + 6 * n + 4)) (f (p + 6 * n)) (f (p + 6 * n + 2))
last_apart n p f =
    let run = run_pairs (f (p + 6 * n + 4)) (f (p + 6 * n)) (f (p + 6 * n + 2)) in
    let more : suc n ≡ n + 1 = omega arith in
    ap (λ j. entries_from j p f) more ∙ entries_behind n 1 p f ∙ ap (λ l. entries_from n p f ++ l) (append-nil run)

-- entries whose runs have at least a word are no more than the words
pub entries_are_few : (n p : ℕ) (f : ℕ → ℕ) → ((i : ℕ) → i < n → 0 < f (p + 6 * i + 4)) → n ≤ length (entries_from n p f)
entries_are_few zero p f h = omega arith
entries_are_few (suc n) p f h =
    let at : p + 6 * 0 + 4 ≡ p + 4 = omega arith in
    let some = subst (λ q. 0 < f q) at (h 0 (omega arith)) in
    let rest = entries_are_few n (p + 6) f (λ i l.
    let there : p + 6 * suc i + 4 ≡ p + 6 + 6 * i + 4 = omega arith in subst (λ q. 0 < f q) there (h (suc i) (omega (arith, l)))) in
    let run = run_length (f (p + 4)) (f p) (f (p + 2)) in
    let both = length-append (run_pairs (f (p + 4)) (f p) (f (p + 2))) (entries_from n (p + 6) f) in
    omega (arith, some, rest, run, both)
