-- Pairs of words and their copies, and private scalars word by word.
use Rattle.layout_facts.proofs.Names.{◌≡◌, ℕ, zero, suc, ◌+◌, ◌*◌, ◌<◌, List, [], ◌∷◌, ◌++◌, length, get_or, Some, sym, ◌∙◌, subst, ⊎_elim, inl, inr, ◌⊎◌, refl}
use Rattle.layout_facts.proofs.Names.{arith, Contains, slice_get, flat_map, PrivateScalar, scalar_words, CopyPair, run_pairs, scalar_pairs, IsAmong}

-- ---- pairs of two lists

pub among_either : (ps qs : List CopyPair) (q : CopyPair) → IsAmong (ps ++ qs) q → IsAmong ps q ⊎ IsAmong qs q
among_either [] qs q h = inr h
among_either (p ∷ ps) qs q h =
    ⊎_elim {C = IsAmong (p ∷ ps) q ⊎ IsAmong qs q} (λ e. inl (inl e))
    (λ k. ⊎_elim {C = IsAmong (p ∷ ps) q ⊎ IsAmong qs q} (λ a. inl (inr a)) (λ b. inr b) (among_either ps qs q k)) h

pub among_front : (ps qs : List CopyPair) (q : CopyPair) → IsAmong ps q → IsAmong (ps ++ qs) q
among_front [] qs q h = absurd h
among_front (p ∷ ps) qs q h = ⊎_elim {C = IsAmong ((p ∷ ps) ++ qs) q} (λ e. inl e) (λ k. inr (among_front ps qs q k)) h

pub among_back : (ps qs : List CopyPair) (q : CopyPair) → IsAmong qs q → IsAmong (ps ++ qs) q
among_back [] qs q h = h
among_back (p ∷ ps) qs q h = inr (among_back ps qs q h)

-- ---- runs of words

-- a word and its copy, so many words behind two addresses
abbrev pub pair_at : ℕ → ℕ → ℕ → CopyPair
pair_at home copy i = record { home = 2 * i + home; copy = 2 * i + copy }

first_pair : (home copy : ℕ) → record { home = home; copy = copy } ≡ pair_at home copy 0
first_pair home copy =
    let a : home ≡ 2 * 0 + home = omega arith in
    let b : copy ≡ 2 * 0 + copy = omega arith in
    λ k. record { home = a k; copy = b k }

next_pair : (home copy i : ℕ) → pair_at (home + 2) (copy + 2) i ≡ pair_at home copy (suc i)
next_pair home copy i =
    let a : 2 * i + (home + 2) ≡ 2 * suc i + home = omega arith in
    let b : 2 * i + (copy + 2) ≡ 2 * suc i + copy = omega arith in
    λ k. record { home = a k; copy = b k }

run_among : (n home copy i : ℕ) → i < n → IsAmong (run_pairs n home copy) (pair_at home copy i)
run_among zero home copy i l = absurd (omega (arith, l))
run_among (suc n) home copy zero l = inl (sym (first_pair home copy))
run_among (suc n) home copy (suc i) l =
    inr (subst (IsAmong (run_pairs n (home + 2) (copy + 2))) (next_pair home copy i) (run_among n (home + 2) (copy + 2) i (omega (arith, l))))

-- which word of a run it is
record IsWordOfRun (n home copy : ℕ) (q : CopyPair) : Type 0 where
  pub index : ℕ
  pub below : index < n
  pub is : q ≡ pair_at home copy index

among_run : (n home copy : ℕ) (q : CopyPair) → IsAmong (run_pairs n home copy) q → IsWordOfRun n home copy q
among_run zero home copy q h = absurd h
among_run (suc n) home copy q h = ⊎_elim here (λ k. behind (among_run n (home + 2) (copy + 2) q k)) h
  where
    here : q ≡ record { home = home; copy = copy } → IsWordOfRun (suc n) home copy q
    here e = record { index = 0; below = omega arith; is = e ∙ first_pair home copy }

    behind : IsWordOfRun n (home + 2) (copy + 2) q → IsWordOfRun (suc n) home copy q
    behind w = let l = w.below in record { index = suc w.index; below = omega (arith, l); is = w.is ∙ next_pair home copy w.index }

-- ---- private scalars

-- a word of a private scalar and its copy
abbrev pub word_pair : PrivateScalar → ℕ → CopyPair
word_pair s i = pair_at s.home s.copy i

-- a pair is that of a word of a scalar
pub record IsPairOf (s : PrivateScalar) (q : CopyPair) : Type 0 where
  pub index : ℕ
  pub below : index < scalar_words s.width
  pub is : q ≡ word_pair s index

-- the scalar of a pair
pub record IsOfScalars (xs : List PrivateScalar) (q : CopyPair) : Type 0 where
  pub number : ℕ
  pub scalar : PrivateScalar
  pub at : slice_get xs number ≡ Some scalar
  pub pair : IsPairOf scalar q

pub among_scalars : (xs : List PrivateScalar) (q : CopyPair) → IsAmong (flat_map scalar_pairs xs) q → IsOfScalars xs q
among_scalars [] q h = absurd h
among_scalars (s ∷ xs) q h =
    ⊎_elim here (λ k. behind (among_scalars xs q k)) (among_either (scalar_pairs s) (flat_map scalar_pairs xs) q h)
  where
    here : IsAmong (scalar_pairs s) q → IsOfScalars (s ∷ xs) q
    here k =
        let w = among_run (scalar_words s.width) s.home s.copy q k in
        record { number = 0; scalar = s; at = refl; pair = record { index = w.index; below = w.below; is = w.is } }

    behind : IsOfScalars xs q → IsOfScalars (s ∷ xs) q
    behind r = record { number = suc r.number; scalar = r.scalar; at = r.at; pair = r.pair }

-- each word of each scalar has its pair there
pub scalars_among : (xs : List PrivateScalar) (s : PrivateScalar) (i : ℕ) → Contains xs s → i < scalar_words s.width
    → IsAmong (flat_map scalar_pairs xs) (word_pair s i)
scalars_among xs s i h below = go xs h.0 h.1 h.2
  where
    go : (xs : List PrivateScalar) (k : ℕ) → k < length xs → get_or xs k s ≡ s → IsAmong (flat_map scalar_pairs xs) (word_pair s i)
    go [] k l e = absurd (omega (arith, l))
    go (u ∷ more) zero l e =
        let own = run_among (scalar_words s.width) s.home s.copy i below in
        among_front (scalar_pairs u) (flat_map scalar_pairs more) (word_pair s i) (subst (λ x. IsAmong (scalar_pairs x) (word_pair s i)) (sym e) own)
    go (u ∷ more) (suc k) l e = among_back (scalar_pairs u) (flat_map scalar_pairs more) (word_pair s i) (go more k (omega (arith, l)) e)
