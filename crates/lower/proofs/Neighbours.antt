-- Private scalars as runs: no more runs than scalars, the same words.
use Rattle.lower.proofs.Names.{◌≡◌, suc, ◌+◌, ◌*◌, ◌<◌, ◌≤◌, Bool, true, false, List, [], ◌∷◌, ◌++◌, length, refl, ap, ◌∙◌, arith, if◌then◌else◌}
use Rattle.lower.proofs.Names.{append_assoc, nat_tests, AllByRecursion, flat_map, PrivateScalar, scalar_words, some_words, few_words, CopyPair, run_pairs}
use Rattle.lower.proofs.Names.{scalar_pairs, run_behind, Run, run_at, is_followed_by, longer, runs_from, runs_of}

-- what a test of two comparisons says
followed : (r : Run) (s : PrivateScalar) → is_followed_by r s ≡ true → (r.home + 2 * r.words ≡ s.home) × (r.copy + 2 * r.words ≡ s.copy)
followed r s e = grind (arith, nat_tests)

-- a run that a scalar of the memory follows is shorter than the memory with it
pub followed_has_room : (r : Run) (s : PrivateScalar) → s.home < 65536 → is_followed_by r s ≡ true → r.words + scalar_words s.width < 65536
followed_has_room r s small e =
    let same = (followed r s e).0 in
    let few = few_words s.width in
    omega (arith, same, small, few)

-- a run's words
abbrev pub pairs_of_run : Run → List CopyPair
pairs_of_run r = run_pairs r.words r.home r.copy

-- runs one behind another
abbrev pub pairs_of_runs : List Run → List CopyPair
pairs_of_runs [] = []
pairs_of_runs (r ∷ rs) = pairs_of_run r ++ pairs_of_runs rs

-- a run with the scalar that follows it
longer_pairs : (r : Run) (s : PrivateScalar) → is_followed_by r s ≡ true → pairs_of_run (longer r s) ≡ pairs_of_run r ++ scalar_pairs s
longer_pairs r s e =
    let meets = followed r s e in
    let n = scalar_words s.width in
    run_behind r.words n r.home r.copy ∙ (λ k. pairs_of_run r ++ run_pairs n (meets.0 k) (meets.1 k))

-- what is said of a run, of the scalars behind it and of the runs of all: of none behind it, of one that belongs to it, and of one that begins another
module _ (P : Run → List PrivateScalar → List Run → Type 0) (last : (r : Run) → P r [] (r ∷ []))
    (follows : (r : Run) (s : PrivateScalar) (more : List PrivateScalar) (rs : List Run) → is_followed_by r s ≡ true → P (longer r s) more rs
    → P r (s ∷ more) rs)
    (begins : (r : Run) (s : PrivateScalar) (more : List PrivateScalar) (rs : List Run) → P (run_at s) more rs → P r (s ∷ more) (r ∷ rs)) where
  either_way : (b : Bool) (r : Run) (s : PrivateScalar) (more : List PrivateScalar) → is_followed_by r s ≡ b
      → P (longer r s) more (runs_from (longer r s) more) → P (run_at s) more (runs_from (run_at s) more)
      → P r (s ∷ more) (if b then runs_from (longer r s) more else r ∷ runs_from (run_at s) more)
  either_way true r s more e joined apart = follows r s more (runs_from (longer r s) more) e joined
  either_way false r s more e joined apart = begins r s more (runs_from (run_at s) more) apart

  pub of_runs : (r : Run) (privates : List PrivateScalar) → P r privates (runs_from r privates)
  of_runs r [] = last r
  of_runs r (s ∷ more) = either_way (is_followed_by r s) r s more refl (of_runs (longer r s) more) (of_runs (run_at s) more)

-- the words of the runs are the scalars' words, in the same order
pub runs_pairs : (privates : List PrivateScalar) → pairs_of_runs (runs_of privates) ≡ flat_map scalar_pairs privates
runs_pairs [] = refl
runs_pairs (s ∷ more) =
    of_runs (λ r privates rs. pairs_of_runs rs ≡ pairs_of_run r ++ flat_map scalar_pairs privates) (λ r. refl)
    (λ r s more rs e h. h ∙ ap (λ l. l ++ flat_map scalar_pairs more) (longer_pairs r s e)
    ∙ append_assoc (pairs_of_run r) (scalar_pairs s) (flat_map scalar_pairs more))
    (λ r s more rs h. ap (λ l. pairs_of_run r ++ l) h) (run_at s) more

-- what holds of runs, from their scalars on
module _ (Q : PrivateScalar → Type 0) (P : Run → Type 0) (one : (s : PrivateScalar) → Q s → P (run_at s))
    (more_words : (r : Run) (s : PrivateScalar) → Q s → is_followed_by r s ≡ true → P r → P (longer r s)) where
  pub runs_hold : (privates : List PrivateScalar) → AllByRecursion Q privates → AllByRecursion P (runs_of privates)
  runs_hold [] h = tt
  runs_hold (s ∷ more) h =
      of_runs (λ r privates rs. AllByRecursion Q privates → P r → AllByRecursion P rs) (λ r h k. (k, tt))
      (λ r s more rs e f h k. f h.1 (more_words r s h.0 e k)) (λ r s more rs f h k. (k, f h.1 (one s h.0))) (run_at s) more h.1 (one s h.0)

any : (privates : List PrivateScalar) → AllByRecursion (λ s. Unit {0}) privates
any [] = tt
any (s ∷ more) = (tt, any more)

-- each run has a word
pub runs_have_words : (privates : List PrivateScalar) → AllByRecursion (λ r. 0 < r.words) (runs_of privates)
runs_have_words privates = runs_hold (λ s. Unit {0}) (λ r. 0 < r.words) (λ s h. some_words s.width) (λ r s h e k. omega (arith, k)) privates (any privates)

-- a run that is of words
pub record RunOfWords (r : Run) : Type 0 where
  pub home : r.home < 65536
  pub copy : r.copy < 65536
  pub words : r.words < 65536

-- runs of scalars that stand at words are of words
pub runs_of_words : (privates : List PrivateScalar) → AllByRecursion (λ s. (s.home < 65536) × (s.copy < 65536)) privates
    → AllByRecursion RunOfWords (runs_of privates)
runs_of_words = runs_hold (λ s. (s.home < 65536) × (s.copy < 65536)) RunOfWords
    (λ s h. record { home = h.0; copy = h.1; words = let few = few_words s.width in omega (arith, few) })
    (λ r s h e k. record { home = k.home; copy = k.copy; words = followed_has_room r s h.0 e })

-- no more runs than scalars
pub runs_are_few : (privates : List PrivateScalar) → length (runs_of privates) ≤ length privates
runs_are_few [] = omega arith
runs_are_few (s ∷ more) = of_runs (λ r privates rs. length rs ≤ suc (length privates)) (λ r. omega arith) (λ r s more rs e h. omega (arith, h))
    (λ r s more rs h. omega (arith, h)) (run_at s) more
