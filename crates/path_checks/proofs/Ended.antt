-- What is kept of the ends of ways.
use Rattle.std.proofs.Common.{◌≡◌, ◌==◌, ℕ, Bool, true, false, ◌&&◌, ◌||◌, not, List, [], ◌∷◌, ◌++◌, map, refl, ap, sym, ◌∙◌, if◌then◌else◌, arith}
use Rattle.std.proofs.lemmas.Bool.Decides.{nat_tests}
use Rattle.std.specs.List.{filter}
use Rattle.path_sums.proofs.Interface.{agree}
use Rattle.path_checks.specs.declared.ways.Ended.{Ended}
use Rattle.path_checks.specs.Walks.{turned_back}
use Rattle.path_checks.specs.Ways.{ended, ended_at, ended_unassigned, is_kept}

same_local : (x y : ℕ) → (y == x) ≡ true → y ≡ x
same_local x y h = grind (arith, nat_tests)

ended_append : (a b : List Ended) (x : ℕ) (before : Bool) → ended (a ++ b) x before ≡ ended a x (ended b x before)
ended_append [] b x before = refl
ended_append (e ∷ a) b x before = ap (λ r. if e.local == x then e.assigned else r) (ended_append a b x before)

-- ---- the first end

pub first_ended : (ts : List ℕ) (a : ℕ → Bool) (x : ℕ) → ended (map (ended_at a) ts) x (turned_back ts x (a x)) ≡ a x
first_ended [] a x = refl
first_ended (y ∷ ts) a x = by_test (y == x) refl (first_ended ts a x)
  where
    by_test : (t : Bool) → (y == x) ≡ t → ended (map (ended_at a) ts) x (turned_back ts x (a x)) ≡ a x
        → (if t then a y else ended (map (ended_at a) ts) x (if t then not (turned_back ts x (a x)) else turned_back ts x (a x))) ≡ a x
    by_test true h more = ap a (same_local x y h)
    by_test false h more = more

-- ---- one more end

-- the locals of these that are unassigned
abbrev lost : (ℕ → Bool) → List ℕ → List Ended
lost a ts = map ended_unassigned (filter (λ x. not (a x)) ts)

-- a local that is assigned isn't among them
lost_not : (ts : List ℕ) (a : ℕ → Bool) (x : ℕ) (before : Bool) → a x ≡ true → ended (lost a ts) x before ≡ before
lost_not [] a x before h = refl
lost_not (y ∷ ts) a x before h = by_tests (a y) (y == x) refl refl (lost_not ts a x before h)
  where
    by_tests : (b t : Bool) → a y ≡ b → (y == x) ≡ t → ended (lost a ts) x before ≡ before
        → ended (map ended_unassigned (if not b then y ∷ filter (λ x. not (a x)) ts else filter (λ x. not (a x)) ts)) x before ≡ before
    by_tests true t e k more = more
    by_tests false true e k more = let no : false ≡ true = sym e ∙ ap a (same_local x y k) ∙ h in cc
    by_tests false false e k more = ap (λ t. if t then false else ended (lost a ts) x before) k ∙ more

-- a local that is unassigned is, if it was assigned before
lost_so : (ts : List ℕ) (a : ℕ → Bool) (x : ℕ) → a x ≡ false → ended (lost a ts) x (turned_back ts x false) ≡ false
lost_so [] a x h = refl
lost_so (y ∷ ts) a x h = by_tests (a y) (y == x) refl refl (lost_so ts a x h)
  where
    by_tests : (b t : Bool) → a y ≡ b → (y == x) ≡ t → ended (lost a ts) x (turned_back ts x false) ≡ false
        → ended (map ended_unassigned (if not b then y ∷ filter (λ x. not (a x)) ts else filter (λ x. not (a x)) ts)) x
        (if t then not (turned_back ts x false) else turned_back ts x false) ≡ false
    by_tests true true e k more = let no : true ≡ false = sym e ∙ ap a (same_local x y k) ∙ h in cc
    by_tests true false e k more = more
    by_tests false true e k more = ap (λ t. if t then false else ended (lost a ts) x (not (turned_back ts x false))) k
    by_tests false false e k more = ap (λ t. if t then false else ended (lost a ts) x (turned_back ts x false)) k ∙ more

lost_ended : (ts : List ℕ) (a : ℕ → Bool) (x : ℕ) → ended (lost a ts) x (turned_back ts x (a x)) ≡ (turned_back ts x (a x) && a x)
lost_ended ts a x = by_test (a x) refl
  where
    and_true : (b : Bool) → b ≡ (b && true)
    and_true = agree 1 (λ b. b) (λ b. b && true) refl

    and_false : (b : Bool) → false ≡ (b && false)
    and_false = agree 1 (λ b. false) (λ b. b && false) refl

    by_test : (b : Bool) → a x ≡ b → ended (lost a ts) x (turned_back ts x b) ≡ (turned_back ts x b && b)
    by_test true h = lost_not ts a x _ h ∙ and_true (turned_back ts x true)
    by_test false h = lost_so ts a x h ∙ and_false (turned_back ts x false)

-- what is kept of the entries, where the local is unassigned behind the new end
kept_ended : (es : List Ended) (a : ℕ → Bool) (x : ℕ) (before after : Bool) → after ≡ (before && a x)
    → ended (filter (is_kept a) es) x after ≡ (ended es x before && a x)
kept_ended [] a x before after h = h
kept_ended (e ∷ es) a x before after h = by_tests e.assigned (a e.local) (e.local == x) refl refl refl (kept_ended es a x before after h)
  where
    none : (b : Bool) → (b && false) ≡ false
    none = agree 1 (λ b. b && false) (λ b. false) refl

    dropped : ended (filter (is_kept a) es) x after ≡ (ended es x before && a x) → a x ≡ false → ended (filter (is_kept a) es) x after ≡ a x
    dropped more l = more ∙ ap (λ c. ended es x before && c) l ∙ none (ended es x before) ∙ sym l

    front : (g : Bool) → e.assigned ≡ g → (e.local == x) ≡ true → ended (e ∷ filter (is_kept a) es) x after ≡ g
    front g p k = ap (λ t. if t then e.assigned else ended (filter (is_kept a) es) x after) k ∙ p

    other : (e.local == x) ≡ false → ended (e ∷ filter (is_kept a) es) x after ≡ ended (filter (is_kept a) es) x after
    other k = ap (λ t. if t then e.assigned else ended (filter (is_kept a) es) x after) k

    by_tests : (g b t : Bool) → e.assigned ≡ g → a e.local ≡ b → (e.local == x) ≡ t
        → ended (filter (is_kept a) es) x after ≡ (ended es x before && a x)
        → ended (if not g || b then e ∷ filter (is_kept a) es else filter (is_kept a) es) x after ≡ ((if t then g else ended es x before) && a x)
    by_tests true true true p q k more = front true p k ∙ sym q ∙ ap a (same_local x e.local k)
    by_tests true false true p q k more = dropped more (sym (ap a (same_local x e.local k)) ∙ q)
    by_tests false b true p q k more = front false p k
    by_tests true true false p q k more = other k ∙ more
    by_tests true false false p q k more = more
    by_tests false b false p q k more = other k ∙ more

pub both_ended : (es : List Ended) (ts : List ℕ) (a : ℕ → Bool) (x : ℕ)
    → ended (filter (is_kept a) es ++ map ended_unassigned (filter (λ x. not (a x)) ts)) x (turned_back ts x (a x))
    ≡ (ended es x (turned_back ts x (a x)) && a x)
both_ended es ts a x = ended_append (filter (is_kept a) es) (lost a ts) x (turned_back ts x (a x))
    ∙ kept_ended es a x (turned_back ts x (a x)) _ (lost_ended ts a x)
