-- Regions one behind another.
use Rattle.std.proofs.Common.{◌≡◌, ℕ, zero, suc, ◌+◌, ◌*◌, ◌%◌, ◌<◌, ◌≤◌, List, [], ◌∷◌, ◌++◌, sym, subst, arith, Some, None}
use Rattle.std.specs.Prelude.{slice_get}
use Rattle.memory_map.specs.declared.place.Region.{Region}
use Rattle.memory_map.specs.Places.{end_of, AreInOrder}

-- from an earlier address
pub in_order_lower : (low from : ℕ) (rs : List Region) (end : ℕ) → low ≤ from → AreInOrder from rs end → AreInOrder low rs end
in_order_lower low from [] end l h = omega (arith, h)
in_order_lower low from (r ∷ rs) end l (here, rest) = (record { from = let f = here.from in omega arith; even = here.even }, rest)

-- up to a later address
pub in_order_higher : (from : ℕ) (rs : List Region) (end high : ℕ) → end ≤ high → AreInOrder from rs end → AreInOrder from rs high
in_order_higher from [] end high l h = omega (arith, h)
in_order_higher from (r ∷ rs) end high l (here, rest) = (here, in_order_higher (end_of r) rs end high l rest)

pub in_order_append : (from : ℕ) (rs : List Region) (mid : ℕ) (qs : List Region) (end : ℕ) → AreInOrder from rs mid → AreInOrder mid qs end
    → AreInOrder from (rs ++ qs) end
in_order_append from [] mid qs end h k = in_order_lower from mid qs end h k
in_order_append from (r ∷ rs) mid qs end (here, rest) k = (here, in_order_append (end_of r) rs mid qs end rest k)

-- one region more, right behind the others
pub in_order_push : (from : ℕ) (rs : List Region) (mid end : ℕ) (r : Region) → r.address ≡ mid → mid % 2 ≡ 0 → end ≡ mid + 2 * r.words
    → AreInOrder from rs mid → AreInOrder from (rs ++ r ∷ []) end
in_order_push from rs mid end r at even e h =
    in_order_append from rs mid (r ∷ []) end h
    (record { from = omega (arith, at); even = subst (λ a. a % 2 ≡ 0) (sym at) even }, omega (arith, at, e))

-- what stands before the first region ends before the end
pub in_order_end : (from : ℕ) (rs : List Region) (end : ℕ) → AreInOrder from rs end → from ≤ end
in_order_end from [] end h = h
in_order_end from (r ∷ rs) end (here, rest) = let a = here.from in let b = in_order_end (end_of r) rs end rest in omega (arith, a, b)

-- a region among them
pub record Within (low : ℕ) (r : Region) (high : ℕ) : Type 0 where
  pub from : low ≤ r.address
  pub even : r.address % 2 ≡ 0
  pub end : end_of r ≤ high

pub in_order_within : (from : ℕ) (rs : List Region) (end : ℕ) (i : ℕ) (r : Region) → AreInOrder from rs end → slice_get rs i ≡ Some r → Within from r end
in_order_within from [] end i r h e = let no : None ≡ Some r = e in cc
in_order_within from (q ∷ rs) end zero r (here, rest) e =
    let same : q ≡ r = cc in
    subst (λ x. Within from x end) same (record { from = here.from; even = here.even; end = in_order_end (end_of q) rs end rest })
in_order_within from (q ∷ rs) end (suc i) r (here, rest) e =
    let w = in_order_within (end_of q) rs end i r rest e in
    record { from = let a = here.from in let b = w.from in omega (arith, a, b); even = w.even; end = w.end }

-- a later region stands behind an earlier one
pub in_order_apart : (from : ℕ) (rs : List Region) (end : ℕ) (i j : ℕ) (r q : Region) → AreInOrder from rs end → i < j → slice_get rs i ≡ Some r
    → slice_get rs j ≡ Some q → end_of r ≤ q.address
in_order_apart from [] end i j r q h l e f = let no : None ≡ Some r = e in cc
in_order_apart from (x ∷ rs) end zero zero r q h l e f = absurd (omega arith)
in_order_apart from (x ∷ rs) end zero (suc j) r q (here, rest) l e f =
    let same : x ≡ r = cc in
    subst (λ y. end_of y ≤ q.address) same (in_order_within (end_of x) rs end j q rest f).from
in_order_apart from (x ∷ rs) end (suc i) zero r q h l e f = absurd (omega arith)
in_order_apart from (x ∷ rs) end (suc i) (suc j) r q (here, rest) l e f = in_order_apart (end_of x) rs end i j r q rest (omega arith) e f

-- the first of two lists of regions, and the second
pub in_order_split : (from : ℕ) (rs qs : List Region) (end : ℕ) → AreInOrder from (rs ++ qs) end → (mid : ℕ) × AreInOrder from rs mid × AreInOrder mid qs end
in_order_split from [] qs end h = (from, omega arith, h)
in_order_split from (r ∷ rs) qs end (here, rest) = let s = in_order_split (end_of r) rs qs end rest in (s.0, (here, s.1), s.2)
