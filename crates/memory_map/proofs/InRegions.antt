-- Words of regions that stand in order: each is one word of one variable.
use Rattle.std.proofs.Common.{◌≡◌, ℕ, zero, suc, ◌+◌, ◌*◌, ◌%◌, ◌<◌, ◌≤◌, ◌⊎◌, inl, inr, List, [], ◌∷◌, sym, ◌∙◌, ap, subst, arith, Some, refl}
use Rattle.std.specs.Prelude.{slice_get, Contains}
use Rattle.std.specs.List.{flat_map}
use Rattle.std.proofs.lemmas.Bool.{cases_order}
use Rattle.memory_map.specs.declared.place.Region.{Region}
use Rattle.memory_map.specs.declared.place.VariablePlace.{VariablePlace}
use Rattle.memory_map.specs.Places.{AreInOrder}
use Rattle.memory_map.proofs.Apart.{among, later}

-- word i of a region of variable v is at an address
pub record IsIn (f : VariablePlace → List Region) (vs : List VariablePlace) (v i a : ℕ) : Type 0 where
  pub place : VariablePlace
  pub region : Region
  pub at : slice_get vs v ≡ Some place
  pub contains : Contains (f place) region
  pub below : i < region.words
  pub address : a ≡ 2 * i + region.address

-- a variable has one such region at most
abbrev pub IsSingle : (VariablePlace → List Region) → Type 0
IsSingle f = (x : VariablePlace) (r q : Region) → Contains (f x) r → Contains (f x) q → r ≡ q

-- an even address from one address on, with room for a word below another
pub record IsBetween (low a high : ℕ) : Type 0 where
  pub from : low ≤ a
  pub even : a % 2 ≡ 0
  pub end : a + 2 ≤ high

pub word_between : (from a end i address words : ℕ) → from ≤ address → address % 2 ≡ 0 → address + 2 * words ≤ end → i < words → a ≡ 2 * i + address
    → IsBetween from a end
word_between from a end i address words l e h b at = record { from = omega (arith, l, at); even = rw at (omega (arith, e)); end = omega (arith, at, h, b) }

-- the regions of variables, in order between two addresses
pub record Row : Type 0 where
  pub regions : VariablePlace → List Region
  pub variables : List VariablePlace
  pub from : ℕ
  pub end : ℕ
  pub ordered : AreInOrder from (flat_map regions variables) end

pub within : (row : Row) (v i a : ℕ) → IsIn row.regions row.variables v i a → IsBetween row.from a row.end
within row v i a s =
    let w = among row.regions row.from row.variables row.end v s.place s.region row.ordered s.at s.contains in
    word_between row.from a row.end i s.region.address s.region.words w.from w.even w.end s.below s.address

-- the words of an earlier variable stand before those of a later one
pub before : (row : Row) (v w i j a : ℕ) → v < w → IsIn row.regions row.variables v i a → IsIn row.regions row.variables w j a → ⊥
before row v w i j a lt s t =
    let apart = later row.regions row.from row.variables row.end v w s.region t.region row.ordered lt
    (record { place = s.place; at = s.at; contains = s.contains }) (record { place = t.place; at = t.at; contains = t.contains }) in
    let b = s.below in let x = s.address in let y = t.address in
    omega (arith, apart, b, x, y)

-- no two words stand at one address
pub one_word : (row : Row) (v w i j a : ℕ) → IsSingle row.regions → IsIn row.regions row.variables v i a → IsIn row.regions row.variables w j a
    → (v ≡ w) × (i ≡ j)
one_word row v w i j a single s t = one (cases_order v w)
  where
    same : v ≡ w → i ≡ j
    same e =
        let found : Some s.place ≡ Some t.place = sym s.at ∙ ap (slice_get row.variables) e ∙ t.at in
        let place : s.place ≡ t.place = cc in
        let moved : Contains (row.regions t.place) s.region = subst (λ x. Contains (row.regions x) s.region) place s.contains in
        let region : s.region ≡ t.region = single t.place s.region t.region moved t.contains in
        let address : s.region.address ≡ t.region.address = ap (λ r. r.address) region in
        let x = s.address in let y = t.address in
        omega (arith, address, x, y)

    one : (v ≡ w) ⊎ ((v < w) ⊎ (w < v)) → (v ≡ w) × (i ≡ j)
    one (inl e) = (e, same e)
    one (inr (inl lt)) = absurd (before row v w i j a lt s t)
    one (inr (inr gt)) = absurd (before row w v j i a gt t s)

-- a region alone
pub alone : (r : Region) → Contains (r ∷ []) r
alone r = (0, omega arith, refl)

pub alone_is : (r q : Region) → Contains (r ∷ []) q → r ≡ q
alone_is r q (zero, l, e) = e
alone_is r q (suc k, l, e) = absurd (omega arith)
