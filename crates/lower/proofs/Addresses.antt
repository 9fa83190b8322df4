-- Where the words that a task works on stand.
use Rattle.lower.proofs.Names.{◌≡◌, ℕ, ◌+◌, ◌*◌, ◌%◌, ◌<◌, ◌≤◌, nat_le, nat_lt, ◌&&◌, Option, Some, true, ap, ◌∙◌, subst, arith, le-leb, lt-ltb, inl, inr}
use Rattle.lower.proofs.Names.{◌⊎◌, ⊎_elim, if◌then◌else◌, cases_eq, fram_first, program_end, Behaviour, strays, is_place, at_place, ArrayCopies}
use Rattle.lower.proofs.Names.{words_scalar, Places, address_of, scalar_address, IsScalarPlace, IsScalarAt, IsScalarWord, IsArrayAt, Element, IsElement}
use Rattle.lower.proofs.Names.{IsCopied, Spot, IsSpot, element_in, copy_in, version_in, element_address, copy_address, version_address, spot_address, Room}
use Rattle.lower.proofs.Names.{AreApart, AreEven, AreDifferent}
use Rattle.std.proofs.Common.{eq-eqb}
use Rattle.std.specs.Prelude.{slice_get}

-- ---- places

pub fram_place : (a : ℕ) → a % 2 ≡ 0 → fram_first ≤ a → a < program_end → is_place a ≡ true
fram_place a even low high =
    ap (λ b. b && (nat_le fram_first a && nat_lt a program_end)) (eq-eqb (a % 2) 0 even)
    ∙ ap (λ b. b && nat_lt a program_end) (le-leb fram_first a low) ∙ lt-ltb a program_end high

pub placed : (a : ℕ) (b : Behaviour) → is_place a ≡ true → at_place a b ≡ b
placed a b e = ap (λ c. if c then b else strays) e

pub spot_place : (p : Places) (room : Room) (s : Spot) → AreApart p room → AreEven p → IsSpot p s → is_place (spot_address p s) ≡ true
spot_place p room s apart even k =
    let low = apart.spots s k in
    let below = apart.below s k in
    fram_place (spot_address p s) (even.spots s k) (omega (arith, low, apart)) (omega (arith, below))

-- ---- words that are stored

-- ---- elements

pub element_is : (p : Places) (x : Element) (elements length : ℕ) (copies : Option ArrayCopies) → IsArrayAt p x.array elements length copies
    → element_address p x ≡ 2 * x.index + elements
element_is p x elements length copies h = ap (λ o. element_in o x.index) h.place

pub copy_is : (p : Places) (x : Element) (elements length : ℕ) (c : ArrayCopies) → IsArrayAt p x.array elements length (Some c)
    → copy_address p x ≡ 2 * x.index + c.copies
copy_is p x elements length c h = ap (λ o. copy_in o x.index) h.place

pub version_is : (p : Places) (x : Element) (elements length : ℕ) (c : ArrayCopies) → IsArrayAt p x.array elements length (Some c)
    → version_address p x ≡ 2 * x.index + c.versions
version_is p x elements length c h = ap (λ o. version_in o x.index) h.place

pub has_element : (p : Places) (x : Element) → IsCopied p x → IsElement p x
has_element p x h = record { elements = h.elements; length = h.length; copies = Some h.copies; is_array = h.is_array; below = h.below }

-- an array is no scalar
pub no_scalar : (p : Places) (v elements length : ℕ) (copies : Option ArrayCopies) → IsArrayAt p v elements length copies → IsScalarAt p v → ⊥
no_scalar p v elements length copies h k = subst IsScalarPlace h.place k

-- what has a word is a scalar
pub word_scalar : (p : Places) (v i : ℕ) → IsScalarWord p v i → IsScalarAt p v
word_scalar p v i k = words_scalar (slice_get p.map.variables v) i k

-- the first word of a scalar stands at its address
pub first_address : (p : Places) (v : ℕ) → scalar_address p v 0 ≡ address_of p v
first_address p v = omega arith

pub same_element : (x y : Element) → x.array ≡ y.array → x.index ≡ y.index → x ≡ y
same_element x y a b =
    ap (λ v. let z : Element = record { array = v; index = x.index } in z) a ∙ ap (λ i. let z : Element = record { array = y.array; index = i } in z) b

pub same_or_not : (x y : Element) → (x ≡ y) ⊎ AreDifferent x y
same_or_not x y = ⊎_elim (λ a. ⊎_elim (λ b. inl (same_element x y a b)) (λ ne. inr (λ e. ne (ap (λ z. z.index) e))) (cases_eq x.index y.index))
    (λ ne. inr (λ e. ne (ap (λ z. z.array) e))) (cases_eq x.array y.array)

-- ---- spots that differ
