-- The words of an image by their addresses.
use Rattle.image_laws.proofs.Names.{◌≡◌, ◌∙◌, ◌+◌, ◌*◌, ◌%◌, ◌<◌, ◌≤◌, ◌==◌, ◌&&◌, ℕ, suc, true, false, cond, nat_lt, nat_le, List, [], ◌∷◌, map, length, refl}
use Rattle.image_laws.proofs.Names.{ap, arith, slice_index, nat_tests, fram_first, place_of, is_fram, IsFram, IsPlace, fram_of, VariablePlace, end_of}
use Rattle.image_laws.proofs.Names.{home_region}
use Rattle.image_laws.proofs.Names.{AreInOrder, is_within, word_of_row, shared_word}
use Rattle.memory_map.proofs.Interface.{in_order_end}
use Rattle.code_forms.specs.Placed.{Holds}
use Rattle.memory_map.specs.declared.place.Region.{Region}

-- ---- words by addresses

-- a place of a program is a word of the FRAM
pub place_in_fram : (a : ℕ) → IsPlace a → IsFram a
place_in_fram a is = record { even = is.even; low = is.low; high = omega (arith, is.high) }

in_fram : (a : ℕ) → IsFram a → ((a % 2 == 0) && is_fram a) ≡ true
in_fram a h =
    let even = h.even in
    let low = h.low in
    let high = h.high in
    let e : (a % 2 == 0) ≡ true = grind (arith, nat_tests) in
    let l : nat_le fram_first a ≡ true = grind (arith, nat_tests) in
    let u : nat_lt a 0x10000 ≡ true = grind (arith, nat_tests) in
    rw (e, l, u) refl

pub fram_at : (ws : List ℕ) (a : ℕ) → IsFram a → fram_of ws a ≡ slice_index ws (place_of a)
fram_at ws a h = ap (λ b. cond b (slice_index ws (place_of a)) 0) (in_fram a h)

-- ---- regions

pub within : (r : Region) (a : ℕ) → r.address ≤ a → a < end_of r → is_within r a ≡ true
within r a low high = grind (arith, nat_tests, low, high)

pub outside_before : (r : Region) (a : ℕ) → a < r.address → is_within r a ≡ false
outside_before r a h = grind (arith, nat_tests, h)

pub outside_behind : (r : Region) (a : ℕ) → end_of r ≤ a → is_within r a ≡ false
outside_behind r a h = grind (arith, nat_tests, h)

-- words one behind another are held
pub holds_by : (f : ℕ → ℕ) (p : ℕ) (ws : List ℕ) → ((i : ℕ) → i < length ws → f (p + 2 * i) ≡ slice_index ws i) → Holds f p ws
holds_by f p [] h = tt
holds_by f p (w ∷ ws) h =
    (ap f (omega arith) ∙ h 0 (omega arith), holds_by f (p + 2) ws (λ i l. ap f (omega arith) ∙ h (suc i) (omega (arith, l))))

-- no variable stands before the first
pub none_before : (from end a : ℕ) (vs : List VariablePlace) (rows : List (List ℕ)) → AreInOrder from (map home_region vs) end → a < from
    → shared_word vs rows a ≡ 0
none_before from end a [] rows order l = refl
none_before from end a (v ∷ vs) [] order l = refl
none_before from end a (v ∷ vs) (row ∷ rows) order l =
    let low = order.0.from in
    ap (λ b. cond b (word_of_row (home_region v) row a) (shared_word vs rows a)) (outside_before (home_region v) a (omega (arith, l, low)))
    ∙ none_before (end_of (home_region v)) end a vs rows order.1 (omega (arith, l, low))

-- nor behind the last
pub none_behind : (from end a : ℕ) (vs : List VariablePlace) (rows : List (List ℕ)) → AreInOrder from (map home_region vs) end → end ≤ a
    → shared_word vs rows a ≡ 0
none_behind from end a [] rows order l = refl
none_behind from end a (v ∷ vs) [] order l = refl
none_behind from end a (v ∷ vs) (row ∷ rows) order l =
    let last = in_order_end (end_of (home_region v)) (map home_region vs) end order.1 in
    ap (λ b. cond b (word_of_row (home_region v) row a) (shared_word vs rows a)) (outside_behind (home_region v) a (omega (arith, l, last)))
    ∙ none_behind (end_of (home_region v)) end a vs rows order.1 l
