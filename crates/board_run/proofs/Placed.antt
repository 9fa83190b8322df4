-- The shared numbers of a map, one after another.
use Rattle.std.proofs.Common.{◌≡◌, ◌≤◌, ◌<◌, ℕ, suc, ◌+◌, ◌*◌, ◌-◌, nat_lt, nat_le, List, [], ◌∷◌, ◌++◌, length, take, drop, get_or, arith, ap, sym, subst, ◌∙◌}
use Rattle.std.proofs.Common.{Bool, true, false, Option, Some, None, All}
use Rattle.std.proofs.Math.Seq.{take-length}
use Rattle.std.proofs.lemmas.Bool.Decides.{nat_tests}
use Rattle.std.proofs.lemmas.Bool.{and_parts}
use Rattle.image_text.specs.image_map.declared.parts.ValueType.{ValueType}
use Rattle.image_text.specs.image_map.declared.parts.ValueType.TheVariants as value_type
use Rattle.image_text.specs.image_map.declared.parts.Variable.{Variable}
use Rattle.image_text.specs.image_map.MapValue.{IsFramWord, IsVariable, fits, is_long, scalar_words, word_count}
use Rattle.board_run.specs.History.{SharedNumber, array_words, scalar_number, shared_numbers}
use Rattle.board_run.specs.State.{number_count, numbers_from, numbers_left, HasIndex, StandsInFram}

-- what stands behind the first of a list
abbrev pub behind_first : List Variable → List Variable
behind_first vs = take (length vs - 1) (drop 1 vs)

pub first_and_rest : (vs : List Variable) (v : Variable) → 1 ≤ length vs → v ≡ get_or vs 0 v → vs ≡ v ∷ behind_first vs
first_and_rest [] v h e = absurd (omega arith)
first_and_rest (u ∷ us) v h e =
    let len : length (u ∷ us) - 1 ≡ length us = omega arith in
    ap (λ x. x ∷ us) (sym e) ∙ ap (λ x. v ∷ x) (sym (ap (λ n. take n us) len ∙ take-length us))

some_numbers : (v : Variable) → IsVariable v → 0 < number_count v.length
some_numbers v h = by_length v.value_type v.length v.address h.fits
  where
    by_length : (t : ValueType) (o : Option ℕ) (a : ℕ) → fits a (word_count t o) ≡ true → 0 < number_count o
    by_length t None a h = omega arith
    by_length t (Some n) a h = let p = and_parts (nat_lt 0 n) (nat_le (a + 2 * n) 65536) h in let q : nat_lt 0 n ≡ true = p.0 in grind (arith, nat_tests, q)

pub begins : (vs : List Variable) → All IsVariable vs → HasIndex vs 0
begins [] h = tt
begins (v ∷ vs) h = some_numbers v (h 0 v (omega arith))

rest_are : (v : Variable) (vs : List Variable) → All IsVariable (v ∷ vs) → All IsVariable vs
rest_are v vs h = λ i d l. h (suc i) d (omega arith)

-- the high word of a long that fits stands in the FRAM
pub high_fits : (t : ValueType) (a : ℕ) → IsFramWord a → fits a (scalar_words t) ≡ true → is_long t ≡ true → IsFramWord (a + 2)
high_fits value_type.Unsigned a h f l = cc
high_fits value_type.Int a h f l = cc
high_fits value_type.Long a h f l =
    let q : nat_le (a + 4) 65536 ≡ true = (and_parts true (nat_le (a + 4) 65536) f).1 in
    let top : a + 4 ≤ 65536 = grind (arith, nat_tests, q) in
    let low = h.low in
    let even = h.even in
    record { low = omega arith; high = omega arith; even = omega arith }

-- a scalar stands in the FRAM
scalar_stands : (v : Variable) → IsVariable v → v.length ≡ None → StandsInFram (scalar_number v.name v.address v.value_type)
scalar_stands v h none =
    let words : word_count v.value_type v.length ≡ scalar_words v.value_type = ap (word_count v.value_type) none in
    (h.address, high_fits v.value_type v.address h.address (ap (fits v.address) (sym words) ∙ h.fits))

-- behind a scalar
pub behind_scalar : (vs : List Variable) (v : Variable) (long : Bool) → 1 ≤ length vs → v ≡ get_or vs 0 v → All IsVariable vs → v.length ≡ None
    → long ≡ is_long v.value_type → All IsVariable (behind_first vs) × HasIndex (behind_first vs) 0
    × StandsInFram (record { name = v.name; index = None; address = v.address; is_long = long })
behind_scalar vs v long h e all none is =
    let P : List Variable → Type 0 = λ x. All IsVariable x in
    let Q : Bool → Type 0 = λ b. StandsInFram (record { name = v.name; index = None; address = v.address; is_long = b }) in
    let are = subst P (first_and_rest vs v h e) all in
    let rest = rest_are v (behind_first vs) are in
    (rest, begins (behind_first vs) rest, subst Q (sym is) (scalar_stands v (are 0 v (omega arith)) none))

pub in_array : (a n i : ℕ) → IsFramWord a → fits a n ≡ true → i < n → IsFramWord (a + 2 * i)
in_array a n i h f l =
    let p = and_parts (nat_lt 0 n) (nat_le (a + 2 * n) 65536) f in
    let q : nat_le (a + 2 * n) 65536 ≡ true = p.1 in
    let top : a + 2 * n ≤ 65536 = grind (arith, nat_tests, q) in
    let low = h.low in
    let even = h.even in
    record { low = omega arith; high = omega arith; even = omega arith }

index_in : (vs : List Variable) (v : Variable) (rest : List Variable) (n i : ℕ) → vs ≡ v ∷ rest → v.length ≡ Some n → HasIndex vs i → i < n
index_in vs v rest n i e len h =
    let P : List Variable → Type 0 = λ x. HasIndex x i in
    let Q : Option ℕ → Type 0 = λ o. i < number_count o in
    subst Q len (subst P e h)

pub fits_so : (v : Variable) (n : ℕ) → v.length ≡ Some n → IsVariable v → fits v.address n ≡ true
fits_so v n len h = ap (λ o. fits v.address (word_count v.value_type o)) (sym len) ∙ h.fits

-- behind the last word of an array
pub behind_array : (vs : List Variable) (v : Variable) (n i : ℕ) → 1 ≤ length vs → v ≡ get_or vs 0 v → All IsVariable vs → v.length ≡ Some n → HasIndex vs i
    → All IsVariable (behind_first vs) × HasIndex (behind_first vs) 0
    × StandsInFram (record { name = v.name; index = Some i; address = v.address + 2 * i; is_long = false })
behind_array vs v n i h e all len index =
    let P : List Variable → Type 0 = λ x. All IsVariable x in
    let split = first_and_rest vs v h e in
    let are = subst P split all in
    let rest = rest_are v (behind_first vs) are in
    let v_is = are 0 v (omega arith) in
    let word = in_array v.address n i v_is.address (fits_so v n len v_is) (index_in vs v (behind_first vs) n i split len index) in
    (rest, begins (behind_first vs) rest, (word, λ l. cc))

pub array_next : (name : List ℕ) (a i n : ℕ) → i < n → array_words name (a + 2 * i) i (n - i)
    ≡ record { name = name; index = Some i; address = a + 2 * i; is_long = false } ∷ array_words name (a + 2 * (i + 1)) (i + 1) (n - (i + 1))
array_next name a i n h =
    ap (array_words name (a + 2 * i) i) (let e : n - i ≡ suc (n - (i + 1)) = omega arith in e)
    ∙ ap (λ b. record { name = name; index = Some i; address = a + 2 * i; is_long = false } ∷ array_words name b (i + 1) (n - (i + 1)))
    (let e : a + 2 * i + 2 ≡ a + 2 * (i + 1) = omega arith in e)

pub cut_in_array : (vs : List Variable) (v : Variable) (n i : ℕ) → 1 ≤ length vs → v ≡ get_or vs 0 v → v.length ≡ Some n → i + 1 < n
    → numbers_left vs i ≡ record { name = v.name; index = Some i; address = v.address + 2 * i; is_long = false } ∷ numbers_left vs (i + 1)
cut_in_array vs v n i h e len less =
    let split = first_and_rest vs v h e in
    let rest : List SharedNumber = shared_numbers (behind_first vs) in
    ap (λ x. numbers_left x i) split ∙ ap (λ o. numbers_from v.name v.address v.value_type o i ++ rest) len
    ∙ ap (λ x. x ++ rest) (array_next v.name v.address i n (omega arith))
    ∙ ap (λ x. record { name = v.name; index = Some i; address = v.address + 2 * i; is_long = false } ∷ x)
    (ap (λ o. numbers_from v.name v.address v.value_type o (i + 1) ++ rest) (sym len) ∙ ap (λ x. numbers_left x (i + 1)) (sym split))
