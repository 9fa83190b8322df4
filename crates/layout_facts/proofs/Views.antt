-- States by addresses.
use Rattle.layout_facts.proofs.Names.{◌≡◌, ℕ, zero, suc, ◌+◌, ◌*◌, ◌/◌, ◌-◌, ◌<◌, ◌≤◌, Bool, true, false, List, [], ◌∷◌, length, map, sym, ◌∙◌, ap, subst}
use Rattle.layout_facts.proofs.Names.{arith, Some, None, refl, slice_get, slice_index, slice_index_or, lt-ltb, le-ltb, le-leb, and_parts, and_from, and_right}
use Rattle.layout_facts.proofs.Names.{eqb-true, length-replicate, slice_get_within, Extent, SharedDeclaration, is_written, element, initial_words, Region}
use Rattle.layout_facts.proofs.Names.{VariablePlace, Scalar, Array, end_of, scalar_words, AreInOrder, home_region, IsPlaceOf, in_order_within, mapped}
use Rattle.layout_facts.proofs.Names.{place_length, is_within, word_of_row, shared_word, are_rows, ViewHasTheirWords, RowsFitPlaces}
use Rattle.task_ast.specs.declared.Extent.TheVariants as extent
use Rattle.cost_bound.specs.Summaries.{summaries}

is_in : (r : Region) (i a : ℕ) → i < r.words → a ≡ 2 * i + r.address → is_within r a ≡ true
is_in r i a b e = and_from _ _ (le-leb r.address a (omega (arith, e))) (lt-ltb a (end_of r) (omega (arith, e, b)))

is_out : (r : Region) (a : ℕ) → end_of r ≤ a → is_within r a ≡ false
is_out r a h = and_right _ _ (le-ltb a (end_of r) h)

word_is : (r : Region) (row : List ℕ) (i a : ℕ) → a ≡ 2 * i + r.address → word_of_row r row a ≡ slice_index row i
word_is r row i a e = let half : (a - r.address) / 2 ≡ i = omega (arith, e) in ap (slice_index row) half

view_at : (from : ℕ) (vs : List VariablePlace) (end : ℕ) (rows : List (List ℕ)) (v i a : ℕ) (place : VariablePlace) → AreInOrder from (map home_region vs) end
    → slice_get vs v ≡ Some place
    → i < (home_region place).words → a ≡ 2 * i + (home_region place).address → shared_word vs rows a ≡ slice_index (slice_index_or rows v []) i
view_at from [] end rows v i a place h e b x = let no : None ≡ Some place = e in cc
view_at from (u ∷ vs) end [] v i a place h e b x = refl
view_at from (u ∷ vs) end (row ∷ rows) zero i a place h e b x =
    let same : place ≡ u = cc in
    let words : i < (home_region u).words = subst (λ y. i < (home_region y).words) same b in
    let address : a ≡ 2 * i + (home_region u).address = subst (λ y. a ≡ 2 * i + (home_region y).address) same x in
    rw (is_in (home_region u) i a words address) (word_is (home_region u) row i a address)
view_at from (u ∷ vs) end (row ∷ rows) (suc v) i a place (here, rest) e b x =
    let w = in_order_within (end_of (home_region u)) (map home_region vs) end v (home_region place) rest (mapped home_region vs v place e) in
    let low = w.from in
    let out : end_of (home_region u) ≤ a = omega (arith, low, x) in
    rw (is_out (home_region u) a out) (view_at (end_of (home_region u)) vs end rows v i a place rest e b x)

pub view_has_their_words : ViewHasTheirWords
view_has_their_words p allow plans l h rows v i a w =
    view_at l.homes.address l.variables (end_of l.homes) rows v i a w.place h.layout.rules.homes w.at w.below w.address

-- ---- rows

row_is : (ds : List SharedDeclaration) (rows : List (List ℕ)) (v : ℕ) (d : SharedDeclaration) → are_rows ds rows ≡ true → slice_get ds v ≡ Some d
    → (v < length rows) × (length (slice_index_or rows v []) ≡ length (initial_words d.extent))
row_is [] rows v d r e = let no : None ≡ Some d = e in cc
row_is (c ∷ ds) [] v d r e = let no : false ≡ true = r in cc
row_is (c ∷ ds) (row ∷ rows) zero d r e =
    let same : c ≡ d = cc in
    let first = (and_parts _ _ r).0 in
    (omega arith, subst (λ x. length row ≡ length (initial_words x.extent)) same (eqb-true _ _ first))
row_is (c ∷ ds) (row ∷ rows) (suc v) d r e =
    let k = row_is ds rows v d (and_parts _ _ (and_parts _ _ r).1).1 e in
    let lt = k.0 in
    (omega (arith, lt), k.1)

pub initial_length : (written : Bool) (e : Extent) (v : VariablePlace) → IsPlaceOf written e v → length (initial_words e) ≡ place_length v
initial_length written (extent.Scalar w) (Scalar home copy width) k = sym (ap scalar_words k)
initial_length written (extent.Long n) (Scalar home copy width) k = sym (ap scalar_words k)
initial_length written (extent.Array n) (Array elements words copies) k = length-replicate n 0 ∙ sym k.0
initial_length written (extent.Scalar w) (Array _ _ _) k = absurd k
initial_length written (extent.Long n) (Array _ _ _) k = absurd k
initial_length written (extent.Array n) (Scalar _ _ _) k = absurd k

pub rows_fit_places : RowsFitPlaces
rows_fit_places p allow plans l h rows v place r e =
    let lt = slice_get_within l.variables v place e in
    let count = h.layout.variables.count in
    let d = element p.shared v (omega (arith, lt, count)) in
    let k = row_is p.shared rows v d.0 r d.1 in
    (k.0, k.1 ∙ initial_length (is_written (summaries p) p.tasks v) d.0.extent place (h.layout.variables.each v d.0 place d.1 e))
