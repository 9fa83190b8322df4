-- The variables of a source at their places.
use Rattle.std.proofs.Common.{◌≡◌, ℕ, suc, ◌+◌, ◌*◌, ◌≤◌, ◌∙◌, Bool, true, false, not, List, [], ◌∷◌, map, length, refl, ap, subst, arith, Some}
use Rattle.std.specs.Prelude.{All, slice_get}
use Rattle.std.proofs.lemmas.Bool.Decides.{nat_tests}
use Rattle.std.proofs.lemmas.List.Elements.{All-nil, All-cons, All-head, All-tail}
use Rattle.task_ast.specs.declared.WordType.{WordType}
use Rattle.task_ast.specs.declared.WordType.TheVariants as word_type
use Rattle.task_ast.specs.declared.Extent.{Extent}
use Rattle.task_ast.specs.declared.Extent.TheVariants as extent
use Rattle.task_ast.specs.declared.SharedDeclaration.{SharedDeclaration}
use Rattle.image_map.specs.MapValue.{IsFramWord, IsVariable, scalar_words, word_count, fits, is_long, is_kind, variable_names}
use Rattle.source_report.specs.source_values.Runs.{is_long_extent}
use Rattle.source_runs.specs.Naming.{length_of, AreVariablesOf}
use Rattle.source_report.specs.SourceReport.{spelled}
use Rattle.memory_map.specs.address_space.Limits.{fram_first, program_end}
use Rattle.memory_map.specs.declared.place.VariablePlace.{VariablePlace}
use Rattle.memory_map.specs.declared.place.VariablePlace.TheVariants.{Scalar, Array}
use Rattle.memory_map.specs.Places.{end_of, home_region, AreInOrder, scalar_words as width_words}
use Rattle.privatise.specs.Layouts.{IsPlaceOf}
use Rattle.source_maps.specs.Names.{HasWords}
use Rattle.source_maps.specs.Maps.{word_value_type, value_type_of, variable_of, variables_of}
use Rattle.source_maps.specs.Placing.{IsOfKind, ArePlacesOf}

-- a place of a declaration is of its kind
pub of_kind : (b : Bool) (e : Extent) (place : VariablePlace) → IsPlaceOf b e place → IsOfKind e place
of_kind b (extent.Scalar w) (Scalar home copy width) h = h
of_kind b (extent.Long n) (Scalar home copy width) h = h
of_kind b (extent.Scalar w) (Array elements n copies) h = h
of_kind b (extent.Long m) (Array elements n copies) h = h
of_kind b (extent.Array n) (Scalar home copy width) h = h
of_kind b (extent.Array n) (Array elements m copies) h = h.0

pub places_of : (shared : List SharedDeclaration) (places : List VariablePlace) → length places ≡ length shared
    → ((i : ℕ) (d : SharedDeclaration) (place : VariablePlace) → slice_get shared i ≡ Some d → slice_get places i ≡ Some place → IsOfKind d.extent place)
    → ArePlacesOf shared places
places_of [] [] n f = tt
places_of [] (place ∷ places) n f = absurd (omega (arith, n))
places_of (d ∷ ds) [] n f = absurd (omega (arith, n))
places_of (d ∷ ds) (place ∷ places) n f = (f 0 d place refl refl, places_of ds places (omega (arith, n)) (λ i e q a b. f (suc i) e q a b))

pub places_by_number : (written : ℕ → Bool) (shared : List SharedDeclaration) (places : List VariablePlace) → length places ≡ length shared
    → ((i : ℕ) (d : SharedDeclaration) (place : VariablePlace) → slice_get shared i ≡ Some d → slice_get places i ≡ Some place
    → IsPlaceOf (written i) d.extent place) → ArePlacesOf shared places
places_by_number written shared places n f = places_of shared places n (λ i d place a b. of_kind (written i) d.extent place (f i d place a b))

-- a place of this kind has these many words
region_words : (e : Extent) (place : VariablePlace) (n : ℕ) → IsOfKind e place → e ≡ extent.Array n → (home_region place).words ≡ n
region_words e (Scalar home copy width) n h is = absurd (subst (λ x. IsOfKind x (Scalar home copy width)) is h)
region_words e (Array elements m copies) n h is = subst (λ x. IsOfKind x (Array elements m copies)) is h

fits_so : (n : ℕ) → (n ≡ 0 → ⊥) → (a : ℕ) → a + 2 * n ≤ 65536 → fits a n ≡ true
fits_so n words a l = grind (arith, nat_tests, words, l)

-- a scalar that isn't long has one word
pub one_word : (w : WordType) → scalar_words (word_value_type w) ≡ 1
one_word word_type.Unsigned = refl
one_word word_type.Int = refl
one_word word_type.Long = refl

no_long : (w : WordType) → is_long (word_value_type w) ≡ false
no_long word_type.Unsigned = refl
no_long word_type.Int = refl
no_long word_type.Long = refl

fits_there : (w : WordType) (e : Extent) (place : VariablePlace) (end : ℕ) → IsOfKind e place → HasWords e → end_of (home_region place) ≤ end
    → end ≤ program_end → fits (home_region place).address (word_count (value_type_of w e) (length_of e)) ≡ true
fits_there w (extent.Scalar v) (Scalar home copy width) end h words l m =
    let wide = ap width_words h in
    ap (fits home) (one_word w) ∙ fits_so 1 (λ e. cc) home (omega (arith, l, m, wide))
fits_there w (extent.Long n) (Scalar home copy width) end h words l m =
    let wide = ap width_words h in
    fits_so 2 (λ e. cc) home (omega (arith, l, m, wide))
fits_there w (extent.Scalar v) (Array elements n copies) end h words l m = absurd h
fits_there w (extent.Long v) (Array elements n copies) end h words l m = absurd h
fits_there w (extent.Array n) place end h words l m =
    let size = region_words (extent.Array n) place n h refl in
    fits_so n words ((home_region place).address) (omega (arith, size, l, m))

-- the elements of an array are words
kind_there : (w : WordType) (e : Extent) → is_kind (value_type_of w e) (length_of e) ≡ true
kind_there w (extent.Scalar v) = refl
kind_there w (extent.Long n) = refl
kind_there w (extent.Array n) = ap not (no_long w)

in_order_end : (from end : ℕ) (ps : List VariablePlace) → AreInOrder from (map home_region ps) end → from ≤ end
in_order_end from end [] h = h
in_order_end from end (p ∷ ps) h =
    let a = h.0.from in
    let b = in_order_end (end_of (home_region p)) end ps h.1 in
    omega (arith, a, b)

pub variables_are : (text : List ℕ) (from end : ℕ) (ds : List SharedDeclaration) (ps : List VariablePlace) → ArePlacesOf ds ps
    → AreInOrder from (map home_region ps) end
    → fram_first ≤ from → end ≤ program_end → All (λ d. HasWords d.extent) ds → All IsVariable (variables_of text ds ps)
variables_are text from end [] [] places order low high words = All-nil IsVariable
variables_are text from end [] (p ∷ ps) places order low high words = absurd places
variables_are text from end (d ∷ ds) [] places order low high words = absurd places
variables_are text from end (d ∷ ds) (p ∷ ps) places order low high words =
    let behind = in_order_end (end_of (home_region p)) end ps order.1 in
    let start = order.0.from in
    let even = order.0.even in
    let address : IsFramWord (home_region p).address = record { low = omega (arith, start, low); high = omega (arith, behind, high); even = even } in
    All-cons IsVariable (variable_of text d p) (variables_of text ds ps)
    (record {
      address = address;
      fits = fits_there d.word_type d.extent p end places.0 (All-head (λ d. HasWords d.extent) d ds words) behind high;
      kind = kind_there d.word_type d.extent;
    })
    (variables_are text (end_of (home_region p)) end ds ps places.1 order.1 (omega (arith, start, low)) high (All-tail (λ d. HasWords d.extent) d ds words))

pub variables_count : (text : List ℕ) (ds : List SharedDeclaration) (ps : List VariablePlace) → ArePlacesOf ds ps → length (variables_of text ds ps) ≡ length ds
variables_count text [] [] h = refl
variables_count text [] (p ∷ ps) h = absurd h
variables_count text (d ∷ ds) [] h = absurd h
variables_count text (d ∷ ds) (p ∷ ps) h = let r = variables_count text ds ps h.1 in omega (arith, r)

pub names_of_variables : (text : List ℕ) (ds : List SharedDeclaration) (ps : List VariablePlace) → ArePlacesOf ds ps
    → variable_names (variables_of text ds ps) ≡ map (λ d. spelled text d.name) ds
names_of_variables text [] [] h = refl
names_of_variables text [] (p ∷ ps) h = absurd h
names_of_variables text (d ∷ ds) [] h = absurd h
names_of_variables text (d ∷ ds) (p ∷ ps) h = ap (λ l. spelled text d.name ∷ l) (names_of_variables text ds ps h.1)

-- a long has the type of one
wide_there : (w : WordType) (e : Extent) → is_long (value_type_of w e) ≡ is_long_extent e
wide_there w (extent.Scalar v) = no_long w
wide_there w (extent.Long n) = refl
wide_there w (extent.Array n) = no_long w

pub of_declarations : (text : List ℕ) (ds : List SharedDeclaration) (ps : List VariablePlace) → ArePlacesOf ds ps
    → AreVariablesOf text (variables_of text ds ps) ds
of_declarations text [] [] h = tt
of_declarations text [] (p ∷ ps) h = absurd h
of_declarations text (d ∷ ds) [] h = absurd h
of_declarations text (d ∷ ds) (p ∷ ps) h = (refl, refl, wide_there d.word_type d.extent, of_declarations text ds ps h.1)
