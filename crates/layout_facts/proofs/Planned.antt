-- What a source declares and assigns, and its places.
use Rattle.layout_facts.proofs.Names.{◌≡◌, ℕ, Bool, true, false, List, length, arith, ap, subst, sym, ◌∙◌, Some, None, refl, Option, is_some, slice_get}
use Rattle.layout_facts.proofs.Names.{IsSomeAnd, slice_get_within, Extent, SharedDeclaration, Allow, CheckedProgram, is_written, TaskPlanValue, is_scalar}
use Rattle.layout_facts.proofs.Names.{IsScalarAt, IsArrayAt, is_long_extent, element, IsPlaceOf, HasLayout, PlacesAreDeclared, PlacesMatch, ArrayCopies}
use Rattle.layout_facts.proofs.Names.{ScalarWidth, TwoWords, scalar_words, home_part, VariablePlace, Scalar, Array, MemoryMap}
use Rattle.task_ast.specs.declared.Extent.TheVariants as extent
use Rattle.cost_bound.specs.Summaries.{summaries}

-- ---- declarations

-- a scalar is declared, and its extent is that of one
pub scalar_declared : (shared : List SharedDeclaration) (v : ℕ) → IsScalarAt shared v
    → (d : SharedDeclaration) × (slice_get shared v ≡ Some d) × (is_scalar d.extent ≡ true)
scalar_declared shared v h = by (slice_get shared v) refl h
  where
    by : (o : Option SharedDeclaration) → slice_get shared v ≡ o → IsSomeAnd o (λ d. is_scalar d.extent ≡ true)
        → (d : SharedDeclaration) × (slice_get shared v ≡ Some d) × (is_scalar d.extent ≡ true)
    by (Some d) e k = (d, e, k)
    by None e k = absurd k

-- a long is declared, and its extent is that of one
pub long_declared : (shared : List SharedDeclaration) (v : ℕ) → IsSomeAnd (slice_get shared v) (λ d. is_long_extent d.extent ≡ true)
    → (d : SharedDeclaration) × (slice_get shared v ≡ Some d) × (is_long_extent d.extent ≡ true)
long_declared shared v h = by (slice_get shared v) refl h
  where
    by : (o : Option SharedDeclaration) → slice_get shared v ≡ o → IsSomeAnd o (λ d. is_long_extent d.extent ≡ true)
        → (d : SharedDeclaration) × (slice_get shared v ≡ Some d) × (is_long_extent d.extent ≡ true)
    by (Some d) e k = (d, e, k)
    by None e k = absurd k

pub array_declared : (shared : List SharedDeclaration) (v : ℕ) → IsArrayAt shared v
    → (d : SharedDeclaration) × (slice_get shared v ≡ Some d) × (is_scalar d.extent ≡ false)
array_declared shared v h = by (slice_get shared v) refl h
  where
    by : (o : Option SharedDeclaration) → slice_get shared v ≡ o → IsSomeAnd o (λ d. is_scalar d.extent ≡ false)
        → (d : SharedDeclaration) × (slice_get shared v ≡ Some d) × (is_scalar d.extent ≡ false)
    by (Some d) e k = (d, e, k)
    by None e k = absurd k

pub scalar_at : (shared : List SharedDeclaration) (v : ℕ) (d : SharedDeclaration) → slice_get shared v ≡ Some d → is_scalar d.extent ≡ true
    → IsScalarAt shared v
scalar_at shared v d e h = subst (λ o. IsSomeAnd o (λ d. is_scalar d.extent ≡ true)) (sym e) h

-- what is no scalar has a length
pub array_extent : (e : Extent) → is_scalar e ≡ false → (n : ℕ) × (e ≡ extent.Array n)
array_extent (extent.Scalar w) h = let no : true ≡ false = h in cc
array_extent (extent.Long n) h = let no : true ≡ false = h in cc
array_extent (extent.Array n) h = (n, refl)

-- the place of a declared scalar, and of an array
place_scalar : (written : Bool) (e : Extent) (x : VariablePlace) → is_scalar e ≡ true → IsPlaceOf written e x
    → (home copy : ℕ) × (width : ScalarWidth) × (x ≡ Scalar home copy width)
place_scalar written (extent.Scalar w) (Scalar home copy width) s k = (home, copy, width, refl)
place_scalar written (extent.Long n) (Scalar home copy width) s k = (home, copy, width, refl)
place_scalar written (extent.Scalar w) (Array _ _ _) s k = absurd k
place_scalar written (extent.Long n) (Array _ _ _) s k = absurd k
place_scalar written (extent.Array n) x s k = let no : false ≡ true = s in cc

-- the place of a declared long
place_long : (written : Bool) (e : Extent) (x : VariablePlace) → is_long_extent e ≡ true → IsPlaceOf written e x
    → (home copy : ℕ) × (x ≡ Scalar home copy TwoWords)
place_long written (extent.Scalar w) x s k = let no : false ≡ true = s in cc
place_long written (extent.Long n) (Scalar home copy width) s k = (home, copy, ap (Scalar home copy) k)
place_long written (extent.Long n) (Array _ _ _) s k = absurd k
place_long written (extent.Array n) x s k = let no : false ≡ true = s in cc

record ArrayPlace (written : Bool) (n : ℕ) (x : VariablePlace) : Type 0 where
  elements : ℕ
  copies : Option ArrayCopies
  is : x ≡ Array elements n copies
  has : is_some copies ≡ written

place_array : (written : Bool) (n : ℕ) (e : Extent) (x : VariablePlace) → e ≡ extent.Array n → IsPlaceOf written e x → ArrayPlace written n x
place_array written n (extent.Scalar w) x s k = let no : extent.Scalar w ≡ extent.Array n = s in cc
place_array written n (extent.Long m) x s k = let no : extent.Long m ≡ extent.Array n = s in cc
place_array written n (extent.Array m) (Scalar _ _ _) s k = absurd k
place_array written n (extent.Array m) (Array elements length copies) s k =
    let same : m ≡ n = cc in
    record { elements = elements; copies = copies; is = ap (λ y. Array elements y copies) (k.0 ∙ same); has = k.1 }

-- the declaration of what has the place of a scalar, or of an array
extent_scalar : (written : Bool) (e : Extent) (home copy : ℕ) (width : ScalarWidth) → IsPlaceOf written e (Scalar home copy width) → is_scalar e ≡ true
extent_scalar written (extent.Scalar w) home copy width k = refl
extent_scalar written (extent.Long n) home copy width k = refl
extent_scalar written (extent.Array n) home copy width k = absurd k

-- a scalar is as wide as it is declared
extent_width : (written : Bool) (e : Extent) (home copy : ℕ) (width : ScalarWidth) → IsPlaceOf written e (Scalar home copy width)
    → scalar_words width ≡ home_part e
extent_width written (extent.Scalar w) home copy width k = ap scalar_words k
extent_width written (extent.Long n) home copy width k = ap scalar_words k
extent_width written (extent.Array n) home copy width k = absurd k

extent_array : (written : Bool) (e : Extent) (elements n : ℕ) (copies : Option ArrayCopies) → IsPlaceOf written e (Array elements n copies)
    → (e ≡ extent.Array n) × (is_some copies ≡ written)
extent_array written (extent.Scalar w) elements n copies k = absurd k
extent_array written (extent.Long m) elements n copies k = absurd k
extent_array written (extent.Array m) elements n copies k = (ap (λ y. extent.Array y) (sym k.0), k.1)

module _ (p : CheckedProgram) (allow : Allow) (plans : List TaskPlanValue) (l : MemoryMap) (h : HasLayout p allow plans l) where
  -- a declaration's place
  pub its_place : (v : ℕ) (d : SharedDeclaration) → slice_get p.shared v ≡ Some d
      → (x : VariablePlace) × (slice_get l.variables v ≡ Some x) × IsPlaceOf (is_written (summaries p) p.tasks v) d.extent x
  its_place v d e =
      let lt = slice_get_within p.shared v d e in
      let count = h.layout.variables.count in
      let x = element l.variables v (omega (arith, lt, count)) in
      (x.0, x.1, h.layout.variables.each v d x.0 e x.1)

  -- a place's declaration
  pub its_declaration : (v : ℕ) (x : VariablePlace) → slice_get l.variables v ≡ Some x
      → (d : SharedDeclaration) × (slice_get p.shared v ≡ Some d) × IsPlaceOf (is_written (summaries p) p.tasks v) d.extent x
  its_declaration v x e =
      let lt = slice_get_within l.variables v x e in
      let count = h.layout.variables.count in
      let d = element p.shared v (omega (arith, lt, count)) in
      (d.0, d.1, h.layout.variables.each v d.0 x d.1 e)

  pub scalar_has_place : (v : ℕ) → IsScalarAt p.shared v
      → (home copy : ℕ) × (width : ScalarWidth) × (slice_get l.variables v ≡ Some (Scalar home copy width))
  scalar_has_place v k =
      let d = scalar_declared p.shared v k in
      let x = its_place v d.0 d.1 in
      let s = place_scalar (is_written (summaries p) p.tasks v) d.0.extent x.0 d.2 x.2 in
      (s.0, s.1, s.2, x.1 ∙ ap (λ y. Some y) s.3)

  -- a long has two words
  pub long_has_place : (v : ℕ) (d : SharedDeclaration) → slice_get p.shared v ≡ Some d → is_long_extent d.extent ≡ true
      → (home copy : ℕ) × (slice_get l.variables v ≡ Some (Scalar home copy TwoWords))
  long_has_place v d e k =
      let x = its_place v d e in
      let s = place_long (is_written (summaries p) p.tasks v) d.extent x.0 k x.2 in
      (s.0, s.1, x.1 ∙ ap (λ y. Some y) s.2)

  pub array_has_place : (v n : ℕ) (d : SharedDeclaration) → slice_get p.shared v ≡ Some d → d.extent ≡ extent.Array n
      → (elements : ℕ) × (copies : Option ArrayCopies) × (slice_get l.variables v ≡ Some (Array elements n copies))
      × (is_some copies ≡ is_written (summaries p) p.tasks v)
  array_has_place v n d e k =
      let x = its_place v d e in
      let s = place_array (is_written (summaries p) p.tasks v) n d.extent x.0 k x.2 in
      (s.elements, s.copies, x.1 ∙ ap (λ y. Some y) s.is, s.has)

  pub places_match : PlacesMatch p l
  places_match = record {
    count = h.layout.variables.count;
    scalar = scalar_has_place;
    is_scalar = λ v home copy width e.
        let d = its_declaration v (Scalar home copy width) e in
        scalar_at p.shared v d.0 d.1 (extent_scalar (is_written (summaries p) p.tasks v) d.0.extent home copy width d.2);
    is_wide = λ v home copy width d e at.
        extent_width (is_written (summaries p) p.tasks v) d.extent home copy width (h.layout.variables.each v d (Scalar home copy width) at e);
    array = array_has_place;
    is_array = λ v elements n copies e.
        let d = its_declaration v (Array elements n copies) e in
        let k = extent_array (is_written (summaries p) p.tasks v) d.0.extent elements n copies d.2 in
        (d.0, d.1, k.0, k.1);
  }

pub places_are_declared : PlacesAreDeclared
places_are_declared p allow plans l h = places_match p allow plans l h
