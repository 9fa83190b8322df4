-- The words of the variables as a task has them.
use Rattle.task_attempts.proofs.Names.{◌≡◌, ℕ, ◌+◌, ◌*◌, ◌==◌, ◌<◌, length, Option, Some, None, Bool, true, false, refl, sym, ap, ◌∙◌, subst, ⊎_elim, eq-eqb}
use Rattle.std.specs.Prelude.{List}
use Rattle.task_ast.specs.Paths.{CheckedFunction}
use Rattle.task_attempts.proofs.Names.{ne_eqb, if◌then◌else◌, cases_eq, cases_Bool, Contains, slice_get, CheckedBlock, some_path_writes, map_seen, scalar_seen}
use Rattle.task_attempts.proofs.Names.{array_seen, array_read, is_private_in, word_of_seen, own_word, own_by, IsRedo, IsUndo, Logging, Redo, Undo, Version}
use Rattle.task_attempts.proofs.Names.{ScalarWidth}
use Rattle.task_attempts.proofs.Names.{VariablePlace, Scalar, Array, arith}
use Rattle.task_attempts.proofs.Names.{PrivateScalar, MemoryMap, TaskPlace, word_place, scalar_words, home_region, Places, places_of, scalar_address, words_at}
use Rattle.task_attempts.proofs.Names.{IsScalarWord, Element, IsElement, IsCopied, element_in, copy_in, version_in, element_address, copy_address}
use Rattle.task_attempts.proofs.Names.{version_address, IsWordOf}
use Rattle.memory_map.specs.declared.place.ArrayCopies.{ArrayCopies}
use Rattle.task_attempts.proofs.Given.{ArePrivates}

-- an element as an attempt has it: its copy where its version word is VER, else the element itself
pub data OwnWord (p : Places) (f : ℕ → ℕ) (x : Element) : Type 0 where
  marked : IsCopied p x → f (version_address p x) ≡ f (word_place p.map Version) → own_word p f (slice_get p.map.variables x.array) x.index
      ≡ f (copy_address p x)
      → OwnWord p f x
  unmarked : (IsCopied p x → f (version_address p x) ≡ f (word_place p.map Version) → ⊥) → own_word p f (slice_get p.map.variables x.array) x.index ≡ f
      (element_address p x) → OwnWord p f x

module _ (p : Places) (f : ℕ → ℕ) (x : Element) (elements length : ℕ) (below : x.index < length) (redo : IsRedo p) where
  own_uncopied : slice_get p.map.variables x.array ≡ Some (Array elements length None) → OwnWord p f x
  own_uncopied e =
      unmarked (λ c m. let k = c.is_array.place in cc) (ap (λ o. own_word p f o x.index) e ∙ sym (ap (λ o. f (element_in o x.index)) e))

  own_copied : (c : ArrayCopies) → slice_get p.map.variables x.array ≡ Some (Array elements length (Some c)) → OwnWord p f x
  own_copied c e =
      let m = 2 * x.index + c.versions in
      let copied : IsCopied p x = record { elements = elements; length = length; copies = c; is_array = record { place = e }; below = below } in
      let at_version : version_address p x ≡ m = ap (λ o. version_in o x.index) e in
      let chosen : Bool → ℕ = λ b. if b then f (2 * x.index + c.copies) else f (2 * x.index + elements) in
      let of : Logging → ℕ = λ logging. own_by logging (f (word_place p.map Version) == f m) (f (2 * x.index + c.copies)) (f (2 * x.index + elements)) in
      let word : own_word p f (slice_get p.map.variables x.array) x.index ≡ chosen (f (word_place p.map Version) == f m) =
      ap (λ o. own_word p f o x.index) e ∙ ap of redo in
      ⊎_elim {C = OwnWord p f x}
      (λ same. marked copied (ap f at_version ∙ sym same)
      (word ∙ ap chosen (eq-eqb (f (word_place p.map Version)) (f m) same) ∙ sym (ap (λ o. f (copy_in o x.index)) e)))
      (λ other. unmarked (λ k h. other (sym h ∙ ap f at_version))
      (word ∙ ap chosen (ne_eqb (f (word_place p.map Version)) (f m) other) ∙ sym (ap (λ o. f (element_in o x.index)) e)))
      (cases_eq (f (word_place p.map Version)) (f m))

  own_place : (copies : Option ArrayCopies) → slice_get p.map.variables x.array ≡ Some (Array elements length copies) → OwnWord p f x
  own_place None e = own_uncopied e
  own_place (Some c) e = own_copied c e

pub own_word_of : (p : Places) (f : ℕ → ℕ) (x : Element) → IsRedo p → IsElement p x → OwnWord p f x
own_word_of p f x redo h = own_place p f x h.elements h.length h.below redo h.copies h.is_array.place

-- an element that isn't marked is as it stands
pub own_unmarked : (p : Places) (f : ℕ → ℕ) (x : Element) → IsElement p x → (IsCopied p x → f (version_address p x) ≡ f (word_place p.map Version) → ⊥)
    → own_word p f (slice_get p.map.variables x.array) x.index ≡ f (element_address p x)
own_unmarked p f x h none = by h.copies h.is_array.place
  where
    i : ℕ
    i = x.index

    by : (copies : Option ArrayCopies) → slice_get p.map.variables x.array ≡ Some (Array h.elements h.length copies)
        → own_word p f (slice_get p.map.variables x.array) x.index ≡ f (element_address p x)
    by None e = ap (λ o. own_word p f o i) e ∙ sym (ap (λ o. f (element_in o i)) e)
    by (Some c) e =
        let m = 2 * i + c.versions in
        let copied : IsCopied p x = record { elements = h.elements; length = h.length; copies = c; is_array = record { place = e }; below = h.below } in
        let at_version : version_address p x ≡ m = ap (λ o. version_in o i) e in
        let other : f (word_place p.map Version) ≡ f m → ⊥ = λ same. none copied (ap f at_version ∙ sym same) in
        ap (λ o. own_word p f o i) e ∙ by_logging c p.map.runtime.logging other ∙ sym (ap (λ o. f (element_in o i)) e)
      where
        by_logging : (c : ArrayCopies) (logging : Logging) → (f (word_place p.map Version) ≡ f (2 * i + c.versions) → ⊥)
            → own_by logging (f (word_place p.map Version) == f (2 * i + c.versions)) (f (2 * i + c.copies)) (f (2 * i + h.elements)) ≡ f (2 * i + h.elements)
        by_logging c Redo other =
            ap (λ b. if b then f (2 * i + c.copies) else f (2 * i + h.elements)) (ne_eqb (f (word_place p.map Version)) (f (2 * i + c.versions)) other)
        by_logging c Undo other = refl

-- under undo each is
pub own_in_place : (p : Places) (f : ℕ → ℕ) (x : Element) → IsUndo p → IsElement p x
    → own_word p f (slice_get p.map.variables x.array) x.index ≡ f (element_address p x)
own_in_place p f x undo h = by h.copies h.is_array.place
  where
    i : ℕ
    i = x.index

    by : (copies : Option ArrayCopies) → slice_get p.map.variables x.array ≡ Some (Array h.elements h.length copies)
        → own_word p f (slice_get p.map.variables x.array) x.index ≡ f (element_address p x)
    by None e = ap (λ o. own_word p f o i) e ∙ sym (ap (λ o. f (element_in o i)) e)
    by (Some c) e =
        ap (λ o. own_word p f o i) e
        ∙ ap (λ logging. own_by logging (f (word_place p.map Version) == f (2 * i + c.versions)) (f (2 * i + c.copies)) (f (2 * i + h.elements))) undo
        ∙ sym (ap (λ o. f (element_in o i)) e)

-- of FRAM that holds words it is a word
pub own_small : (p : Places) (f : ℕ → ℕ) (o : Option VariablePlace) (i : ℕ) → ((a : ℕ) → f a < 0x10000) → own_word p f o i < 0x10000
own_small p f (Some (Array elements length (Some c))) i words =
    by p.map.runtime.logging (f (word_place p.map Version) == f (2 * i + c.versions))
  where
    by : (logging : Logging) (b : Bool) → own_by logging b (f (2 * i + c.copies)) (f (2 * i + elements)) < 0x10000
    by Redo true = words (2 * i + c.copies)
    by Redo false = words (2 * i + elements)
    by Undo b = words (2 * i + elements)
own_small p f (Some (Array elements length None)) i words = words (2 * i + elements)
own_small p f (Some (Scalar home copy width)) i words = omega arith
own_small p f None i words = omega arith

-- ---- words of variables

module _ (fs : List CheckedFunction) (l : MemoryMap) (body : CheckedBlock) (t : TaskPlace) where
  -- the places that the task works on
  abbrev seen : Places
  seen = places_of (map_seen fs body l) t

  pub scalar_there : (v home copy : ℕ) (width : ScalarWidth) (i : ℕ) → slice_get l.variables v ≡ Some (Scalar home copy width) → i < scalar_words width
      → IsScalarWord seen v i
  scalar_there v home copy width i e below =
      let at = scalar_seen (some_path_writes fs body) l.variables v home copy width e in subst (λ n. i < n) (sym (ap words_at at)) below

  -- an element of an array is one for the task
  pub element_there : (v i elements n : ℕ) (copies : Option ArrayCopies) → slice_get l.variables v ≡ Some (Array elements n copies) → i < n
      → IsElement seen (record { array = v; index = i }) × (element_address seen (record { array = v; index = i }) ≡ 2 * i + elements)
  element_there v i elements n copies e h = ⊎_elim written unwritten (cases_Bool (some_path_writes fs body v))
    where
      written : some_path_writes fs body v ≡ true
          → IsElement seen (record { array = v; index = i }) × (element_address seen (record { array = v; index = i }) ≡ 2 * i + elements)
      written w =
          let at = array_seen (some_path_writes fs body) l.variables v elements n copies e w in
          (record { elements = elements; length = n; copies = copies; is_array = record { place = at }; below = h }, ap (λ o. element_in o i) at)

      unwritten : some_path_writes fs body v ≡ false
          → IsElement seen (record { array = v; index = i }) × (element_address seen (record { array = v; index = i }) ≡ 2 * i + elements)
      unwritten w =
          let at = array_read (some_path_writes fs body) l.variables v elements n copies e w in
          (record { elements = elements; length = n; copies = None; is_array = record { place = at }; below = h }, ap (λ o. element_in o i) at)

  -- an element's address is that of its word
  pub element_word : (x : Element) → IsElement seen x → IsWordOf l x.array x.index (element_address seen x)
  element_word x h = word_of_seen fs body l x.array x.index (element_address seen x) (record {
    place = Array h.elements h.length h.copies;
    at = h.is_array.place;
    below = h.below;
    address = ap (λ o. element_in o x.index) h.is_array.place;
  })

-- under redo: with the copies of private scalars
module _ (fs : List CheckedFunction) (l : MemoryMap) (body : CheckedBlock) (t : TaskPlace) (privates : ArePrivates fs l body t) where
  abbrev here : Places
  here = places_of (map_seen fs body l) t

  -- word i of variable v, at an address: one of a scalar that the task has there, one that it has in a copy, or an element
  pub data IsTaskWord (v i a : ℕ) : Type 0 where
    left_there : IsScalarWord here v i → scalar_address here v i ≡ a → IsTaskWord v i a
    private : (s : PrivateScalar) → Contains t.privates s → i < scalar_words s.width → a ≡ 2 * i + s.home → IsTaskWord v i a
    element : (x : Element) → IsElement here x → v ≡ x.array → i ≡ x.index → a ≡ element_address here x → IsTaskWord v i a

  word_by : (v i a : ℕ) (place : VariablePlace) → slice_get l.variables v ≡ Some place → i < (home_region place).words → a ≡ 2 * i +
      (home_region place).address → IsTaskWord v i a
  word_by v i a (Scalar home copy width) e h at = by (is_private_in fs body v) refl
    where
      by : (b : Bool) → is_private_in fs body v ≡ b → IsTaskWord v i a
      by true is = private (record { number = v; home = home; copy = copy; width = width }) (privates.each v home copy width e is) h at
      by false left = left_there (scalar_there fs l body t v home copy width i e h) (ap (λ z. 2 * i + z) (privates.left v home copy width e left) ∙ sym at)
  word_by v i a (Array elements length copies) e h at =
      let x = element_there fs l body t v i elements length copies e h in
      element (record { array = v; index = i }) x.0 refl refl (at ∙ sym x.1)

  pub task_word : (v i a : ℕ) → IsWordOf l v i a → IsTaskWord v i a
  task_word v i a h = word_by v i a h.place h.at h.below h.address
