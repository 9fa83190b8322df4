-- An accepted text has one image for each runtime: its program and its allowance, its plan and its layout are one, and they say each word, and the map.
use Rattle.image_laws.proofs.Names.{◌≡◌, ◌∙◌, ℕ, ◌+◌, ◌*◌, ◌<◌, List, length, get_or, ap, arith, sym, subst, Some, slice_index, same_lists, get_or_default}
use Rattle.image_laws.proofs.Names.{fram_first, fram_words, Allow, IsAllowed, CheckedProgram, ImageValue, place_of, IsFram, fram_of, map_of, IsAcceptedText}
use Rattle.image_laws.proofs.Names.{AreImageWords, image_word, IsCompiledFor, ImagesAreOne}
use Rattle.war_analysis.specs.Laws.{OnePlan}
use Rattle.memory_map.specs.declared.runtime.Logging.{Logging}
use Rattle.memory_map.specs.declared.runtime.Logging.TheVariants.{Redo, Undo}
use Rattle.privatise.specs.Layouts.{IsLayoutFor}
use Rattle.privatise.specs.Laws.{OneLayoutFor, OneLayout}
use Rattle.source_meaning.specs.Laws.{OneProgram}
use Rattle.image_laws.proofs.Fram.{fram_at}

-- words of the FRAM that are the same at each address
same_words : (f : ℕ → ℕ) (xs ys : List ℕ) → length xs ≡ fram_words → length ys ≡ fram_words → ((a : ℕ) → IsFram a → fram_of xs a ≡ f a)
    → ((a : ℕ) → IsFram a → fram_of ys a ≡ f a)
    → xs ≡ ys
same_words f xs ys count same x y = same_lists xs ys (count ∙ sym same) each
  where
    stands : (k : ℕ) → k < length xs → IsFram (fram_first + 2 * k)
    stands k h = record { even = omega arith; low = omega arith; high = omega (arith, count, h) }

    place : (k : ℕ) → place_of (fram_first + 2 * k) ≡ k
    place k = omega arith

    at : (ws : List ℕ) (k : ℕ) → k < length xs → slice_index ws k ≡ fram_of ws (fram_first + 2 * k)
    at ws k h = ap (slice_index ws) (sym (place k)) ∙ sym (fram_at ws (fram_first + 2 * k) (stands k h))

    each : (k d : ℕ) → k < length xs → get_or xs k d ≡ get_or ys k d
    each k d h =
        let a = fram_first + 2 * k in
        let is = stands k h in
        get_or_default xs k d 0 h ∙ at xs k h ∙ x a is ∙ sym (y a is) ∙ sym (at ys k h) ∙ get_or_default ys k 0 d (omega (arith, count, same, h))

same_image : (a b : ImageValue) → a.words ≡ b.words → a.map ≡ b.map → a ≡ b
same_image a b words map = λ j. record { words = words j; map = map j }

-- where the plan of each program is one, and its layout for each runtime
module _ (one_plan : (p : CheckedProgram) → OnePlan p)
    (one_layout : (logging : Logging) (p : CheckedProgram) (allow : Allow) → IsAllowed p allow → OneLayoutFor logging p allow) where
  one_of_program : {logging : Logging} (text : List ℕ) (p : CheckedProgram) (allow : Allow) (a b : ImageValue) → IsAcceptedText text p allow
      → IsCompiledFor logging text p allow a → IsCompiledFor logging text p allow b → a ≡ b
  one_of_program {logging} text p allow a b ok x y =
      let plans : y.plans ≡ x.plans = one_plan p y.plans x.plans y.is_plan x.is_plan in
      let other = subst (λ ps. IsLayoutFor logging p allow ps y.layout) plans y.is_layout in
      let layout : x.layout ≡ y.layout = one_layout logging p allow ok.allowed x.plans x.layout y.layout x.is_plan x.is_layout other in
      let said = subst (λ l. AreImageWords p l b.words) (sym layout) y.words in
      let words = same_words (image_word p x.layout) a.words b.words x.words.count said.count x.words.each said.each in
      same_image a b words (x.map ∙ ap (λ l. Some (map_of text p l allow)) layout ∙ sym y.map)

  pub images_are_one : OneProgram → ImagesAreOne
  images_are_one one_program logging text a b x y =
      let same = one_program text x.program y.program x.allow y.allow x.accepted y.accepted in
      let of_program = subst (λ p. IsCompiledFor logging text p y.allow b) (sym same.0) y.compiled in
      let compiled = subst (λ allow. IsCompiledFor logging text x.program allow b) (sym same.1) of_program in
      one_of_program text x.program x.allow a b x.accepted x.compiled compiled

-- where it is one under each
pub one_layout_each : ((p : CheckedProgram) (allow : Allow) → IsAllowed p allow → OneLayout p allow)
    → ((p : CheckedProgram) (allow : Allow) → IsAllowed p allow → OneLayoutFor Undo p allow) → (logging : Logging) (p : CheckedProgram) (allow : Allow)
    → IsAllowed p allow → OneLayoutFor logging p allow
one_layout_each redo undo Redo = redo
one_layout_each redo undo Undo = undo
