-- The words of variables, row by row: those that a map's variables have at their places, and those that stand there in the FRAM.
use Rattle.compiled_states.proofs.Names.{◌≡◌, ℕ, zero, suc, ◌+◌, ◌-◌, ◌*◌, ◌/◌, ◌%◌, ◌<◌, ◌≤◌, if◌then◌else◌, cond, Bool, true, false, List, [], ◌∷◌, length}
use Rattle.compiled_states.proofs.Names.{map, refl, ap, ap₂, ◌∙◌, Some, None, sym, arith, slice_index, unwrap_or, position_from, or_parts, length-replicate}
use Rattle.compiled_states.proofs.Names.{Extent, SharedDeclaration, VariablePlace, Scalar, Array, end_of, scalar_words, home_region, AreInOrder, in_order_end}
use Rattle.compiled_states.proofs.Names.{words_at, row_in, word_count, initial_words, length_of, value_type_of, variable_of, variables_of, IsOfKind}
use Rattle.compiled_states.proofs.Names.{ArePlacesOf, half, holds, variable_words, is_shared, shared_word}
use Rattle.task_ast.specs.declared.Extent.TheVariants as extent
use Rattle.image_map.specs.declared.parts.Variable.{Variable}
use Rattle.compiled_states.proofs.Held.{within, past}
use Rattle.image_reports.proofs.Interface.{words_are}

-- no row has a word that no variable has
pub none_there : (vs : List Variable) (rows : List (List ℕ)) (a : ℕ) → is_shared vs a ≡ false → shared_word vs rows a ≡ None
none_there [] [] a h = refl
none_there [] (row ∷ rows) a h = refl
none_there (v ∷ vs) [] a h = refl
none_there (v ∷ vs) (row ∷ rows) a h =
    let both = or_parts (holds (variable_words v) a) (is_shared vs a) h in
    ap (λ b. if b then Some (slice_index row ((a - v.address) / 2)) else shared_word vs rows a) both.0 ∙ none_there vs rows a both.1

-- the first number that passes a test is below the count
pub position_below : {X : Type 0} (test : X → Bool) (xs : List X) (i n : ℕ) → position_from test i xs ≡ Some n → n < i + length xs
position_below test [] i n h = cc
position_below test (x ∷ xs) i n h = by_test (test x) h (position_below test xs (i + 1) n)
  where
    by_test : (b : Bool) → cond b (Some i) (position_from test (i + 1) xs) ≡ Some n
        → (position_from test (i + 1) xs ≡ Some n → n < i + 1 + length xs) → n < i + suc (length xs)
    by_test true here later = let same : i ≡ n = cc in omega arith
    by_test false there later = omega (arith, later there)

-- words that stand in the FRAM from an address on are a row
words_are_row : (f : ℕ → ℕ) (row : List ℕ) (n a : ℕ) → length row ≡ n → ((i : ℕ) → i < n → f (a + 2 * i) ≡ slice_index row i) → words_at n a f ≡ row
words_are_row f [] zero a long h = refl
words_are_row f [] (suc n) a long h = absurd (omega (arith, long))
words_are_row f (w ∷ row) zero a long h = absurd (omega (arith, long))
words_are_row f (w ∷ row) (suc n) a long h =
    let at : a ≡ a + 2 * 0 = omega arith in
    ap₂ (λ w ws. w ∷ ws) (ap f at ∙ h 0 (omega arith)) (words_are_row f row n (a + 2) (omega (arith, long)) (λ i lt. next i ∙ h (suc i) (omega (arith, lt))))
  where
    next : (i : ℕ) → f (a + 2 + 2 * i) ≡ f (a + 2 * suc i)
    next i = let there : a + 2 + 2 * i ≡ a + 2 * suc i = omega arith in ap f there

-- a place has as many words as its declaration begins with
begins_with : (e : Extent) (place : VariablePlace) → IsOfKind e place → length (initial_words e) ≡ (home_region place).words
begins_with (extent.Scalar w) (Scalar home copy width) h = sym (ap scalar_words h)
begins_with (extent.Long m) (Scalar home copy width) h = sym (ap scalar_words h)
begins_with (extent.Scalar w) (Array elements n copies) h = absurd h
begins_with (extent.Long m) (Array elements n copies) h = absurd h
begins_with (extent.Array m) (Scalar home copy width) h = absurd h
begins_with (extent.Array m) (Array elements n copies) h = length-replicate m 0 ∙ sym h

-- Where a FRAM has the words of rows, one for each declaration and of its length, at the places of the declared variables, the rows stand there.
module _ (text : List ℕ) (row : SharedDeclaration → List ℕ) (long : (d : SharedDeclaration) → length (row d) ≡ length (initial_words d.extent))
    (f other : ℕ → ℕ) where
  pub rows_stand : (ds : List SharedDeclaration) (places : List VariablePlace) (from end : ℕ) → ArePlacesOf ds places
      → AreInOrder from (map home_region places) end
      → ((a : ℕ) → a % 2 ≡ 0 → from ≤ a → a < end → f a ≡ unwrap_or (shared_word (variables_of text ds places) (map row ds) a) (other a))
      → map (λ v. row_in f (home_region v)) places ≡ map row ds
  rows_stand [] [] from end kinds order h = refl
  rows_stand [] (place ∷ places) from end kinds order h = absurd kinds
  rows_stand (d ∷ ds) [] from end kinds order h = absurd kinds
  rows_stand (d ∷ ds) (place ∷ places) from end kinds order h =
      ap₂ (λ (r : List ℕ) (rs : List (List ℕ)). r ∷ rs)
      (words_are_row f (row d) (home_region place).words (home_region place).address (long d ∙ begins_with d.extent place kinds.0) first)
      (rows_stand ds places (end_of (home_region place)) end kinds.1 order.1 later)
    where
      size : word_count (value_type_of d.word_type d.extent) (length_of d.extent) ≡ (home_region place).words
      size = words_are d.word_type d.extent place kinds.0

      begin : from ≤ (home_region place).address
      begin = order.0.from

      even : (home_region place).address % 2 ≡ 0
      even = order.0.even

      behind : end_of (home_region place) ≤ end
      behind = in_order_end (end_of (home_region place)) (map home_region places) end order.1

      first : (i : ℕ) → i < (home_region place).words → f ((home_region place).address + 2 * i) ≡ slice_index (row d) i
      first i lt =
          let from_here : ℕ = (home_region place).address in
          let a : ℕ = from_here + 2 * i in
          let v : Variable = variable_of text d place in
          let words = size in let low = begin in let two = even in let high = behind in
          let here : holds (variable_words v) a ≡ true = within (variable_words v) a (omega arith) (omega (arith, words, lt)) in
          h a (omega (arith, two)) (omega (arith, low)) (omega (arith, high, lt))
          ∙ ap (λ b. unwrap_or (if b then Some (slice_index (row d) ((a - v.address) / 2)) else shared_word (variables_of text ds places) (map row ds) a)
          (other a))
          here
          ∙ ap (slice_index (row d)) (half from_here i)

      later : (a : ℕ) → a % 2 ≡ 0 → end_of (home_region place) ≤ a → a < end
          → f a ≡ unwrap_or (shared_word (variables_of text ds places) (map row ds) a) (other a)
      later a two behind_here below =
          let v : Variable = variable_of text d place in
          let words = size in let low = begin in
          let out : holds (variable_words v) a ≡ false = past (variable_words v) a (omega (arith, words, behind_here)) in
          h a two (omega (arith, low, behind_here)) below
          ∙ ap (λ b. unwrap_or (if b then Some (slice_index (row d) ((a - v.address) / 2)) else shared_word (variables_of text ds places) (map row ds) a)
          (other a))
          out
