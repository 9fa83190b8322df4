-- A world that rests at a state has its words where the map says.
use Rattle.image_laws.proofs.Names.{◌≡◌, ℕ, zero, suc, ◌+◌, ◌*◌, ◌<◌, ◌==◌, ◌&&◌, refl, ap, ap₂, ◌∙◌, arith, true, eqb-true, List, [], ◌∷◌, length, Some}
use Rattle.image_laws.proofs.Names.{length-replicate, slice_get, slice_index, slice_index_or, SharedDeclaration, Extent, initial_words, World, words_at}
use Rattle.image_laws.proofs.Names.{rows_in, are_words, are_rows, one_word, value_type_of, variables_of, VariablePlace, scalar_words, home_region}
use Rattle.task_ast.specs.declared.Extent.TheVariants as extent
use Rattle.std.proofs.lemmas.Bool.{and_parts}
use Rattle.task_ast.specs.declared.WordType.{WordType}
use Rattle.source_runs.specs.Naming.{length_of}
use Rattle.image_map.specs.MapValue.{word_count}
use Rattle.source_maps.specs.Placing.{IsOfKind}
use Rattle.memory_map.specs.declared.place.VariablePlace.TheVariants.{Scalar, Array}

-- a row stands at a place
abbrev pub RowStands : World → List ℕ → VariablePlace → Type 0
RowStands x row place = (i : ℕ) → i < (home_region place).words → x.fram (2 * i + (home_region place).address) ≡ slice_index row i

words_row : (x : World) (a n : ℕ) (row : List ℕ) → length row ≡ n → ((k : ℕ) → k < n → x.fram (2 * k + a) ≡ slice_index row k)
    → words_at x a n ≡ row
words_row x a zero [] e h = refl
words_row x a zero (w ∷ row) e h = absurd (omega (arith, e))
words_row x a (suc n) [] e h = absurd (omega (arith, e))
words_row x a (suc n) (w ∷ row) e h =
    let here : x.fram a ≡ w = ap x.fram (first a) ∙ h 0 (omega arith) in
    let more = words_row x (a + 2) n row (omega (arith, e)) (λ k l. ap x.fram (next k a) ∙ h (suc k) (omega (arith, l))) in
    ap₂ (λ p q. p ∷ q) here more
  where
    first : (a : ℕ) → a ≡ 2 * 0 + a
    first a = omega arith

    next : (k a : ℕ) → 2 * k + (a + 2) ≡ 2 * suc k + a
    next k a = omega arith

one_row : (x : World) (w : WordType) (e : Extent) (place : VariablePlace) (row : List ℕ) → IsOfKind e place → length row ≡ length (initial_words e)
    → RowStands x row place → words_at x (home_region place).address (word_count (value_type_of w e) (length_of e)) ≡ row
one_row x w (extent.Scalar v) (Scalar home copy width) row m l h =
    let wide = ap scalar_words m in
    ap (words_at x home) (one_word w) ∙ words_row x home 1 row l (λ i below. h i (omega (arith, below, wide)))
one_row x w (extent.Long n) (Scalar home copy width) row m l h =
    let wide = ap scalar_words m in
    words_row x home 2 row l (λ i below. h i (omega (arith, below, wide)))
one_row x w (extent.Scalar v) (Array elements n copies) row m l h = absurd m
one_row x w (extent.Long v) (Array elements n copies) row m l h = absurd m
one_row x w (extent.Array n) (Scalar home copy width) row m l h = absurd m
one_row x w (extent.Array n) (Array elements k copies) row m l h =
    words_row x elements n row (l ∙ length-replicate n 0) (λ i below. h i (omega (arith, below, m)))

-- rows that stand at the places of their declarations are those that the map's variables name
pub all_rows : (x : World) (text : List ℕ) (ds : List SharedDeclaration) (places : List VariablePlace) (rows : List (List ℕ))
    → length places ≡ length ds → are_rows ds rows ≡ true
    → ((v : ℕ) (d : SharedDeclaration) (place : VariablePlace) → slice_get ds v ≡ Some d → slice_get places v ≡ Some place → IsOfKind d.extent place)
    → ((v : ℕ) (place : VariablePlace) → slice_get places v ≡ Some place → RowStands x (slice_index_or rows v []) place)
    → rows_in x (variables_of text ds places) ≡ rows
all_rows x text [] places [] count are match stand = refl
all_rows x text [] places (row ∷ rows) count are match stand = absurd (cc are)
all_rows x text (d ∷ ds) places [] count are match stand = absurd (cc are)
all_rows x text (d ∷ ds) [] (row ∷ rows) count are match stand = absurd (omega (arith, count))
all_rows x text (d ∷ ds) (place ∷ places) (row ∷ rows) count are match stand =
    let two = and_parts (length row == length (initial_words d.extent)) (are_words row && are_rows ds rows) are in
    let more = (and_parts (are_words row) (are_rows ds rows) two.1).1 in
    ap₂ (λ p q. p ∷ q)
    (one_row x d.word_type d.extent place row (match 0 d place refl refl) (eqb-true (length row) (length (initial_words d.extent)) two.0) (stand 0 place refl))
    (all_rows x text ds places rows (omega (arith, count)) more (λ v. match (suc v)) (λ v. stand (suc v)))
