-- The words of a migrated FRAM, address by address.
use Rattle.std.proofs.Common.{◌≡◌, ◌<◌, ◌≤◌, ◌+◌, ◌⊎◌, inl, inr, ◌∙◌, ℕ, suc, Bool, true, false, cond, List, [], ◌∷◌, length, map, Option, Some, None, refl}
use Rattle.std.proofs.Common.{sym, ap}
use Rattle.std.proofs.Common.{arith, true≢false}
use Rattle.std.specs.Prelude.{◌-◌, ◌*◌, ◌/◌, ◌==◌, slice_index, unwrap_or, All, nat_le, nat_lt}
use Rattle.std.proofs.lemmas.Bool.{cases_lt, leb-true, ltb-true, le-leb, lt-ltb, and_parts, and_from}
use Rattle.image_text.specs.image_map.declared.parts.Variable.{Variable}
use Rattle.image_text.specs.image_map.MapValue.{IsFramWord, IsVariable, word_count}
use Rattle.image_text.specs.ImageValue.{place_of}
use Rattle.task_ast.specs.declared.SharedDeclaration.{SharedDeclaration}
use Rattle.fram_state.specs.Stretch.{holds}
use Rattle.fram_state.specs.Named.{variable_words}
use Rattle.fram_state.specs.Runtime.{word_in}
use Rattle.fram_state.specs.Suits.{line_of, declared_line}
use Rattle.fram_state.specs.Migrated.{EditionValue, row_of, rows_of, shared_word, kept_ring_word, AreMigrated}
use Rattle.fram_state.specs.Laid.{with_row, with_rows, with_word, words_kept, migrated_words}
use Rattle.fram_state.specs.Editions.{IsEdition}
use Rattle.fram_state.proofs.Ring.{word_put, word_long, kept_ring_long, kept_ring_put}
use Rattle.fram_state.proofs.Rows.{row_long, row_out, row_in, variable_fits, line_words, row_length}

-- ---- the rows of variables

-- each row is as long as its variable, which is one of the FRAM
RowsFit : List Variable → List (List ℕ) → Type 0
RowsFit [] rows = Unit {0}
RowsFit (v ∷ vs) [] = Unit {0}
RowsFit (v ∷ vs) (row ∷ rows) = IsVariable v × (length row ≡ word_count v.value_type v.length) × RowsFit vs rows

pub rows_long : (vs : List Variable) (rows : List (List ℕ)) (words : List ℕ) → length (with_rows vs rows words) ≡ length words
rows_long [] [] words = refl
rows_long [] (row ∷ rows) words = refl
rows_long (v ∷ vs) [] words = refl
rows_long (v ∷ vs) (row ∷ rows) words = row_long row (with_rows vs rows words) (place_of v.address) ∙ rows_long vs rows words

rows_word : (vs : List Variable) (rows : List (List ℕ)) (words : List ℕ) (a : ℕ) → RowsFit vs rows → length words ≡ 24064 → IsFramWord a
    → word_in (with_rows vs rows words) a ≡ unwrap_or (shared_word vs rows a) (word_in words a)
unfolding RowsFit
rows_word [] [] words a fit all is = refl
rows_word [] (row ∷ rows) words a fit all is = refl
rows_word (v ∷ vs) [] words a fit all is = refl
rows_word (v ∷ vs) (row ∷ rows) words a (variable, long, fit) all is =
    by_held (rows_word vs rows words a fit all is) (holds (variable_words v) a) refl
  where
    below : List ℕ
    below = with_rows vs rows words

    wide : length below ≡ 24064
    wide = rows_long vs rows words ∙ all

    fits : place_of v.address + word_count v.value_type v.length ≤ 24064
    fits = variable_fits v variable

    outside : holds (variable_words v) a ≡ false → (place_of a < place_of v.address) ⊎ (place_of v.address + length row ≤ place_of a)
    outside h = by_order (cases_lt a v.address) (cases_lt a (v.address + 2 * word_count v.value_type v.length))
      where
        by_order : (a < v.address) ⊎ (v.address ≤ a)
            → (a < v.address + 2 * word_count v.value_type v.length) ⊎ (v.address + 2 * word_count v.value_type v.length ≤ a)
            → (place_of a < place_of v.address) ⊎ (place_of v.address + length row ≤ place_of a)
        by_order (inl less) end = inl (omega (arith, variable.address.low, variable.address.even, is.low, is.even))
        by_order (inr from) (inr to) = inr (omega (arith, long, variable.address.low, variable.address.even, is.low, is.even))
        by_order (inr from) (inl to) =
            let held = and_from (nat_le v.address a) (nat_lt a (v.address + 2 * word_count v.value_type v.length)) (le-leb v.address a from)
            (lt-ltb a (v.address + 2 * word_count v.value_type v.length) to) in
            absurd (true≢false (sym held ∙ h))

    by_held : word_in (with_rows vs rows words) a ≡ unwrap_or (shared_word vs rows a) (word_in words a) → (b : Bool)
        → holds (variable_words v) a ≡ b → word_in (with_row (place_of v.address) row below) a
        ≡ unwrap_or (cond b (Some (slice_index row ((a - v.address) / 2))) (shared_word vs rows a)) (word_in words a)
    by_held more true h =
        let both = and_parts (nat_le v.address a) (nat_lt a (v.address + 2 * word_count v.value_type v.length)) h in
        let from : v.address ≤ a = leb-true v.address a both.0 in
        let to : a < v.address + 2 * word_count v.value_type v.length = ltb-true a (v.address + 2 * word_count v.value_type v.length) both.1 in
        let index : place_of a - place_of v.address ≡ (a - v.address) / 2 = omega (arith, variable.address.low, variable.address.even, is.low, is.even) in
        row_in row below (place_of v.address) (place_of a) (omega (arith, long, wide, fits)) (omega (arith, variable.address.low))
        (omega (arith, long, variable.address.low, variable.address.even, is.low, is.even)) ∙ ap (slice_index row) index
    by_held more false h = row_out row below (place_of v.address) (place_of a) (outside h) ∙ more

rows_fit : (old : EditionValue) → IsEdition old → (text : List ℕ) (vs : List Variable) (ds : List SharedDeclaration) → All IsVariable vs
    → map line_of vs ≡ map (declared_line text) ds → RowsFit vs (map (row_of old text) ds)
unfolding RowsFit
rows_fit old is text [] ds all same = tt
rows_fit old is text (v ∷ vs) [] all same = tt
rows_fit old is text (v ∷ vs) (d ∷ ds) all same =
    let first : line_of v ≡ declared_line text d = cc in
    let rest : map line_of vs ≡ map (declared_line text) ds = cc in
    let long = row_length old is text d ∙ sym (line_words text d v first) in
    (all 0 v (omega arith), long, rows_fit old is text vs ds (λ k d h. all (suc k) d (omega arith)) rest)

-- ---- the whole FRAM

module _ (old new : EditionValue) (is_old : IsEdition old) (is_new : IsEdition new) (task : ℕ) where
  abbrev laid : List ℕ
  laid = with_rows new.named.variables (rows_of old new) new.words

  laid_long : length laid ≡ 24064
  laid_long = rows_long new.named.variables (rows_of old new) new.words ∙ is_new.words

  -- with the ring that goes on
  abbrev kept : List ℕ
  kept = words_kept old new

  kept_long : length kept ≡ 24064
  kept_long = kept_ring_long new.named.ring old.named.ring old.words laid is_new.rules.ring is_old.rules.ring is_old.words laid_long

  kept_word : (a : ℕ) → IsFramWord a → word_in kept a
      ≡ unwrap_or (kept_ring_word new.named.ring old.named.ring old.words a)
      (unwrap_or (shared_word new.named.variables (rows_of old new) a) (word_in new.words a))
  kept_word a is =
      kept_ring_put new.named.ring old.named.ring old.words laid a is_new.rules.ring is_old.rules.ring is_old.words laid_long is
      ∙ ap (unwrap_or (kept_ring_word new.named.ring old.named.ring old.words a))
      (rows_word new.named.variables (rows_of old new) new.words a
      (rows_fit old is_old new.text new.named.variables new.program.shared is_new.rules.variables is_new.variables) is_new.words is)

  abbrev based : List ℕ
  based = with_word kept new.named.words.base (word_in old.words old.named.words.base)

  based_long : length based ≡ 24064
  based_long = word_long kept new.named.words.base (word_in old.words old.named.words.base) kept_long

  pub migrated_long : length (migrated_words old new task) ≡ 24064
  migrated_long = word_long based new.named.words.current_task task based_long

  pub are_migrated : AreMigrated old new task (migrated_words old new task)
  are_migrated a is =
      let base = word_in old.words old.named.words.base in
      word_put based new.named.words.current_task task a based_long is_new.rules.words.current_task is
      ∙ ap (λ w. cond (a == new.named.words.current_task) task w) (word_put kept new.named.words.base base a kept_long is_new.rules.words.base is
      ∙ ap (λ w. cond (a == new.named.words.base) base w) (kept_word a is))
