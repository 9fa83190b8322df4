-- Rows that are written over words, and how long the rows of variables are.
use Rattle.std.proofs.Common.{◌≡◌, ◌<◌, ◌≤◌, ◌+◌, ◌⊎◌, inl, inr, ◌∙◌, ℕ, zero, suc, Bool, true, false, cond, List, [], ◌∷◌, length, set, take, drop}
use Rattle.std.proofs.Common.{map, replicate, Option, Some, None, refl, sym, ap, subst, arith}
use Rattle.std.specs.Prelude.{◌-◌, ◌*◌, ◌%◌, nat_lt, nat_le, slice_get, slice_index, All}
use Rattle.std.specs.Option.{option_map_or}
use Rattle.std.proofs.lemmas.Bool.{cases_lt, leb-true, eqb-true, and_parts}
use Rattle.std.proofs.lemmas.List.{drop_all, length-set, length-replicate, length-drop, length-take-le, get_or-set_same, get_or-set_other}
use Rattle.image_text.specs.image_map.declared.parts.Variable.{Variable}
use Rattle.image_text.specs.image_map.MapValue.{IsFramWord, IsVariable, fits, word_count}
use Rattle.image_text.specs.ImageValue.{place_of}
use Rattle.task_ast.specs.alp_text.Sequence.{◌>>?◌}
use Rattle.task_ast.specs.declared.WordType.{WordType}
use Rattle.task_ast.specs.declared.WordType.TheVariants.{Unsigned, Int}
use Rattle.task_ast.specs.declared.WordType.TheVariants as word_type
use Rattle.task_ast.specs.declared.Extent.{Extent}
use Rattle.task_ast.specs.declared.Extent.TheVariants.{Scalar, Long, Array}
use Rattle.task_ast.specs.declared.SharedDeclaration.{SharedDeclaration}
use Rattle.source_report.specs.source_values.Runs.{initial_words}
use Rattle.source_report.specs.SourceReport.{spelled}
use Rattle.source_maps.specs.source_runs.Naming.{length_of}
use Rattle.source_maps.specs.Maps.{value_type_of}
use Rattle.fram_state.specs.Runtime.{words_from}
use Rattle.fram_state.specs.Suits.{Line, line_of, declared_line}
use Rattle.fram_state.specs.Kept.{number_of, shared_names, same_type, same_kind, are_alike, if_alike, kept_from}
use Rattle.fram_state.specs.Migrated.{EditionValue, kept_number, words_of, row_of}
use Rattle.fram_state.specs.Laid.{with_row}
use Rattle.fram_state.specs.Editions.{IsEdition}

-- ---- a row over words

pub row_end : (row words : List ℕ) (place i : ℕ) → length row ≤ i → with_row place (drop i row) words ≡ words
row_end row words place i h = ap (λ r. with_row place r words) (drop_all i row h)

pub row_long : (row words : List ℕ) (place : ℕ) → length (with_row place row words) ≡ length words
row_long [] words place = refl
row_long (w ∷ row) words place = row_long row (set words place w) (suc place) ∙ length-set words place w

-- a word that the row doesn't have stays
pub row_out : (row words : List ℕ) (place k : ℕ) → (k < place) ⊎ (place + length row ≤ k) → slice_index (with_row place row words) k ≡ slice_index words k
row_out [] words place k h = refl
row_out (w ∷ row) words place k (inl h) =
    let other : k ≡ place → ⊥ = λ e. omega arith in
    row_out row (set words place w) (suc place) k (inl (omega arith)) ∙ get_or-set_other words place k w 0 other
row_out (w ∷ row) words place k (inr h) =
    let other : k ≡ place → ⊥ = λ e. omega arith in
    row_out row (set words place w) (suc place) k (inr (omega arith)) ∙ get_or-set_other words place k w 0 other

-- and one that it has is its own
pub row_in : (row words : List ℕ) (place k : ℕ) → place + length row ≤ length words → place ≤ k → k < place + length row
    → slice_index (with_row place row words) k ≡ slice_index row (k - place)
row_in [] words place k ends low high = absurd (omega arith)
row_in (w ∷ row) words place k ends low high =
    by_first (λ later. row_in row (set words place w) (suc place) k (omega (arith, length-set words place w)) (omega arith) (omega arith)) (cases_lt place k)
  where
    long : length (set words place w) ≡ length words
    long = length-set words place w

    by_first : (place < k → slice_index (with_row (suc place) row (set words place w)) k ≡ slice_index row (k - suc place)) → (place < k) ⊎ (k ≤ place)
        → slice_index (with_row (suc place) row (set words place w)) k ≡ slice_index (w ∷ row) (k - place)
    by_first more (inl later) =
        let next : k - place ≡ suc (k - suc place) = omega arith in
        more later ∙ ap (slice_index (w ∷ row)) (sym next)
    by_first more (inr here) =
        let is : k ≡ place = omega arith in
        let first : k - place ≡ 0 = omega arith in
        row_out row (set words place w) (suc place) k (inl (omega arith)) ∙ ap (slice_index (set words place w)) is
        ∙ get_or-set_same words place w 0 (omega arith) ∙ ap (slice_index (w ∷ row)) (sym first)

-- ---- how long the rows of variables are

pub words_end : (a n : ℕ) → 17408 ≤ a → a % 2 ≡ 0 → fits a n ≡ true → place_of a + n ≤ 24064
words_end a n low even fit =
    let high : a + 2 * n ≤ 65536 = leb-true (a + 2 * n) 65536 (and_parts (nat_lt 0 n) (nat_le (a + 2 * n) 65536) fit).1 in
    omega arith

-- a variable's words end in the FRAM
pub variable_fits : (v : Variable) → IsVariable v → place_of v.address + word_count v.value_type v.length ≤ 24064
variable_fits v is = words_end v.address (word_count v.value_type v.length) is.address.low is.address.even is.fits

-- the line of a declared variable is there, and is its declaration's
pub line_at : (text : List ℕ) (vs : List Variable) (ds : List SharedDeclaration) (j : ℕ) (d : SharedDeclaration)
    → map line_of vs ≡ map (declared_line text) ds → slice_get ds j ≡ Some d
    → (v : Variable) × (slice_get vs j ≡ Some v) × (line_of v ≡ declared_line text d)
line_at text [] [] j d same at = cc
line_at text [] (e ∷ ds) j d same at = cc
line_at text (v ∷ vs) [] j d same at = cc
line_at text (v ∷ vs) (e ∷ ds) zero d same at =
    let first : line_of v ≡ declared_line text e = cc in
    let is : e ≡ d = cc in
    (v, refl, first ∙ ap (declared_line text) is)
line_at text (v ∷ vs) (e ∷ ds) (suc j) d same at =
    let rest : map line_of vs ≡ map (declared_line text) ds = cc in
    line_at text vs ds j d rest at

pub variable_at : (vs : List Variable) (j : ℕ) (v : Variable) → All IsVariable vs → slice_get vs j ≡ Some v → IsVariable v
variable_at [] j v all at = cc
variable_at (w ∷ vs) zero v all at = let is : w ≡ v = cc in subst IsVariable is (all 0 w (omega arith))
variable_at (w ∷ vs) (suc j) v all at = variable_at vs j v (λ k d h. all (suc k) d (omega arith)) at

-- a variable that is kept is like the new one
pub record IsAlike (shared : List SharedDeclaration) (d : SharedDeclaration) (j : ℕ) : Type 0 where
  pub old : SharedDeclaration
  pub at : slice_get shared j ≡ Some old
  pub alike : are_alike old d ≡ true

alike_at : (shared : List SharedDeclaration) (d : SharedDeclaration) (k j : ℕ) → if_alike shared d k ≡ Some j → IsAlike shared d j
alike_at shared d k j h = by_old (slice_get shared k) refl h
  where
    by_test : (e : SharedDeclaration) → slice_get shared k ≡ Some e → (b : Bool) → are_alike e d ≡ b → cond b (Some k) None ≡ Some j → IsAlike shared d j
    by_test e at true alike g =
        let is : k ≡ j = cc in
        record { old = e; at = subst (λ n. slice_get shared n ≡ Some e) is at; alike = alike }
    by_test e at false alike g = cc

    by_old : (o : Option SharedDeclaration) → slice_get shared k ≡ o → (o >>? λ e. cond (are_alike e d) (Some k) None) ≡ Some j → IsAlike shared d j
    by_old None at g = cc
    by_old (Some e) at g = by_test e at (are_alike e d) refl g

pub kept_alike : (text : List ℕ) (shared : List SharedDeclaration) (name : List ℕ) (d : SharedDeclaration) (j : ℕ)
    → kept_from text shared name d ≡ Some j → IsAlike shared d j
kept_alike text shared name d j h = by_number (number_of (shared_names text shared) name) h
  where
    by_number : (o : Option ℕ) → (o >>? if_alike shared d) ≡ Some j → IsAlike shared d j
    by_number None g = cc
    by_number (Some k) g = alike_at shared d k j g

-- variables of one kind have as many words
same_words : (e d : Extent) → same_kind e d ≡ true → length (initial_words e) ≡ length (initial_words d)
same_words (Scalar w) (Scalar v) h = refl
same_words (Scalar w) (Long m) h = cc
same_words (Scalar w) (Array m) h = cc
same_words (Long w) (Scalar v) h = cc
same_words (Long w) (Long v) h = refl
same_words (Long w) (Array m) h = cc
same_words (Array n) (Scalar v) h = cc
same_words (Array n) (Long v) h = cc
same_words (Array n) (Array m) h = ap (λ k. length (initial_words (Array k))) (eqb-true n m h)

declared_words : (w : WordType) (e : Extent) → word_count (value_type_of w e) (length_of e) ≡ length (initial_words e)
declared_words Unsigned (Scalar v) = refl
declared_words Int (Scalar v) = refl
declared_words word_type.Long (Scalar v) = refl
declared_words w (Long n) = refl
declared_words w (Array n) = sym (length-replicate n 0)

-- a variable with the line of a declaration has as many words as this begins with
pub line_words : (text : List ℕ) (d : SharedDeclaration) (v : Variable) → line_of v ≡ declared_line text d
    → word_count v.value_type v.length ≡ length (initial_words d.extent)
line_words text d v line = ap (λ (l : Line). word_count l.value_type l.length) line ∙ declared_words d.word_type d.extent

words_long : (words : List ℕ) (v : Variable) → length words ≡ 24064 → IsVariable v
    → length (words_from words v.address (word_count v.value_type v.length)) ≡ word_count v.value_type v.length
words_long words v all is =
    let ends = variable_fits v is in
    let behind : length (drop (place_of v.address) words) ≡ length words - place_of v.address = length-drop (place_of v.address) words in
    length-take-le (word_count v.value_type v.length) (drop (place_of v.address) words) (omega arith)

-- the row of a new variable is as long as the one that it would begin with
pub row_length : (old : EditionValue) → IsEdition old → (text : List ℕ) (d : SharedDeclaration)
    → length (row_of old text d) ≡ length (initial_words d.extent)
row_length old is text d = by_kept (kept_number old text d) refl
  where
    by_kept : (o : Option ℕ) → kept_number old text d ≡ o
        → length (option_map_or (words_of old) o (initial_words d.extent)) ≡ length (initial_words d.extent)
    by_kept None e = refl
    by_kept (Some j) e =
        let kept = kept_alike old.text old.program.shared (spelled text d.name) d j e in
        let v = line_at old.text old.named.variables old.program.shared j kept.old is.variables kept.at in
        let variable = variable_at old.named.variables j v.0 is.rules.variables v.1 in
        let kind : same_kind kept.old.extent d.extent ≡ true = (and_parts (same_type kept.old.word_type d.word_type) _ kept.alike).1 in
        ap (λ o. length (option_map_or (λ (v : Variable). words_from old.words v.address (word_count v.value_type v.length)) o [])) v.1
        ∙ words_long old.words v.0 is.words variable ∙ line_words old.text kept.old v.0 v.2 ∙ same_words kept.old.extent d.extent kind

-- so it fits at the variable's place
pub row_fits : (old : EditionValue) → IsEdition old → (text : List ℕ) (d : SharedDeclaration) (v : Variable) → IsVariable v
    → line_of v ≡ declared_line text d → place_of v.address + length (row_of old text d) ≤ 24064
row_fits old is text d v variable line =
    let long = row_length old is text d in
    let words = line_words text d v line in
    let ends = variable_fits v variable in
    omega arith

-- the words of the old variable from which it is kept fit there, too
pub kept_fits : (old : EditionValue) → IsEdition old → (text : List ℕ) (d : SharedDeclaration) (v : Variable) → IsVariable v
    → line_of v ≡ declared_line text d → (name row : List ℕ) (j : ℕ) → name ≡ spelled text d.name → Some j ≡ kept_from old.text old.program.shared name d
    → row ≡ words_of old j → place_of v.address + length row ≤ 24064
kept_fits old is text d v variable line name row j named kept is_row =
    let from : kept_number old text d ≡ Some j = ap (λ n. kept_from old.text old.program.shared n d) (sym named) ∙ sym kept in
    let same : row_of old text d ≡ row = ap (λ o. option_map_or (words_of old) o (initial_words d.extent)) from ∙ sym is_row in
    subst (λ r. place_of v.address + length r ≤ 24064) same (row_fits old is text d v variable line)
