-- Rows of words that change in one place.
use Rattle.std.proofs.Common.{◌≡◌, ◌<◌, ◌≤◌, ◌+◌, ◌++◌, ◌∷◌, ℕ, List, [], map, length, get_or, take, sym, ap, ◌∙◌, Vec, arith, add-one}
use Rattle.std.proofs.Common.{slice_set, slice_index, subst}
use Rattle.std.specs.Global.{Global}
use Rattle.std.specs.Vec.{with_items}
use Rattle.std.proofs.lemmas.List.{map-set, get_or-map, with_items_is, length-map, take_all}
use Rattle.std.proofs.Math.ListN.{length-set}
use Rattle.std.proofs.Math.Seq.{map-set_same, take-suc, take-suc-set}
use Rattle.source_values.specs.Rows.{rows_of}
use Rattle.source_values.specs.Marks.{MarksValue, IsMarked, Covers}
use Rattle.source_values.proofs.Marked.{covers_put}

-- what the rows are where one word of the row that the code reached is set
record Set (rows : List (Vec ℕ Global)) (v i w : ℕ) (r : Vec ℕ Global) (words : List ℕ) : Type 0 where
  pub length_kept : length words ≡ length (get_or (rows_of rows) v [])
  pub words_are : words ≡ slice_set (get_or (rows_of rows) v []) i w
  pub row_is : rows_of (slice_set rows v (with_items (get_or rows v r) words)) ≡ slice_set (rows_of rows) v words

set_row : (rows : List (Vec ℕ Global)) (v i w : ℕ) (r : Vec ℕ Global) (before words : List ℕ) → v < length rows → before ≡ (get_or rows v r).items
    → words ≡ slice_set before i w
    → Set rows v i w r words
set_row rows v i w r before words h e f =
    let same : before ≡ get_or (rows_of rows) v [] = e ∙ sym (get_or-map (λ row. row.items) rows v r [] h) in
    let len : length words ≡ (get_or rows v r).len = ap length f ∙ length-set before i w ∙ ap length e ∙ sym (get_or rows v r).ok.0 in
    record {
      length_kept = ap length f ∙ length-set before i w ∙ ap length same;
      words_are = f ∙ ap (λ ws. slice_set ws i w) same;
      row_is = map-set (λ row. row.items) rows v (with_items (get_or rows v r) words)
          ∙ ap (λ ws. slice_set (rows_of rows) v ws) (with_items_is (get_or rows v r) words len);
    }

pub rows_set : (rows : List (Vec ℕ Global)) (v i w : ℕ) (r : Vec ℕ Global) (before words : List ℕ) → v < length rows → before ≡ (get_or rows v r).items
    → words ≡ slice_set before i w
    → rows_of (slice_set rows v (with_items (get_or rows v r) words)) ≡ slice_set (rows_of rows) v (slice_set (get_or (rows_of rows) v []) i w)
rows_set rows v i w r before words h e f =
    let s = set_row rows v i w r before words h e f in
    s.row_is ∙ ap (λ ws. slice_set (rows_of rows) v ws) s.words_are

-- the rows keep their lengths
pub rows_set-lengths : (rows : List (Vec ℕ Global)) (v i w : ℕ) (r : Vec ℕ Global) (before words : List ℕ) → v < length rows
    → before ≡ (get_or rows v r).items → words ≡ slice_set before i w
    → map (length {A = ℕ}) (rows_of (slice_set rows v (with_items (get_or rows v r) words))) ≡ map (length {A = ℕ}) (rows_of rows)
rows_set-lengths rows v i w r before words h e f =
    let s = set_row rows v i w r before words h e f in
    ap (map (length {A = ℕ})) s.row_is ∙ map-set_same (length {A = ℕ}) (rows_of rows) v words [] s.length_kept

-- ---- rows that are copied onto rows of the same lengths

pub same_count : (to from : List (Vec ℕ Global)) → map (length {A = ℕ}) (rows_of to) ≡ map (length {A = ℕ}) (rows_of from) → length to ≡ length from
same_count to from e =
    sym (length-map to (λ row. row.items)) ∙ sym (length-map (rows_of to) (length {A = ℕ})) ∙ ap length e
    ∙ length-map (rows_of from) (length {A = ℕ}) ∙ length-map from (λ row. row.items)

-- a row has the length of the other
pub same_length : (to from : List (Vec ℕ Global)) (i : ℕ) (a b : Vec ℕ Global) → map (length {A = ℕ}) (rows_of to) ≡ map (length {A = ℕ}) (rows_of from)
    → i < length from
    → length (get_or to i a).items ≡ length (get_or from i b).items
same_length to from i a b e h =
    let ht : i < length to = omega (arith, same_count to from e) in
    let at : (rows : List (Vec ℕ Global)) (r : Vec ℕ Global) → i < length rows → get_or (map (length {A = ℕ}) (rows_of rows)) i 0
    ≡ length (get_or rows i r).items =
    λ rows r k. get_or-map (length {A = ℕ}) (rows_of rows) i [] 0 (omega (arith, length-map rows (λ row. row.items)))
    ∙ ap (length {A = ℕ}) (get_or-map (λ row. row.items) rows i r [] k) in
    sym (at to a ht) ∙ ap (λ ls. get_or ls i 0) e ∙ at from b h

-- ---- rows that follow others, where they are marked

-- the rows up to one are those of the others, and words that aren't marked are the same
pub record Followed (m : MarksValue) (to from : List (Vec ℕ Global)) (i : ℕ) : Type 0 where
  pub same_lengths : map (length {A = ℕ}) (rows_of to) ≡ map (length {A = ℕ}) (rows_of from)
  pub followed : take i (rows_of to) ≡ take i (rows_of from)
  pub covers : Covers m (rows_of to) (rows_of from)

-- one row more
pub followed_more : (m : MarksValue) (to from : List (Vec ℕ Global)) (i : ℕ) (a b : Vec ℕ Global) (words : List ℕ)
    → Followed m to from i → i < length from → b ≡ get_or from i b → words ≡ b.items
    → Followed m (slice_set to i (with_items (get_or to i a) words)) from (i + 1)
followed_more m to from i a b words f h is w =
    let e = f.same_lengths in
    let ht : i < length to = omega (arith, same_count to from e) in
    let hr : i < length (rows_of to) = omega (arith, length-map to (λ row. row.items)) in
    let hf : i < length (rows_of from) = omega (arith, length-map from (λ row. row.items)) in
    let row : words ≡ get_or (rows_of from) i [] = w ∙ ap (λ r. r.items) is ∙ sym (get_or-map (λ row. row.items) from i b [] h) in
    let old : length words ≡ length (get_or to i a).items = ap length (w ∙ ap (λ r. r.items) is) ∙ sym (same_length to from i a b e h) in
    let set : rows_of (slice_set to i (with_items (get_or to i a) words)) ≡ slice_set (rows_of to) i words =
    map-set (λ row. row.items) to i (with_items (get_or to i a) words) ∙ ap (λ ws. slice_set (rows_of to) i ws)
    (with_items_is (get_or to i a) words (old ∙ sym (get_or to i a).ok.0)) in
    let same : length words ≡ length (get_or (rows_of to) i []) = old ∙ ap length (sym (get_or-map (λ row. row.items) to i a [] ht)) in
    let put : slice_set (rows_of to) i (get_or (rows_of from) i []) ≡ rows_of (slice_set to i (with_items (get_or to i a) words)) =
    ap (λ ws. slice_set (rows_of to) i ws) (sym row) ∙ sym set in
    let P : List (List ℕ) → Type 0 = λ rows. Covers m rows (rows_of from) in
    record {
      same_lengths = ap (map (length {A = ℕ})) set ∙ map-set_same (length {A = ℕ}) (rows_of to) i words [] same ∙ e;
      followed = ap (take (i + 1)) set ∙ rw add-one (take-suc-set (rows_of to) i words hr ∙ ap (λ t. t ++ words ∷ []) f.followed
          ∙ ap (λ x. take i (rows_of from) ++ x ∷ []) row ∙ sym (take-suc (rows_of from) i [] hf));
      covers = subst P put (covers_put m (rows_of to) (rows_of from) i f.covers);
    }

pub followed_all : (to from : List (Vec ℕ Global)) (i : ℕ) → map (length {A = ℕ}) (rows_of to) ≡ map (length {A = ℕ}) (rows_of from)
    → take i (rows_of to) ≡ take i (rows_of from) → length from ≤ i
    → rows_of to ≡ rows_of from
followed_all to from i e c h =
    let t : length (rows_of to) ≤ i = omega (arith, length-map to (λ row. row.items), same_count to from e) in
    let f : length (rows_of from) ≤ i = omega (arith, length-map from (λ row. row.items)) in
    sym (take_all i (rows_of to) t) ∙ c ∙ take_all i (rows_of from) f

-- what isn't marked in a row that the code reached is the same
pub row_covered : (m : MarksValue) (to from : List (Vec ℕ Global)) (v : ℕ) (a b : Vec ℕ Global) → Followed m to from v → v < length from
    → b ≡ get_or from v b → (j : ℕ) → (IsMarked m v j → ⊥) → slice_index (get_or to v a).items j ≡ slice_index b.items j
row_covered m to from v a b f h is j not =
    let ht : v < length to = omega (arith, same_count to from f.same_lengths) in
    let at_to : get_or (rows_of to) v [] ≡ (get_or to v a).items = get_or-map (λ row. row.items) to v a [] ht in
    let at_from : get_or (rows_of from) v [] ≡ b.items = get_or-map (λ row. row.items) from v b [] h ∙ ap (λ r. r.items) (sym is) in
    ap (λ ws. slice_index ws j) (sym at_to) ∙ f.covers v j not ∙ ap (λ ws. slice_index ws j) at_from
