-- Marks on the words of rows.
use Rattle.std.proofs.Common.{◌≡◌, ◌<◌, ◌≤◌, ◌+◌, ◌*◌, ◌/◌, ◌%◌, ◌==◌, arith, ℕ, zero, suc, refl, sym, ◌∙◌, ap, subst, Bool, true, false, List, [], ◌∷◌}
use Rattle.std.proofs.Common.{length, map, take, drop, ◌++◌, length-set, get_or, slice_index, slice_index_or, slice_set, nat_lt}
use Rattle.std.proofs.lemmas.Bool.Decides.{nat_tests}
use Rattle.std.proofs.lemmas.List.{get_or-set_same, get_or-set_other, ext_get_or}
use Rattle.std.proofs.Math.Seq.{take-append_seam}
use Rattle.source_values.specs.Marks.{MarksValue, IsMarked, mark_of, word_in, Covers}

-- a mark that is set leaves the others as they are
set_keeps : (xs : List Bool) (i j : ℕ) → slice_index_or xs j false ≡ true → slice_index_or (slice_set xs i true) j false ≡ true
set_keeps [] i j e = e
set_keeps (x ∷ xs) zero zero e = refl
set_keeps (x ∷ xs) zero (suc j) e = e
set_keeps (x ∷ xs) (suc i) zero e = e
set_keeps (x ∷ xs) (suc i) (suc j) e = set_keeps xs i j e

-- the marks behind one that is set
pub record IsSet (s t : MarksValue) (v i : ℕ) : Type 0 where
  pub variables : t.variables ≡ slice_set s.variables (v % 256) true
  pub blocks : t.blocks ≡ slice_set s.blocks (mark_of v i) true

pub set_others : (s t : MarksValue) (v i u j : ℕ) → IsSet s t v i → IsMarked s u j → IsMarked t u j
set_others s t v i u j e h = record {
  variable = ap (λ xs. slice_index_or xs (u % 256) false) e.variables ∙ set_keeps s.variables (v % 256) (u % 256) h.variable;
  block = ap (λ xs. slice_index_or xs (mark_of u j) false) e.blocks ∙ set_keeps s.blocks (mark_of v i) (mark_of u j) h.block;
}

pub set_marks : (s t : MarksValue) (v i : ℕ) → length s.variables ≡ 256 → length s.blocks ≡ 1024 → IsSet s t v i → IsMarked t v i
set_marks s t v i variables blocks e = record {
  variable = ap (λ xs. slice_index_or xs (v % 256) false) e.variables ∙ get_or-set_same s.variables (v % 256) true false (omega arith);
  block = ap (λ xs. slice_index_or xs (mark_of v i) false) e.blocks ∙ get_or-set_same s.blocks (mark_of v i) true false (omega arith);
}

-- where no mark is set on a variable, or on a block
pub none_in_variable : (m : MarksValue) (v j : ℕ) → slice_index_or m.variables (v % 256) false ≡ false → IsMarked m v j → ⊥
none_in_variable m v j e h =
    let c : true ≡ false = sym h.variable ∙ e in
    cc

pub none_in_block : (m : MarksValue) (v i j : ℕ) → slice_index_or m.blocks (mark_of v i) false ≡ false → i ≤ j → j < (i / 64 + 1) * 64 → IsMarked m v j → ⊥
none_in_block m v i j e from to h =
    let same : j / 64 ≡ i / 64 = omega arith in
    let c : true ≡ false = sym h.block ∙ ap (λ k. slice_index_or m.blocks ((v % 256 * 4 + k) % 1024) false) same ∙ e in
    cc

-- none up to an index, and none from there on
pub none_further : (m : MarksValue) (v from i behind : ℕ) → ((j : ℕ) → from ≤ j → j < i → IsMarked m v j → ⊥)
    → ((j : ℕ) → i ≤ j → j < behind → IsMarked m v j → ⊥) → (j : ℕ) → from ≤ j → j < behind → IsMarked m v j → ⊥
none_further m v from i behind g h j low high = by_side (nat_lt j i) refl
  where
    by_side : (before : Bool) → nat_lt j i ≡ before → IsMarked m v j → ⊥
    by_side true e = g j low (grind (arith, nat_tests, e))
    by_side false e = h j (grind (arith, nat_tests, e)) high

-- ---- rows that are the same where they aren't marked

pub covers_same : (m : MarksValue) (a b : List (List ℕ)) → a ≡ b → Covers m a b
covers_same m a b e v i not = ap (λ rows. word_in rows v i) e

pub covers_back : (m : MarksValue) (a b : List (List ℕ)) → Covers m a b → Covers m b a
covers_back m a b h v i not = sym (h v i not)

-- a word that is set leaves the others
word_set : (rows : List (List ℕ)) (v i w u j : ℕ) → (u ≡ v → j ≡ i → ⊥)
    → word_in (slice_set rows v (slice_set (get_or rows v []) i w)) u j ≡ word_in rows u j
word_set [] v i w u j other = refl
word_set (row ∷ rows) zero i w zero j other = get_or-set_other row i j w 0 (λ e. other refl e)
word_set (row ∷ rows) zero i w (suc u) j other = refl
word_set (row ∷ rows) (suc v) i w zero j other = refl
word_set (row ∷ rows) (suc v) i w (suc u) j other = word_set rows v i w u j (λ e f. other (ap suc e) f)

-- the marks behind one on this word
pub record IsMarkedToo (m n : MarksValue) (v i : ℕ) : Type 0 where
  pub marked : IsMarked n v i
  pub others : (u j : ℕ) → IsMarked m u j → IsMarked n u j

covers_set : (m n : MarksValue) (base a b : List (List ℕ)) (v i w : ℕ) → b ≡ slice_set a v (slice_set (get_or a v []) i w)
    → IsMarkedToo m n v i → Covers m base a → Covers n base b
covers_set m n base a b v i w e mark h u j not =
    let P : ℕ → ℕ → Type 0 = λ x y. IsMarked n x y in
    let other : u ≡ v → j ≡ i → ⊥ = λ f g. not (subst (λ x. P x j) (sym f) (subst (P v) (sym g) mark.marked)) in
    h u j (λ is. not (mark.others u j is)) ∙ sym (word_set a v i w u j other) ∙ ap (λ rows. word_in rows u j) (sym e)

-- a row that becomes the other one's leaves the others
word_put : (a b : List (List ℕ)) (v u j : ℕ) → word_in a u j ≡ word_in b u j → word_in (slice_set a v (get_or b v [])) u j ≡ word_in b u j
word_put [] b v u j h = h
word_put (x ∷ a) [] zero zero j h = refl
word_put (x ∷ a) (y ∷ b) zero zero j h = refl
word_put (x ∷ a) [] zero (suc u) j h = h
word_put (x ∷ a) (y ∷ b) zero (suc u) j h = h
word_put (x ∷ a) [] (suc v) zero j h = h
word_put (x ∷ a) (y ∷ b) (suc v) zero j h = h
word_put (x ∷ a) [] (suc v) (suc u) j h = word_put a [] v u j h
word_put (x ∷ a) (y ∷ b) (suc v) (suc u) j h = word_put a b v u j h

pub covers_put : (m : MarksValue) (a b : List (List ℕ)) (v : ℕ) → Covers m a b → Covers m (slice_set a v (get_or b v [])) b
covers_put m a b v h u j not = word_put a b v u j (h u j not)

-- ---- the words of a row, one after another

-- the words up to an index are those of another row; of the others, those that aren't marked
pub record RowFollowed (m : MarksValue) (v : ℕ) (to from : List ℕ) (i : ℕ) : Type 0 where
  pub same_length : length to ≡ length from
  pub same : (j : ℕ) → (i ≤ j → IsMarked m v j → ⊥) → slice_index to j ≡ slice_index from j

pub row_first : (m : MarksValue) (v : ℕ) (to from : List ℕ) (i : ℕ) → length to ≡ length from
    → ((j : ℕ) → (IsMarked m v j → ⊥) → slice_index to j ≡ slice_index from j) → ((j : ℕ) → 0 ≤ j → j < i → IsMarked m v j → ⊥)
    → RowFollowed m v to from i
row_first m v to from i len h none = record {
  same_length = len;
  same = λ j not. h j (λ is. by_side j not is (nat_lt j i) refl);
}
  where
    by_side : (j : ℕ) → (i ≤ j → IsMarked m v j → ⊥) → IsMarked m v j → (before : Bool) → nat_lt j i ≡ before → ⊥
    by_side j not is true e = none j (omega arith) (grind (arith, nat_tests, e)) is
    by_side j not is false e = not (grind (arith, nat_tests, e)) is

pub row_more : (m : MarksValue) (v : ℕ) (to from : List ℕ) (i next w : ℕ) → RowFollowed m v to from i → i < length from → w ≡ slice_index from i
    → ((j : ℕ) → i + 1 ≤ j → j < next → IsMarked m v j → ⊥) → RowFollowed m v (slice_set to i w) from next
row_more m v to from i next w f inside is none = record {
  same_length = length-set to i w ∙ f.same_length;
  same = λ j not. by_place j not (j == i) refl;
}
  where
    len : length to ≡ length from
    len = f.same_length

    behind : (j : ℕ) → (next ≤ j → IsMarked m v j → ⊥) → (j == i) ≡ false → (before : Bool) → nat_lt j next ≡ before → i ≤ j → IsMarked m v j → ⊥
    behind j not o true e low = none j (grind (arith, nat_tests, o, low)) (grind (arith, nat_tests, e))
    behind j not o false e low = not (grind (arith, nat_tests, e))

    by_place : (j : ℕ) → (next ≤ j → IsMarked m v j → ⊥) → (at : Bool) → (j == i) ≡ at → slice_index (slice_set to i w) j ≡ slice_index from j
    by_place j not true e =
        let at : j ≡ i = grind (arith, nat_tests, e) in
        let P : ℕ → Type 0 = λ k. slice_index (slice_set to i w) k ≡ slice_index from k in
        subst P (sym at) (get_or-set_same to i w 0 (omega (arith, len)) ∙ is)
    by_place j not false e =
        get_or-set_other to i j w 0 (λ at. let c : (j == i) ≡ true = grind (arith, nat_tests, at) in let d : true ≡ false = sym c ∙ e in cc)
        ∙ f.same j (behind j not e (nat_lt j next) refl)

pub row_all : (m : MarksValue) (v : ℕ) (to from : List ℕ) (i : ℕ) → RowFollowed m v to from i → length from ≤ i → to ≡ from
row_all m v to from i f end =
    let len = f.same_length in
    ext_get_or 0 to from len (λ j inside. f.same j (λ low is. absurd (omega arith)))

-- ---- a word that is set in rows beside what they were

-- the rows behind a word that is set
pub record IsRowSet (a b : List (List ℕ)) (v i w : ℕ) : Type 0 where
  pub set : b ≡ slice_set a v (slice_set (get_or a v []) i w)
  pub same_lengths : map (length {A = ℕ}) b ≡ map (length {A = ℕ}) a

pub set_tracks : (m n : MarksValue) (base a b : List (List ℕ)) (v i w : ℕ) → map (length {A = ℕ}) a ≡ map (length {A = ℕ}) base
    → IsRowSet a b v i w → IsMarkedToo m n v i → Covers m base a → (map (length {A = ℕ}) b ≡ map (length {A = ℕ}) base) × Covers n base b
set_tracks m n base a b v i w lengths row mark h = (row.same_lengths ∙ lengths, covers_set m n base a b v i w row.set mark h)

-- what a slice of a whole vector leaves of it
pub written_whole : {A : Type 0} (n : ℕ) (new old : List A) → length new ≡ n → take n (new ++ drop (length new) old) ≡ new
written_whole n new old e = ap (λ k. take k (new ++ drop (length new) old)) (sym e) ∙ take-append_seam new (drop (length new) old)
