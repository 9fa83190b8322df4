-- Marks on the words of the FRAM.
use Rattle.std.proofs.Common.{◌≡◌, ◌<◌, ◌≤◌, ◌+◌, arith, ℕ, zero, suc, Option, Some, None, refl, sym, ◌∙◌, ap, subst, ⊎_elim, Bool, true, false}
use Rattle.std.proofs.Common.{List, [], ◌∷◌, length, length-set, drop, drop-cons, get_or, slice_index, slice_index_or, slice_set, nat_lt, Contains}
use Rattle.std.proofs.lemmas.Bool.{cases_eq, cases_lt}
use Rattle.std.proofs.lemmas.Bool.Decides.{nat_tests}
use Rattle.std.proofs.lemmas.List.{get_or-set_same, get_or-set_other, ext_get_or}
use Rattle.std.proofs.lemmas.List.Elements.{Contains-append_cases}
use Rattle.std.specs.Prelude.{unwrap_or}
use Rattle.image_text.specs.address_space.Limits.{fram_first, fram_words, place_of}
use Rattle.board_run.specs.Shadow.{ShadowValue, IsShadow, IsMarked, IsWritten, AreRest, Covers}

-- a mark that is cleared is gone, and none is new
unset : (xs : List Bool) (i : ℕ) → slice_index_or (slice_set xs i false) i false ≡ false
unset [] i = refl
unset (x ∷ xs) zero = refl
unset (x ∷ xs) (suc i) = unset xs i

unset_before : (xs : List Bool) (i j : ℕ) → slice_index_or (slice_set xs i false) j false ≡ true → slice_index_or xs j false ≡ true
unset_before [] i j e = e
unset_before (x ∷ xs) zero zero e = let c : true ≡ false = sym e in cc
unset_before (x ∷ xs) zero (suc j) e = e
unset_before (x ∷ xs) (suc i) zero e = e
unset_before (x ∷ xs) (suc i) (suc j) e = unset_before xs i j e

-- behind the last mark there is none
inside_marks : (xs : List Bool) (i : ℕ) → slice_index_or xs i false ≡ true → i < length xs
inside_marks [] i e = let c : true ≡ false = sym e in cc
inside_marks (x ∷ xs) zero e = omega arith
inside_marks (x ∷ xs) (suc i) e = let h = inside_marks xs i e in omega arith

-- none up to a place, and none from there on
pub none_further : (s : ShadowValue) (from place behind : ℕ) → ((i : ℕ) → from ≤ i → i < place → IsMarked s i → ⊥)
    → ((i : ℕ) → place ≤ i → i < behind → IsMarked s i → ⊥) → (i : ℕ) → from ≤ i → i < behind → IsMarked s i → ⊥
none_further s from place behind g h i low high = by_side (nat_lt i place) refl
  where
    by_side : (before : Bool) → nat_lt i place ≡ before → IsMarked s i → ⊥
    by_side true e = g i low (grind (arith, nat_tests, e))
    by_side false e = h i (grind (arith, nat_tests, e)) high

-- the words up to a place are those of a FRAM, without marks; of the others, those that aren't marked
pub record Followed (t : ShadowValue) (fram : List ℕ) (place : ℕ) : Type 0 where
  pub words : length t.words ≡ fram_words
  pub marks : length t.marks ≡ fram_words
  pub done : (i : ℕ) → i < fram_words → i < place → slice_index t.words i ≡ slice_index fram i
  pub none : (i : ℕ) → i < place → IsMarked t i → ⊥
  pub left : Covers t fram

pub followed_first : (s : ShadowValue) (fram : List ℕ) (place : ℕ) → IsShadow s → Covers s fram
    → ((i : ℕ) → 0 ≤ i → i < place → IsMarked s i → ⊥) → Followed s fram place
followed_first s fram place h covers none = record {
  words = h.lengths.words;
  marks = h.lengths.marks;
  done = λ i inside before. covers i inside (none i (omega arith) before);
  none = λ i before. none i (omega arith) before;
  left = covers;
}

-- a shadow behind a word that is put, without its mark
abbrev pub put_at : ShadowValue → ℕ → ℕ → ShadowValue
put_at t place word = record t { words = slice_set t.words place word; marks = slice_set t.marks place false }

put_marked : (t : ShadowValue) (place word i : ℕ) → IsMarked (put_at t place word) i → IsMarked t i
put_marked t place word i m = record { word = unset_before t.marks place i m.word; block = m.block; region = m.region }

put_unmarked : (t : ShadowValue) (place word : ℕ) → IsMarked (put_at t place word) place → ⊥
put_unmarked t place word m = let c : true ≡ false = sym m.word ∙ unset t.marks place in cc

put_kept : (t : ShadowValue) (place word i : ℕ) → (i ≡ place → ⊥) → IsMarked t i → IsMarked (put_at t place word) i
put_kept t place word i other m = record { word = get_or-set_other t.marks place i false false other ∙ m.word; block = m.block; region = m.region }

-- the word at a place becomes that of the FRAM
word_here : (ws fram : List ℕ) (place word i : ℕ) → place < length ws → word ≡ slice_index fram place → i ≡ place
    → slice_index (slice_set ws place word) i ≡ slice_index fram i
word_here ws fram place word i inside is at =
    let P : ℕ → Type 0 = λ k. slice_index (slice_set ws place word) k ≡ slice_index fram k in
    subst P (sym at) (get_or-set_same ws place word 0 inside ∙ is)

word_elsewhere : (ws : List ℕ) (place word i : ℕ) → (i ≡ place → ⊥) → slice_index (slice_set ws place word) i ≡ slice_index ws i
word_elsewhere ws place word i other = get_or-set_other ws place i word 0 other

followed_put : (t : ShadowValue) (fram : List ℕ) (place next word : ℕ) → Followed t fram place → place < fram_words
    → word ≡ slice_index fram place → ((i : ℕ) → place + 1 ≤ i → i < next → IsMarked (put_at t place word) i → ⊥)
    → Followed (put_at t place word) fram next
followed_put t fram place next word f inside is rest = record {
  words = length-set t.words place word ∙ f.words;
  marks = length-set t.marks place false ∙ f.marks;
  done = λ i small before. ⊎_elim (here i) (λ other. word_elsewhere t.words place word i other ∙ earlier i small before other) (cases_eq i place);
  none = λ i before m. ⊎_elim (λ at. put_unmarked t place word (subst P at m)) (λ other. unmarked i before other m) (cases_eq i place);
  left = λ i small not. ⊎_elim (here i)
      (λ other. word_elsewhere t.words place word i other ∙ f.left i small (λ m. not (put_kept t place word i other m))) (cases_eq i place);
}
  where
    P : ℕ → Type 0
    P k = IsMarked (put_at t place word) k

    here : (i : ℕ) → i ≡ place → slice_index (slice_set t.words place word) i ≡ slice_index fram i
    here i at = let len = f.words in word_here t.words fram place word i (omega arith) is at

    unmarked : (i : ℕ) → i < next → (i ≡ place → ⊥) → IsMarked (put_at t place word) i → ⊥
    unmarked i before other m = ⊎_elim (λ early. f.none i early (put_marked t place word i m))
        (λ low. ⊎_elim (λ late. rest i (omega arith) before m) (λ high. other (omega arith)) (cases_lt place i)) (cases_lt i place)

    earlier : (i : ℕ) → i < fram_words → i < next → (i ≡ place → ⊥) → slice_index t.words i ≡ slice_index fram i
    earlier i small before other = f.left i small (λ m. unmarked i before other (put_kept t place word i other m))

pub followed_next : (t u : ShadowValue) (fram : List ℕ) (place next word : ℕ) → Followed t fram place → place < fram_words
    → word ≡ slice_index fram place → u ≡ put_at t place word → ((i : ℕ) → place + 1 ≤ i → i < next → IsMarked u i → ⊥)
    → Followed u fram next
followed_next t u fram place next word f inside is e none =
    let P : ShadowValue → Type 0 = λ x. Followed x fram next in
    let Q : ℕ → ShadowValue → Type 0 = λ i x. IsMarked x i in
    subst P (sym e) (followed_put t fram place next word f inside is (λ i low high m. none i low high (subst (Q i) (sym e) m)))

-- at the end all words are the FRAM's, and none is marked
pub followed_all : (t : ShadowValue) (fram : List ℕ) (place : ℕ) → Followed t fram place → fram_words ≤ place → length fram ≡ fram_words → t.words ≡ fram
followed_all t fram place f end len =
    let l = f.words in
    ext_get_or 0 t.words fram (l ∙ sym len) (λ i inside. f.done i (omega arith) (omega arith))

pub followed_none : (t : ShadowValue) (fram : List ℕ) (place i : ℕ) → Followed t fram place → fram_words ≤ place → IsMarked t i → ⊥
followed_none t fram place i f end m =
    let l = f.marks in
    let inside = inside_marks t.marks i m.word in
    f.none i (omega arith) m

one_alone : (x i : ℕ) → Contains (x ∷ []) i → x ≡ i
one_alone x i h =
    let inside = h.1 in
    let at : h.0 ≡ 0 = omega arith in
    ap (λ k. get_or (x ∷ []) k i) (sym at) ∙ h.2

-- what is behind the first
other_place : (x i : ℕ) (xs : List ℕ) → (i ≡ x → ⊥) → Contains (x ∷ xs) i → Contains xs i
other_place x i xs differ h = ⊎_elim (λ one. absurd (differ (sym (one_alone x i one)))) (λ other. other) (Contains-append_cases (x ∷ []) xs i h)

-- the first of them becomes the FRAM's word, without its mark
rest_put : (ws : List ℕ) (ms : List Bool) (fram places : List ℕ) (place word : ℕ) → length ws ≡ fram_words → place < fram_words
    → word ≡ slice_index fram place → AreRest ws ms fram (place ∷ places)
    → AreRest (slice_set ws place word) (slice_set ms place false) fram places
rest_put ws ms fram places place word len inside is r = record {
  same = λ i small not. ⊎_elim (λ at. word_here ws fram place word i (omega arith) is at)
      (λ other. word_elsewhere ws place word i other ∙ r.same i small (λ c. not (other_place place i places other c)))
      (cases_eq i place);
  marked = λ i m. ⊎_elim (λ at. absurd (gone i at m))
      (λ other. other_place place i places other (r.marked i (unset_before ms place i m)))
      (cases_eq i place);
}
  where
    gone : (i : ℕ) → i ≡ place → slice_index_or (slice_set ms place false) i false ≡ true → ⊥
    gone i at m =
        let P : ℕ → Type 0 = λ k. slice_index_or (slice_set ms place false) k false ≡ true in
        let c : true ≡ false = sym (subst P at m) ∙ unset ms place in
        cc

pub cut_place : (places : List ℕ) (k place : ℕ) → k < length places → place ≡ get_or places k 0 → drop k places ≡ place ∷ drop (k + 1) places
cut_place places k place more at =
    let e : suc k ≡ k + 1 = omega arith in
    drop-cons places k 0 more ∙ ap (λ p. p ∷ drop (suc k) places) (sym at) ∙ ap (λ j. place ∷ drop j places) e

pub rest_next : (ws : List ℕ) (ms : List Bool) (fram places : List ℕ) (k place word : ℕ) → length ws ≡ fram_words → place < fram_words
    → word ≡ slice_index fram place → drop k places ≡ place ∷ drop (k + 1) places → AreRest ws ms fram (drop k places)
    → AreRest (slice_set ws place word) (slice_set ms place false) fram (drop (k + 1) places)
rest_next ws ms fram places k place word len inside is cut r =
    let P : List ℕ → Type 0 = λ xs. AreRest ws ms fram xs in
    rest_put ws ms fram (drop (k + 1) places) place word len inside is (subst P cut r)

-- an instruction wrote a word of the FRAM, by the address that it wrote, or 0
pub writes_there : (wrote : Option ℕ) → fram_first ≤ unwrap_or wrote 0 → (i : ℕ) × IsWritten wrote i
writes_there None high = absurd (omega (arith, high))
writes_there (Some a) high = (place_of a, (high, refl))
