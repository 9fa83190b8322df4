-- The first field of a line, and how a line is made of its fields.
use Rattle.std.proofs.Common.{◌≡◌, ◌≢◌, ◌≤◌, ◌<◌, ℕ, suc, not, List, [], ◌∷◌, ◌++◌, length, drop, take, arith, refl, ap, sym, ◌∙◌, if◌then◌else◌, Bool, true}
use Rattle.std.proofs.Common.{false, length-drop, append_assoc, true≢false}
use Rattle.std.specs.List.{list_all}
use Rattle.std.proofs.lemmas.Bool.{and_parts, not-true}
use Rattle.text_parts.specs.Lengths.{len_before, before}
use Rattle.text_parts.specs.Lines.{onto_first}
use Rattle.text_parts.specs.Fields.{fields, is_blank, begins_blank, BeginsWithField, IsMadeOfFields}
use Rattle.text_parts.proofs.Pieces.{behind, behind_is}

abbrev blank_len : List ℕ → ℕ
blank_len line = len_before (λ b. not (is_blank b)) line

abbrev word_len : List ℕ → ℕ
word_len line = len_before is_blank line

none_by : (t u : Bool) (n m : ℕ) (b : ℕ) (bs : List ℕ) (fs : List (List ℕ)) → (if not t then 0 else suc n) ≡ suc m → (n ≡ m → fs ≡ [])
    → (if t then fs else (if u then (b ∷ []) ∷ fs else onto_first b fs)) ≡ []
none_by true u n m b bs fs k ih = ih (omega arith)
none_by false u n m b bs fs k ih = absurd (omega arith)

fields_none : (line : List ℕ) → blank_len line ≡ length line → fields line ≡ []
unfolding fields
fields_none [] e = refl
fields_none (b ∷ bs) e = none_by (is_blank b) (begins_blank bs) (blank_len bs) (length bs) b bs (fields bs) e (fields_none bs)

skip_by : (t : Bool) (b : ℕ) (bs : List ℕ) → is_blank b ≡ t → fields bs ≡ fields (drop (blank_len bs) bs)
    → fields (b ∷ bs) ≡ fields (drop (if not t then 0 else suc (blank_len bs)) (b ∷ bs))
unfolding fields
skip_by true b bs k ih = ap (λ u. if u then fields bs else (if begins_blank bs then (b ∷ []) ∷ fields bs else onto_first b (fields bs))) k ∙ ih
skip_by false b bs k ih = refl

fields_skip : (line : List ℕ) → fields line ≡ fields (drop (blank_len line) line)
unfolding fields
fields_skip [] = refl
fields_skip (b ∷ bs) = skip_by (is_blank b) b bs refl (fields_skip bs)

word_by : (s : Bool) (b c : ℕ) (cs : List ℕ) (n : ℕ) → is_blank c ≡ s
    → (is_blank c ≡ false → fields (c ∷ cs) ≡ (c ∷ take n cs) ∷ fields (drop n cs))
    → (if s then (b ∷ []) ∷ fields (c ∷ cs) else onto_first b (fields (c ∷ cs)))
    ≡ (b ∷ take (if s then 0 else suc n) (c ∷ cs)) ∷ fields (drop (if s then 0 else suc n) (c ∷ cs))
word_by true b c cs n k ih = refl
word_by false b c cs n k ih = ap (onto_first b) (ih k)

-- a word at the front is the first field
fields_word : (b : ℕ) (bs : List ℕ) → is_blank b ≡ false
    → fields (b ∷ bs) ≡ (b ∷ take (word_len bs) bs) ∷ fields (drop (word_len bs) bs)
unfolding fields
fields_word b [] e = rw e refl
fields_word b (c ∷ cs) e = rw e (word_by (is_blank c) b c cs (word_len cs) refl (fields_word c cs))

pub no_field : (line : List ℕ) (n : ℕ) → n ≡ blank_len line → n ≤ length line → length (behind n line) ≡ 0 → fields line ≡ []
no_field line n e h k = fields_none line (let l : length (drop n line) ≡ 0 = rw (behind_is n line) at k in omega (arith, length-drop n line))

stop_by : (t : Bool) (c : ℕ) (cs : List ℕ) (b : ℕ) (bs : List ℕ) → is_blank c ≡ t → (drop (blank_len cs) cs ≡ b ∷ bs → is_blank b ≡ false)
    → drop (if not t then 0 else suc (blank_len cs)) (c ∷ cs) ≡ b ∷ bs → is_blank b ≡ false
stop_by true c cs b bs k ih e = ih e
stop_by false c cs b bs k ih e = let same : c ≡ b = cc in rw (← same) k

blank_stop : (line : List ℕ) (b : ℕ) (bs : List ℕ) → drop (blank_len line) line ≡ b ∷ bs → is_blank b ≡ false
blank_stop [] b bs e = cc
blank_stop (c ∷ cs) b bs e = stop_by (is_blank c) c cs b bs refl (blank_stop cs b bs) e

word_at : (rest : List ℕ) (m : ℕ) → m ≡ word_len rest → 0 < length rest → ((b : ℕ) (bs : List ℕ) → rest ≡ b ∷ bs → is_blank b ≡ false)
    → (fields rest ≡ take m rest ∷ fields (drop m rest)) × (0 < m)
word_at [] m e h k = absurd (omega arith)
word_at (b ∷ bs) m e h k =
    let word : is_blank b ≡ false = k b bs refl in
    let len : m ≡ suc (word_len bs) = rw word at e in
    (rw len (fields_word b bs word), omega arith)

pub field_cut : (line : List ℕ) (n m : ℕ) → n ≡ blank_len line → n ≤ length line → m ≡ word_len (behind n line) → m ≤ length (behind n line)
    → length (behind n line) ≢ 0
    → (fields line ≡ take m (behind n line) ∷ fields (behind m (behind n line))) × (length (behind m (behind n line)) < length line)
field_cut line n m e h f g k =
    let rest : List ℕ = drop n line in
    let is : behind n line ≡ rest = behind_is n line in
    let some : 0 < length rest = (let ne : length rest ≢ 0 = rw is at k in omega arith) in
    let word = word_at rest m (f ∙ ap word_len is) some (λ b bs s. blank_stop line b bs (ap (λ j. drop j line) (sym e) ∙ s)) in
    let skip : fields line ≡ fields rest = fields_skip line ∙ ap (λ j. fields (drop j line)) (sym e) in
    rw (is, behind_is m rest) (skip ∙ word.0, omega (arith, length-drop m rest, length-drop n line, word.1))

-- a blank more before the first field
blank_more : (b : ℕ) (bs : List ℕ) (fs : List (List ℕ)) → is_blank b ≡ true → IsMadeOfFields fs bs → IsMadeOfFields fs (b ∷ bs)
blank_more b bs [] e h = rw e h
blank_more b bs (f ∷ fs) e (rest, first, h) = (
  rest,
  record {
    blanks = b ∷ first.blanks;
    are_blank = rw e first.are_blank;
    some = first.some;
    none_blank = first.none_blank;
    apart = first.apart;
    made = ap (λ r. b ∷ r) first.made;
  },
  h,
)

-- no blank comes before a word
no_blanks : (blanks rest bs : List ℕ) → list_all is_blank blanks ≡ true → bs ≡ blanks ++ rest → begins_blank bs ≡ false → blanks ≡ []
no_blanks [] rest bs h e k = refl
no_blanks (c ∷ cs) rest bs h e k = absurd (true≢false (sym (and_parts (is_blank c) (list_all is_blank cs) h).0 ∙ sym (ap begins_blank e) ∙ k))

byte_more : (b : ℕ) (bs : List ℕ) (fs : List (List ℕ)) → is_blank b ≡ false → begins_blank bs ≡ false → IsMadeOfFields fs bs
    → IsMadeOfFields (onto_first b fs) (b ∷ bs)
byte_more b [] [] e k h = absurd (true≢false k)
byte_more b (c ∷ cs) [] e k h = absurd (true≢false (sym (and_parts (is_blank c) (list_all is_blank cs) h).0 ∙ k))
byte_more b bs (f ∷ fs) e k (rest, first, h) =
    let made : bs ≡ first.blanks ++ (f ++ rest) = first.made ∙ append_assoc first.blanks f rest in
    let none : first.blanks ≡ [] = no_blanks first.blanks (f ++ rest) bs first.are_blank made k in (
      rest,
      record {
        blanks = [];
        are_blank = refl;
        some = omega arith;
        none_blank = rw e first.none_blank;
        apart = first.apart;
        made = ap (λ r. b ∷ r) (made ∙ ap (λ x. x ++ (f ++ rest)) none);
      },
      h,
    )

more_made : (t u : Bool) (b : ℕ) (bs : List ℕ) (fs : List (List ℕ)) → is_blank b ≡ t → begins_blank bs ≡ u → IsMadeOfFields fs bs
    → IsMadeOfFields (if t then fs else (if u then (b ∷ []) ∷ fs else onto_first b fs)) (b ∷ bs)
more_made true u b bs fs e k h = blank_more b bs fs e h
more_made false true b bs fs e k h = (bs, record { blanks = []; are_blank = refl; some = omega arith; none_blank = rw e refl; apart = k; made = refl }, h)
more_made false false b bs fs e k h = byte_more b bs fs e k h

-- a line is made of its fields
pub fields_made : (line : List ℕ) → IsMadeOfFields (fields line) line
unfolding fields
fields_made [] = refl
fields_made (b ∷ bs) = more_made (is_blank b) (begins_blank bs) b bs (fields bs) refl refl (fields_made bs)

all_blank : (line : List ℕ) → list_all is_blank line ≡ true → fields line ≡ []
unfolding fields
all_blank [] h = refl
all_blank (b ∷ bs) h = let t = and_parts (is_blank b) (list_all is_blank bs) h in rw t.0 (all_blank bs t.1)

skip_blanks : (blanks rest : List ℕ) → list_all is_blank blanks ≡ true → fields (blanks ++ rest) ≡ fields rest
unfolding fields
skip_blanks [] rest h = refl
skip_blanks (b ∷ bs) rest h = let t = and_parts (is_blank b) (list_all is_blank bs) h in rw t.0 (skip_blanks bs rest t.1)

pick : (s : Bool) (x y : List (List ℕ)) → s ≡ false → (if s then x else y) ≡ y
pick s x y e = rw e refl

-- a word and what begins with a blank, or nothing
pub fields_front : (b : ℕ) (bs rest : List ℕ) → list_all (λ b. not (is_blank b)) (b ∷ bs) ≡ true → begins_blank rest ≡ true
    → fields (b ∷ (bs ++ rest)) ≡ (b ∷ bs) ∷ fields rest
unfolding fields
fields_front b [] rest h e =
    let t = and_parts (not (is_blank b)) true h in
    rw (not-true (is_blank b) t.0, e) refl
fields_front b (c ∷ cs) rest h e =
    let t = and_parts (not (is_blank b)) (list_all (λ b. not (is_blank b)) (c ∷ cs)) h in
    let u = and_parts (not (is_blank c)) (list_all (λ b. not (is_blank b)) cs) t.1 in
    rw (not-true (is_blank b) t.0)
    (pick (is_blank c) ((b ∷ []) ∷ fields (c ∷ (cs ++ rest))) (onto_first b (fields (c ∷ (cs ++ rest)))) (not-true (is_blank c) u.0)
    ∙ ap (onto_first b) (fields_front c cs rest t.1 e))

first_field : (line f rest : List ℕ) → BeginsWithField line f rest → fields line ≡ f ∷ fields rest
first_field line [] rest first = absurd (let s = first.some in omega arith)
first_field line (b ∷ bs) rest first = ap fields (first.made ∙ append_assoc first.blanks (b ∷ bs) rest)
    ∙ skip_blanks first.blanks (b ∷ (bs ++ rest)) first.are_blank
    ∙ fields_front b bs rest first.none_blank first.apart

-- what a line is made of are its fields
pub fields_only : (fs : List (List ℕ)) (line : List ℕ) → IsMadeOfFields fs line → fs ≡ fields line
fields_only [] line h = sym (all_blank line h)
fields_only (f ∷ fs) line (rest, first, h) = ap (λ gs. f ∷ gs) (fields_only fs rest h) ∙ sym (first_field line f rest first)

before_by : (t : Bool) (n b : ℕ) (bs rest : List ℕ) → take n bs ≡ rest → take (if t then 0 else suc n) (b ∷ bs) ≡ (if t then [] else b ∷ rest)
before_by true n b bs rest ih = refl
before_by false n b bs rest ih = ap (λ r. b ∷ r) ih

pub before_is : (ends : ℕ → Bool) (line : List ℕ) → take (len_before ends line) line ≡ before ends line
before_is ends [] = refl
before_is ends (b ∷ bs) = before_by (ends b) (len_before ends bs) b bs (before ends bs) (before_is ends bs)
