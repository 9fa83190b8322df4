-- A piece cut at its first mark.
use Rattle.std.proofs.Common.{◌≡◌, ◌≤◌, ◌<◌, ℕ, suc, zero, ◌+◌, ◌==◌, List, [], ◌∷◌, length, take, drop, arith, refl, ap, sym, ◌∙◌, if◌then◌else◌, nat_lt}
use Rattle.std.proofs.Common.{◌&&◌, Bool, true, false, Option, Some, None, length-drop, add-one}
use Rattle.std.proofs.lemmas.Bool.Decides.{nat_tests}
use Rattle.std.specs.Prelude.{is_some}
use Rattle.asm_line.specs.Pieces.{Located, mark_at, split, onto_first, place_all, parts, rest_parts, before_mark, behind_mark, left_len}
use Rattle.asm_line.specs.Values.{ValueMeaning}
use Rattle.asm_line.specs.Lines.{word_value, values_of, with_value, are_values}

cut_by : (t : Bool) (mark b : ℕ) (bs : List ℕ)
    → (mark_at mark bs < length bs → split mark bs ≡ take (mark_at mark bs) bs ∷ split mark (drop (suc (mark_at mark bs)) bs))
    → (if t then 0 else suc (mark_at mark bs)) < suc (length bs)
    → (if t then [] ∷ split mark bs else onto_first b (split mark bs))
    ≡ take (if t then 0 else suc (mark_at mark bs)) (b ∷ bs) ∷ split mark (drop (if t then 0 else suc (mark_at mark bs)) bs)
cut_by true mark b bs ih h = refl
cut_by false mark b bs ih h = ap (onto_first b) (ih (omega arith))

-- up to the first mark
split_cut : (mark : ℕ) (text : List ℕ) → mark_at mark text < length text
    → split mark text ≡ take (mark_at mark text) text ∷ split mark (drop (suc (mark_at mark text)) text)
unfolding split
split_cut mark [] h = absurd (omega arith)
split_cut mark (b ∷ bs) h = cut_by (b == mark) mark b bs (split_cut mark bs) h

last_by : (t : Bool) (mark b : ℕ) (bs : List ℕ) → (length bs ≤ mark_at mark bs → split mark bs ≡ take (mark_at mark bs) bs ∷ [])
    → suc (length bs) ≤ (if t then 0 else suc (mark_at mark bs))
    → (if t then [] ∷ split mark bs else onto_first b (split mark bs)) ≡ take (if t then 0 else suc (mark_at mark bs)) (b ∷ bs) ∷ []
last_by true mark b bs ih h = absurd (omega arith)
last_by false mark b bs ih h = ap (onto_first b) (ih (omega arith))

-- with no mark
split_last : (mark : ℕ) (text : List ℕ) → length text ≤ mark_at mark text → split mark text ≡ take (mark_at mark text) text ∷ []
unfolding split
split_last mark [] h = refl
split_last mark (b ∷ bs) h = last_by (b == mark) mark b bs (split_last mark bs) h

take_length : (n : ℕ) (xs : List ℕ) → n ≤ length xs → length (take n xs) ≡ n
take_length zero xs h = refl
take_length (suc n) [] h = absurd (omega arith)
take_length (suc n) (x ∷ xs) h = ap suc (take_length n xs (omega arith))

parts_by : (t : Bool) (mark : ℕ) (p : Located) → nat_lt (mark_at mark p.text) (length p.text) ≡ t
    → parts mark p ≡ record { at = p.at; text = take (mark_at mark p.text) p.text }
    ∷ rest_parts mark (if t then Some (record { at = p.at + (mark_at mark p.text + 1); text = drop (mark_at mark p.text + 1) p.text }) else None)
parts_by true mark p e =
    let n = mark_at mark p.text in
    let short : n < length p.text = grind (arith, nat_tests, e) in
    ap (place_all p.at) (split_cut mark p.text short)
    ∙ ap (λ k. record { at = p.at; text = take n p.text } ∷ place_all (p.at + k + 1) (split mark (drop (suc n) p.text))) (take_length n p.text (omega arith))
    ∙ ap (λ k. record { at = p.at; text = take n p.text } ∷ place_all k (split mark (drop (suc n) p.text)))
    (let z : p.at + n + 1 ≡ p.at + (n + 1) = omega arith in z)
    ∙ ap (λ k. record { at = p.at; text = take n p.text } ∷ place_all (p.at + (n + 1)) (split mark (drop k p.text))) (sym (add-one n))
parts_by false mark p e =
    let long : length p.text ≤ mark_at mark p.text = grind (arith, nat_tests, e) in
    ap (place_all p.at) (split_last mark p.text long)

-- the parts of a piece are what stands before its first mark, and those behind it
pub parts_cut : (mark : ℕ) (p : Located) → parts mark p ≡ before_mark mark p ∷ rest_parts mark (behind_mark mark p)
unfolding before_mark behind_mark
parts_cut mark p = parts_by (nat_lt (mark_at mark p.text) (length p.text)) mark p refl

left_by : (t : Bool) (n : ℕ) (p : Located) → nat_lt n (length p.text) ≡ t
    → left_len (if t then Some (record { at = p.at + (n + 1); text = drop (n + 1) p.text }) else None) + 1 ≤ length p.text + 1
left_by true n p e = let short : n < length p.text = grind (arith, nat_tests, e) in omega (arith, length-drop (n + 1) p.text)
left_by false n p e = omega arith

pub left_shorter : (mark : ℕ) (p : Located) → left_len (behind_mark mark p) + 1 ≤ length p.text + 1
unfolding behind_mark
left_shorter mark p = left_by (nat_lt (mark_at mark p.text) (length p.text)) (mark_at mark p.text) p refl

-- a part that is a value
values_by : (v : ValueMeaning) (o : Option ValueMeaning) (vs : List ValueMeaning) → Some v ≡ o → length (with_value o vs) ≡ length vs + 1
values_by v o vs e = ap (λ o. length (with_value o vs)) (sym e) ∙ add_one (length vs)
  where
    add_one : (n : ℕ) → suc n ≡ n + 1
    add_one n = omega arith

all_by : (v : ValueMeaning) (o : Option ValueMeaning) (u : Bool) → Some v ≡ o → u ≡ (is_some o && u)
all_by v o u e = ap (λ o. is_some o && u) e

none_by : (o : Option ValueMeaning) (u : Bool) → None ≡ o → (is_some o && u) ≡ false
none_by o u e = ap (λ o. is_some o && u) (sym e)

-- what is left of a list of values
pub record ListLeft (count : ℕ) (left : Option Located) (list : Located) : Type 0 where
  pub all : are_values (rest_parts 44 left) ≡ are_values (parts 44 list)
  pub counted : count + length (values_of (rest_parts 44 left)) ≡ length (values_of (parts 44 list))
  pub short : count + left_len left ≤ length list.text + 1

pub list_next : (count : ℕ) (p q list : Located) (behind : Option Located) (v : ValueMeaning) → ListLeft count (Some p) list → q ≡ before_mark 44 p
    → behind ≡ behind_mark 44 p
    → Some v ≡ word_value q → ListLeft (count + 1) behind list
list_next count p q list behind v l first rest e =
    let cut : parts 44 p ≡ q ∷ rest_parts 44 behind = parts_cut 44 p ∙ ap (λ q. q ∷ rest_parts 44 (behind_mark 44 p)) (sym first)
    ∙ ap (λ r. q ∷ rest_parts 44 r) (sym rest) in
    let len : length (values_of (parts 44 p)) ≡ length (values_of (rest_parts 44 behind)) + 1 =
    ap (λ ps. length (values_of ps)) cut ∙ values_by v (word_value q) (values_of (rest_parts 44 behind)) e in
    let shorter : left_len behind + 1 ≤ length p.text + 1 = rw rest (left_shorter 44 p) in
    record {
      all = all_by v (word_value q) (are_values (rest_parts 44 behind)) e ∙ sym (ap are_values cut) ∙ l.all;
      counted = omega (arith, len, l.counted);
      short = omega (arith, shorter, l.short);
    }

pub list_stops : (count : ℕ) (p q list : Located) → ListLeft count (Some p) list → q ≡ before_mark 44 p → None ≡ word_value q
    → None ≡ (if are_values (parts 44 list) then Some list else None)
list_stops count p q list l first e =
    ap (λ t. if t then Some list else None) (sym (sym l.all ∙ ap are_values (parts_cut 44 p)
    ∙ ap (λ q. is_some (word_value q) && are_values (rest_parts 44 (behind_mark 44 p))) (sym first)
    ∙ none_by (word_value q) (are_values (rest_parts 44 (behind_mark 44 p))) e))

pub list_shorter : (p : Located) (behind : Option Located) → behind ≡ behind_mark 44 p → left_len behind < left_len (Some p)
list_shorter p behind e = let shorter : left_len behind + 1 ≤ length p.text + 1 = rw e (left_shorter 44 p) in omega arith

-- what a call cut
pub cut_parts : (mark : ℕ) (p first : Located) (rest : Option Located) → first ≡ before_mark mark p → rest ≡ behind_mark mark p
    → parts mark p ≡ first ∷ rest_parts mark rest
cut_parts mark p first rest e f = parts_cut mark p ∙ ap (λ q. q ∷ rest_parts mark (behind_mark mark p)) (sym e) ∙ ap (λ r. first ∷ rest_parts mark r) (sym f)

pub cut_shorter : (mark : ℕ) (p : Located) (rest : Option Located) → rest ≡ behind_mark mark p → left_len rest < left_len (Some p)
cut_shorter mark p rest e = let shorter : left_len rest + 1 ≤ length p.text + 1 = rw e (left_shorter mark p) in omega arith
