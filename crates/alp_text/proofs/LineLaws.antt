-- Lines lose nothing of their text.
use Rattle.std.proofs.Common.{◌≡◌, ◌≤◌, ◌<◌, ◌==◌, ℕ, ◌+◌, ◌-◌, List, [], ◌∷◌, ◌++◌, length, length-drop, take, drop, arith, refl, ◌⊎◌, Bool, true, false}
use Rattle.std.proofs.Common.{if◌then◌else◌, ap, ◌∙◌}
use Rattle.std.proofs.lemmas.Bool.Decides.{nat_tests}
use Rattle.std.proofs.lemmas.List.{take_rest, drop-drop}
use mathlib.Core.Logic.{inl, inr}
use Rattle.alp_text.specs.Lines.{line_len, lines_of, with_line_feeds, LinesMakeUp, IsFirstLine}
use Rattle.alp_text.specs.Pieces.{onto_first}

take_front : (n b : ℕ) (bs : List ℕ) → take (n + 1) (b ∷ bs) ≡ b ∷ take n bs
take_front n b bs = grind arith

drop_front : (n b : ℕ) (bs : List ℕ) → drop (n + 1) (b ∷ bs) ≡ drop n bs
drop_front n b bs = grind arith

onto_line : (t : Bool) (b : ℕ) (bs : List ℕ) (n : ℕ) (rest : List (List ℕ)) → lines_of bs ≡ take n bs ∷ rest
    → (if t then [] ∷ lines_of bs else onto_first b (lines_of bs)) ≡ take (if t then 0 else n + 1) (b ∷ bs) ∷ (if t then lines_of bs else rest)
onto_line true b bs n rest e = refl
onto_line false b bs n rest e = rw (e, take_front n b bs) refl

rest_of : (t : Bool) (b : ℕ) (bs : List ℕ) (n : ℕ) → (if t then lines_of bs else lines_of (drop (n + 1) bs))
    ≡ lines_of (drop ((if t then 0 else n + 1) + 1) (b ∷ bs))
rest_of true b bs n = refl
rest_of false b bs n = rw (drop_front (n + 1) b bs) refl

one_line : (t : Bool) (b : ℕ) → (if t then [] ∷ [] else (b ∷ []) ∷ []) ≡ take (if t then 0 else 1) (b ∷ []) ∷ lines_of
    (drop ((if t then 0 else 1) + 1) (b ∷ []))
one_line true b = refl
one_line false b = refl

-- the first line of a text, and the lines behind its line feed
pub first_line : (text : List ℕ) → 0 < length text → lines_of text ≡ take (line_len text) text ∷ lines_of (drop (line_len text + 1) text)
first_line [] h = absurd (omega arith)
first_line (b ∷ []) h = one_line (b == 10) b
first_line (b ∷ c ∷ bs) h =
    let tail : List ℕ = c ∷ bs in
    let e : lines_of tail ≡ take (line_len tail) tail ∷ lines_of (drop (line_len tail + 1) tail) = first_line (c ∷ bs) (omega arith) in
    onto_line (b == 10) b tail (line_len tail) _ e ∙ ap (λ rest. take (if b == 10 then 0 else line_len tail + 1) (b ∷ tail) ∷ rest)
    (rest_of (b == 10) b tail (line_len tail))

-- one byte in front of lines that make up a text
joins_byte : (b : ℕ) (bs : List ℕ) (lines : List (List ℕ)) → (with_line_feeds lines ≡ bs) ⊎ (with_line_feeds lines ≡ bs ++ 10 ∷ [])
    → (with_line_feeds (onto_first b lines) ≡ b ∷ bs) ⊎ (with_line_feeds (onto_first b lines) ≡ (b ∷ bs) ++ 10 ∷ [])
joins_byte b bs (line ∷ lines) (inl p) = inl (ap (λ t. b ∷ t) p)
joins_byte b bs (line ∷ lines) (inr p) = inr (ap (λ t. b ∷ t) p)
joins_byte b [] [] (inl p) = inr refl
joins_byte b (c ∷ bs) [] (inl p) = absurd (cc)
joins_byte b [] [] (inr p) = absurd (cc)
joins_byte b (c ∷ bs) [] (inr p) = absurd (cc)

-- the same by whether the byte is a line feed
joins_more : (t : Bool) (b : ℕ) (bs : List ℕ) → (b ≡ 10) ⊎ (t ≡ false) → LinesMakeUp bs
    → (with_line_feeds (if t then [] ∷ lines_of bs else onto_first b (lines_of bs)) ≡ b ∷ bs)
    ⊎ (with_line_feeds (if t then [] ∷ lines_of bs else onto_first b (lines_of bs)) ≡ (b ∷ bs) ++ 10 ∷ [])
joins_more true b bs (inl e) (inl p) = inl (rw e (ap (λ t. 10 ∷ t) p))
joins_more true b bs (inl e) (inr p) = inr (rw e (ap (λ t. 10 ∷ t) p))
joins_more true b bs (inr e) p = absurd (cc)
joins_more false b bs e p = joins_byte b bs (lines_of bs) p

feed_or_not : (b : ℕ) → (b ≡ 10) ⊎ ((b == 10) ≡ false)
feed_or_not b = by_test (b == 10) refl where
  by_test : (t : Bool) → (b == 10) ≡ t → (b ≡ 10) ⊎ ((b == 10) ≡ false)
  by_test true e = inl (grind (arith, nat_tests))
  by_test false e = inr e

-- the lines of each text make it up
pub lines_make_up : (text : List ℕ) → LinesMakeUp text
lines_make_up [] = inl refl
lines_make_up (b ∷ bs) = joins_more (b == 10) b bs (feed_or_not b) (lines_make_up bs)

-- the same at a place of a text, whose length the code counts in what stands from there to the end
pub first_line_at : (text : List ℕ) (at len : ℕ) → at < length text
    → len ≡ line_len (take (length text - at) (drop at text)) → len ≤ length (take (length text - at) (drop at text))
    → IsFirstLine text at (record { from = at; to = at + len })
first_line_at text at len h e within =
    let whole : take (length text - at) (drop at text) ≡ drop at text = take_rest text at in
    let is : len ≡ line_len (drop at text) = rw whole at e in
    let fits : len ≤ length (drop at text) = rw whole at within in
    let first : lines_of (drop at text) ≡ take len (drop at text) ∷ lines_of (drop (len + 1) (drop at text)) =
    rw is (first_line (drop at text) (omega (arith, length-drop at text))) in
    let behind : drop (len + 1) (drop at text) ≡ drop (at + len + 1) text = grind (arith, drop-drop) in
    let width : at + len - at ≡ len = omega arith in
    record {
      from = refl;
      inside = omega (arith, length-drop at text);
      lines = rw (width, ← behind) first;
    }
