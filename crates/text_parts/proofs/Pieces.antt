-- The first piece of a text, and how a text is made of its pieces.
use Rattle.std.proofs.Common.{◌≡◌, ◌≤◌, ◌<◌, ℕ, suc, zero, ◌+◌, ◌-◌, ◌==◌, not, List, [], ◌∷◌, ◌++◌, length, map, drop, take, arith, refl, ap, sym, ◌∙◌}
use Rattle.std.proofs.Common.{if◌then◌else◌, Bool, true, false, ◌⊎◌, inl, inr, length-drop, add-one}
use Rattle.std.specs.List.{list_all}
use Rattle.std.proofs.lemmas.List.{take_rest}
use Rattle.std.proofs.lemmas.Bool.Decides.{nat_tests}
use Rattle.std.proofs.lemmas.Bool.{and_parts, not-true}
use Rattle.text_parts.specs.Lengths.{len_before}
use Rattle.text_parts.specs.Lines.{pieces, onto_first, without_return, lines, BeginsWithPiece, IsMadeOfPieces}

abbrev feed : ℕ → Bool
feed b = b == 10

cut_by : (t : Bool) (b : ℕ) (bs : List ℕ)
    → (len_before feed bs < length bs → pieces bs ≡ take (len_before feed bs) bs ∷ pieces (drop (suc (len_before feed bs)) bs))
    → (if t then 0 else suc (len_before feed bs)) < suc (length bs)
    → (if t then [] ∷ pieces bs else onto_first b (pieces bs))
    ≡ take (if t then 0 else suc (len_before feed bs)) (b ∷ bs) ∷ pieces (drop (if t then 0 else suc (len_before feed bs)) bs)
cut_by true b bs ih h = refl
cut_by false b bs ih h = ap (onto_first b) (ih (omega arith))

-- a text up to its first line feed is its first piece
pieces_cut : (text : List ℕ) → len_before feed text < length text
    → pieces text ≡ take (len_before feed text) text ∷ pieces (drop (suc (len_before feed text)) text)
unfolding pieces
pieces_cut [] h = absurd (omega arith)
pieces_cut (b ∷ bs) h = cut_by (b == 10) b bs (pieces_cut bs) h

last_by : (t : Bool) (b c n : ℕ) (bs : List ℕ) (ps : List (List ℕ)) → (if t then 0 else suc n) ≡ suc (suc (length bs))
    → (n ≡ suc (length bs) → ps ≡ (c ∷ bs) ∷ []) → (if t then [] ∷ ps else onto_first b ps) ≡ (b ∷ c ∷ bs) ∷ []
last_by true b c n bs ps e ih = absurd (omega arith)
last_by false b c n bs ps e ih = ap (onto_first b) (ih (omega arith))

alone_by : (t : Bool) (b : ℕ) → (if t then zero else suc zero) ≡ suc zero → (if t then [] ∷ [] else (b ∷ []) ∷ []) ≡ (b ∷ []) ∷ []
alone_by true b e = absurd (omega arith)
alone_by false b e = refl

-- a text with no line feed is one piece
pieces_last : (b : ℕ) (bs : List ℕ) → len_before feed (b ∷ bs) ≡ suc (length bs) → pieces (b ∷ bs) ≡ (b ∷ bs) ∷ []
unfolding pieces
pieces_last b [] e = alone_by (b == 10) b e
pieces_last b (c ∷ cs) e = last_by (b == 10) b c (len_before feed (c ∷ cs)) cs (pieces (c ∷ cs)) e (pieces_last c cs)

no_pieces : pieces [] ≡ []
unfolding pieces
no_pieces = refl

-- a text with no bytes has no lines
pub lines_none : (text : List ℕ) → length text ≡ 0 → lines text ≡ []
lines_none [] e = ap (map without_return) no_pieces
lines_none (b ∷ bs) e = absurd (omega arith)

-- the rest behind a place
abbrev pub behind : {A : Type 0} → ℕ → List A → List A
behind k xs = take (length xs - k) (drop k xs)

-- the rest behind a place, as a drop
pub behind_is : {A : Type 0} (k : ℕ) (xs : List A) → behind k xs ≡ drop k xs
behind_is k xs = take_rest xs k

pub cut_fed : (text line : List ℕ) (n : ℕ) → n ≡ len_before feed text → n < length text → line ≡ without_return (take n text)
    → (lines text ≡ line ∷ lines (behind (n + 1) text)) × (length (behind (n + 1) text) < length text)
cut_fed text line n e h k =
    let short : len_before feed text < length text = rw e at h in (
      ap (map without_return) (pieces_cut text short) ∙ ap (λ m. without_return (take m text) ∷ lines (drop (suc m) text)) (sym e)
          ∙ ap (λ l. l ∷ lines (drop (suc n) text)) (sym k) ∙ ap (λ m. line ∷ lines (drop m text)) (sym (add-one n))
          ∙ ap (λ r. line ∷ lines r) (sym (behind_is (n + 1) text)),
      rw (behind_is (n + 1) text) (omega (arith, length-drop (n + 1) text)),
    )

drop_all : {A : Type 0} (xs : List A) → drop (length xs) xs ≡ []
drop_all [] = refl
drop_all (x ∷ xs) = drop_all xs

pub cut_last : (text line : List ℕ) (n : ℕ) → n ≡ len_before feed text → length text ≤ n → n ≤ length text → 0 < length text → line ≡ without_return text
    → (lines text ≡ line ∷ lines (behind n text)) × (length (behind n text) < length text)
cut_last [] line n e h k l f = absurd (omega arith)
cut_last (b ∷ bs) line n e h k l f =
    let at : n ≡ suc (length bs) = omega arith in
    let none : drop n (b ∷ bs) ≡ [] = rw at (drop_all bs) in (
      ap (map without_return) (pieces_last b bs (sym e ∙ at)) ∙ ap (λ l. l ∷ []) (sym f) ∙ ap (λ ls. line ∷ ls) (sym (ap (map without_return) no_pieces))
          ∙ ap (λ r. line ∷ lines r) (sym none) ∙ ap (λ r. line ∷ lines r) (sym (behind_is n (b ∷ bs))),
      rw (behind_is n (b ∷ bs)) (omega (arith, length-drop n (b ∷ bs))),
    )

is_feed : (b : ℕ) → (b == 10) ≡ true → b ≡ 10
is_feed b e = grind (arith, nat_tests, e)

more_made : (t : Bool) (b : ℕ) (bs : List ℕ) (ps : List (List ℕ)) → (b == 10) ≡ t → IsMadeOfPieces ps bs
    → IsMadeOfPieces (if t then [] ∷ ps else onto_first b ps) (b ∷ bs)
more_made true b bs ps e h = (bs, (refl, inl (ap (λ c. c ∷ bs) (is_feed b e))), h)
more_made false b bs [] e h = ([], (rw e refl, inr (ap (λ r. b ∷ r) h, refl, omega arith)), refl)
more_made false b bs (p ∷ ps) e (rest, (none, at), h) = (rest, (rw e none, ends at), h)
  where
    ends : (bs ≡ p ++ 10 ∷ rest) ⊎ ((bs ≡ p) × (rest ≡ []) × (0 < length p))
        → (b ∷ bs ≡ (b ∷ p) ++ 10 ∷ rest) ⊎ ((b ∷ bs ≡ b ∷ p) × (rest ≡ []) × (0 < length (b ∷ p)))
    ends (inl e) = inl (ap (λ r. b ∷ r) e)
    ends (inr (e, f, g)) = inr (ap (λ r. b ∷ r) e, f, omega arith)

-- a text is made of its pieces
pub pieces_made : (text : List ℕ) → IsMadeOfPieces (pieces text) text
unfolding pieces
pieces_made [] = refl
pieces_made (b ∷ bs) = more_made (b == 10) b bs (pieces bs) refl (pieces_made bs)

-- a piece with its line feed comes first
pub piece_fed : (p rest : List ℕ) → list_all (λ b. not (b == 10)) p ≡ true → pieces (p ++ 10 ∷ rest) ≡ p ∷ pieces rest
unfolding pieces
piece_fed [] rest h = refl
piece_fed (b ∷ bs) rest h =
    let t = and_parts (not (b == 10)) (list_all (λ b. not (b == 10)) bs) h in
    rw (not-true (b == 10) t.0) (ap (onto_first b) (piece_fed bs rest t.1))

piece_whole : (b : ℕ) (bs : List ℕ) → list_all (λ b. not (b == 10)) (b ∷ bs) ≡ true → pieces (b ∷ bs) ≡ (b ∷ bs) ∷ []
unfolding pieces
piece_whole b [] h =
    let t = and_parts (not (b == 10)) true h in
    rw (not-true (b == 10) t.0) refl
piece_whole b (c ∷ cs) h =
    let t = and_parts (not (b == 10)) (list_all (λ b. not (b == 10)) (c ∷ cs)) h in
    rw (not-true (b == 10) t.0) (ap (onto_first b) (piece_whole c cs t.1))

first_piece : (text p rest : List ℕ) → BeginsWithPiece text p rest → pieces text ≡ p ∷ pieces rest
first_piece text p rest (none, inl e) = ap pieces e ∙ piece_fed p rest none
first_piece text [] rest (none, inr (e, f, g)) = absurd (omega arith)
first_piece text (b ∷ bs) rest (none, inr (e, f, g)) = ap pieces e ∙ piece_whole b bs none ∙ ap (λ ps. (b ∷ bs) ∷ ps) (sym no_pieces ∙ ap pieces (sym f))

-- what a text is made of are its pieces
pub pieces_only : (ps : List (List ℕ)) (text : List ℕ) → IsMadeOfPieces ps text → ps ≡ pieces text
pieces_only [] text e = sym (ap pieces e ∙ no_pieces)
pieces_only (p ∷ ps) text (rest, first, h) = ap (λ qs. p ∷ qs) (pieces_only ps rest h) ∙ sym (first_piece text p rest first)
