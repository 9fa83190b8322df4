-- The lines of printed lines and of what stands behind them.
use Rattle.std.proofs.Common.{◌≡◌, ◌<◌, ℕ, ◌==◌, List, [], ◌∷◌, ◌++◌, length, map, refl, ap, sym, ◌∙◌, if◌then◌else◌, Bool, true, false, append_assoc, arith}
use Rattle.std.proofs.lemmas.List.{map-append}
use Rattle.text_parts.specs.Lines.{lines, pieces, without_return, onto_first}
use Rattle.text_parts.specs.Printed.{spaced, printed}

some_by : (t : Bool) (x : ℕ) (ps : List (List ℕ)) → 0 < length (if t then [] ∷ ps else onto_first x ps)
some_by true x ps = omega arith
some_by false x [] = omega arith
some_by false x (p ∷ ps) = omega arith

-- up to a line feed there is a piece
some_piece : (a : List ℕ) → 0 < length (pieces (a ++ 10 ∷ []))
unfolding pieces
some_piece [] = omega arith
some_piece (x ∷ a) = some_by (x == 10) x (pieces (a ++ 10 ∷ []))

pieces_by : (t : Bool) (x : ℕ) (ps qs rs : List (List ℕ)) → ps ≡ qs ++ rs → 0 < length qs
    → (if t then [] ∷ ps else onto_first x ps) ≡ (if t then [] ∷ qs else onto_first x qs) ++ rs
pieces_by true x ps qs rs e h = ap (λ ps. [] ∷ ps) e
pieces_by false x ps [] rs e h = absurd (omega arith)
pieces_by false x ps (q ∷ qs) rs e h = ap (onto_first x) e

-- a line feed parts the pieces
pieces_part : (a b : List ℕ) → pieces (a ++ 10 ∷ b) ≡ pieces (a ++ 10 ∷ []) ++ pieces b
unfolding pieces
pieces_part [] b = refl
pieces_part (x ∷ a) b = pieces_by (x == 10) x (pieces (a ++ 10 ∷ b)) (pieces (a ++ 10 ∷ [])) (pieces b) (pieces_part a b) (some_piece a)

lines_part : (a b : List ℕ) → lines (a ++ 10 ∷ b) ≡ lines (a ++ 10 ∷ []) ++ lines b
lines_part a b = ap (λ ps. map without_return ps) (pieces_part a b) ∙ map-append without_return (pieces (a ++ 10 ∷ [])) (pieces b)

-- behind printed lines stand the lines of what is behind
pub printed_part : (ls : List (List (List ℕ))) (b : List ℕ) → lines (printed ls ++ b) ≡ lines (printed ls) ++ lines b
unfolding printed pieces
printed_part [] b = refl
printed_part (l ∷ ls) b =
    let first : List (List ℕ) = lines (spaced l ++ 10 ∷ []) in
    let text : (c : List ℕ) → (spaced l ++ 10 ∷ []) ++ c ≡ spaced l ++ 10 ∷ c = λ c. append_assoc (spaced l) (10 ∷ []) c in
    ap lines (append_assoc (spaced l ++ 10 ∷ []) (printed ls) b ∙ text (printed ls ++ b))
    ∙ lines_part (spaced l) (printed ls ++ b)
    ∙ ap (λ r. first ++ r) (printed_part ls b)
    ∙ sym (append_assoc first (lines (printed ls)) (lines b))
    ∙ ap (λ r. r ++ lines b) (sym (ap lines (text (printed ls)) ∙ lines_part (spaced l) (printed ls)))
