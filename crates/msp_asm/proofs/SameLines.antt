-- The lines of an assembler text as pieces between line feeds.
use Rattle.std.proofs.Common.{◌≡◌, ℕ, ◌+◌, ◌==◌, List, [], ◌∷◌, ◌++◌, length, map, refl, ap, ◌∙◌, if◌then◌else◌, Bool, true, false, ◌⊎◌, inl, inr}
use Rattle.std.proofs.lemmas.List.{map-append}
use Rattle.text_parts.specs.Lines.{lines, pieces, without_return}
use Rattle.text_parts.specs.Lines as text
use Rattle.asm_line.specs.Pieces.{split, onto_first, place_all, bare}
use Rattle.msp_asm.specs.Assembled.{lines_in}
use Rattle.msp_asm.specs.Laws.{AreLines}

-- pieces between line feeds, with an empty one behind them or without
abbrev ArePieces : List (List ℕ) → List (List ℕ) → Type 0
ArePieces ss ps = (ss ≡ ps) ⊎ (ss ≡ ps ++ [] ∷ [])

onto : (b : ℕ) (ss ps : List (List ℕ)) → ArePieces ss ps → ArePieces (onto_first b ss) (text.onto_first b ps)
onto b ss [] (inl e) = inl (ap (onto_first b) e)
onto b ss (p ∷ ps) (inl e) = inl (ap (onto_first b) e)
onto b ss [] (inr e) = inl (ap (onto_first b) e)
onto b ss (p ∷ ps) (inr e) = inr (ap (onto_first b) e)

piece_by : (t : Bool) (b : ℕ) (ss ps : List (List ℕ)) → ArePieces ss ps
    → ArePieces (if t then [] ∷ ss else onto_first b ss) (if t then [] ∷ ps else text.onto_first b ps)
piece_by true b ss ps (inl e) = inl (ap (λ r. [] ∷ r) e)
piece_by true b ss ps (inr e) = inr (ap (λ r. [] ∷ r) e)
piece_by false b ss ps h = onto b ss ps h

are_pieces : (t : List ℕ) → ArePieces (split 10 t) (pieces t)
unfolding split pieces
are_pieces [] = inr refl
are_pieces (b ∷ bs) = piece_by (b == 10) b (split 10 bs) (pieces bs) (are_pieces bs)

bare_texts : (at : ℕ) (ps : List (List ℕ)) → map (λ l. l.text) (map bare (place_all at ps)) ≡ map without_return ps
bare_texts at [] = refl
bare_texts at (p ∷ ps) = ap (λ r. without_return p ∷ r) (bare_texts (at + length p + 1) ps)

lines_by : (ss ps : List (List ℕ)) → ArePieces ss ps
    → (map without_return ss ≡ map without_return ps) ⊎ (map without_return ss ≡ map without_return ps ++ [] ∷ [])
lines_by ss ps (inl e) = inl (ap (map without_return) e)
lines_by ss ps (inr e) = inr (ap (map without_return) e ∙ map-append without_return ps ([] ∷ []))

pub same_lines : (t : List ℕ) → AreLines t (map (λ l. l.text) (lines_in t))
same_lines t = later (lines_by (split 10 t) (pieces t) (are_pieces t))
  where
    later : (map without_return (split 10 t) ≡ lines t) ⊎ (map without_return (split 10 t) ≡ lines t ++ [] ∷ []) → AreLines t (map (λ l. l.text) (lines_in t))
    later (inl e) = inl (bare_texts 0 (split 10 t) ∙ e)
    later (inr e) = inr (bare_texts 0 (split 10 t) ∙ e)
