-- The text of an image as it is written: words, lines, sections.
use Rattle.std.proofs.Common.{◌≡◌, ℕ, ◌+◌, ◌*◌, ◌%◌, ◌/◌, List, [], ◌∷◌, ◌++◌, map, refl, ap, sym, ◌∙◌, append_assoc, ◌≤◌, ◌<◌, length, get_or, arith}
use Rattle.std.proofs.Common.{append-nil}
use Rattle.text_parts.specs.Groups.{groups}
use Rattle.text_parts.specs.Hex.{upper_hex}
use Rattle.text_parts.specs.Printed.{spaced, printed}
use Rattle.text_parts.proofs.Interface.{printed_append, behind, behind_is}
use Rattle.image_text.specs.Text.{sections, Section, section_lines, lines_of_sections, text_of, upper_hex4, bytes_in, pair_text, tail_text}
use Rattle.image_text.proofs.Back.{more_words}

-- words behind a byte
spaced_tail : (v : List ℕ) (ws : List ℕ) → spaced (v ∷ map upper_hex (bytes_in ws)) ≡ v ++ tail_text ws
unfolding tail_text bytes_in
spaced_tail v [] = sym (append-nil v)
spaced_tail v (w ∷ ws) = ap (λ r. v ++ 32 ∷ (upper_hex (w % 256) ++ 32 ∷ r)) (spaced_tail (upper_hex (w / 256)) ws)
    ∙ ap (λ r. v ++ 32 ∷ r) (sym (append_assoc (upper_hex (w % 256)) (32 ∷ upper_hex (w / 256)) (tail_text ws)))

-- words in a line
pub spaced_pairs : (w : ℕ) (ws : List ℕ) → spaced (map upper_hex (bytes_in (w ∷ ws))) ≡ pair_text w ++ tail_text ws
spaced_pairs w ws = ap (λ bs. spaced (map upper_hex bs)) (more_words w ws) ∙ ap (λ r. upper_hex (w % 256) ++ 32 ∷ r) (spaced_tail (upper_hex (w / 256)) ws)
    ∙ sym (append_assoc (upper_hex (w % 256)) (32 ∷ upper_hex (w / 256)) (tail_text ws))

pub pairs_none : spaced (map upper_hex (bytes_in [])) ≡ []
unfolding bytes_in
pairs_none = refl

pub section_written : (place : ℕ) (ws a b c : List ℕ) → b ≡ a ++ (64 ∷ upper_hex4 (17408 + 2 * place)) ++ 10 ∷ []
    → c ≡ b ++ printed (map (map upper_hex) (map bytes_in (groups 8 ws))) → c ≡ a ++ printed (section_lines (record { place = place; words = ws }))
unfolding printed
section_written place ws a b c e f =
    let rest : List ℕ = printed (map (map upper_hex) (map bytes_in (groups 8 ws))) in
    let head : List ℕ = 64 ∷ upper_hex4 (17408 + 2 * place) in
    f ∙ ap (λ x. x ++ rest) (e ∙ append_assoc a head (10 ∷ [])) ∙ append_assoc a (head ++ 10 ∷ []) rest

sections_printed : (s : Section) (ss : List Section) → printed (lines_of_sections (s ∷ ss)) ≡ printed (section_lines s) ++ printed (lines_of_sections ss)
unfolding lines_of_sections
sections_printed s ss = printed_append (section_lines s) (lines_of_sections ss)

pub text_more : (s : Section) (ss all : List Section) (text a b : List ℕ) → a ++ printed (lines_of_sections all) ≡ text → all ≡ s ∷ ss
    → b ≡ a ++ printed (section_lines s)
    → b ++ printed (lines_of_sections ss) ≡ text
text_more s ss all text a b e f g = ap (λ x. x ++ printed (lines_of_sections ss)) g
    ∙ append_assoc a (printed (section_lines s)) (printed (lines_of_sections ss))
    ∙ ap (λ x. a ++ x) (sym (ap (λ all. printed (lines_of_sections all)) f ∙ sections_printed s ss)) ∙ e

pub text_end : (all : List Section) (text a b : List ℕ) → a ++ printed (lines_of_sections all) ≡ text → all ≡ [] → b ≡ a ++ 113 ∷ 10 ∷ [] → b ≡ text
unfolding printed lines_of_sections
text_end all text a b e f g = g ∙ sym (ap (λ all. a ++ printed (lines_of_sections all)) f) ∙ e

pub text_begins : (ws out : List ℕ) → out ++ printed (lines_of_sections (sections 0 ws)) ≡ out ++ text_of ws
unfolding text_of
text_begins ws out = refl

pub pairs_written : (ws a b c : List ℕ) → 1 ≤ length ws → b ≡ a ++ pair_text (get_or ws 0 0) → c ≡ b ++ tail_text (behind 1 ws)
    → c ≡ a ++ spaced (map upper_hex (bytes_in ws))
pairs_written [] a b c h e f = absurd (omega arith)
pairs_written (w ∷ ws) a b c h e f = f ∙ ap (λ r. b ++ tail_text r) (behind_is 1 (w ∷ ws)) ∙ ap (λ x. x ++ tail_text ws) e
    ∙ append_assoc a (pair_text w) (tail_text ws) ∙ ap (λ x. a ++ x) (sym (spaced_pairs w ws))

pub nothing_written : (ws a : List ℕ) → length ws < 1 → a ≡ a ++ spaced (map upper_hex (bytes_in ws))
nothing_written [] a h = sym (ap (λ x. a ++ x) pairs_none ∙ append-nil a)
nothing_written (w ∷ ws) a h = absurd (omega arith)

pub none_printed : (a : List ℕ) → a ++ printed [] ≡ a
unfolding printed
none_printed a = append-nil a
