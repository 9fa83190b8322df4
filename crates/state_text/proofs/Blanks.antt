-- The steps over blank lines.
use Rattle.std.proofs.Common.{◌≡◌, ℕ, ◌+◌, List, [], ◌∷◌, refl, sym, ◌∙◌, Bool, true, false}
use Rattle.text_parts.specs.Fields.{fields, no_fields}
use Rattle.state_text.specs.Reading.{behind_blanks, Numbered}

abbrev numbered : ℕ → List (List ℕ) → Numbered
numbered n ls = record { rest = ls; line = n }

pub blanks_end : (n : ℕ) (ls : List (List ℕ)) → ls ≡ [] → numbered n ls ≡ behind_blanks n ls
blanks_end n ls e = rw e refl

pub blanks_stop : (n : ℕ) (ls rest : List (List ℕ)) (l : List ℕ) (b : Bool) → ls ≡ l ∷ rest → b ≡ no_fields (fields l) → b ≡ false
    → numbered n ls ≡ behind_blanks n ls
blanks_stop n ls rest l b e h t = rw (e, sym h ∙ t) refl

pub blanks_more : (n : ℕ) (ls rest : List (List ℕ)) (l : List ℕ) (b : Bool) → ls ≡ l ∷ rest → b ≡ no_fields (fields l) → b ≡ true
    → behind_blanks (n + 1) rest ≡ behind_blanks n ls
blanks_more n ls rest l b e h t = rw (e, sym h ∙ t) refl
