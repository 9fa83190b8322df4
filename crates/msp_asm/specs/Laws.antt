-- What the definitions come to: labels, lines that need no label, and texts of images.
use Rattle.std.specs.Prelude.{◌≡◌, ℕ, ◌+◌, ◌*◌, ◌%◌, Bool, false, if◌then◌else◌, List, [], ◌∷◌, length, ◌++◌, ◌⊎◌, Option, Some, None}
use Rattle.std.specs.Str.{bytes_eq}
use Rattle.text_parts.specs.Lines.{lines}
use Rattle.asm_line.specs.Pieces.{Located}
use Rattle.asm_line.specs.Lines.{LineMeaning}
use Rattle.msp_asm.specs.declared.labels.Place.{Place}
use Rattle.msp_asm.specs.Labels.{Table}
use Rattle.msp_asm.specs.Program.{after, line_fault, line_words}
use Rattle.msp_asm.specs.Placing.{is_bad_org}

-- whether a line has this label
abbrev pub has_label : List ℕ → Option Located → Bool
has_label name None = false
has_label name (Some p) = bytes_eq p.text name

-- the first of the lines from the n-th on that has this label, and the address at which it stands
abbrev pub first_with : List ℕ → ℕ → ℕ → List LineMeaning → Option Place
first_with name n a [] = None
first_with name n a (m ∷ ms) = if has_label name m.label then Some (record { address = a; line = n }) else first_with name (n + 1) (after a m.statement) ms

-- a line at an address that gives words under any labels, with no fault, and behind which the address has moved on by them
pub record GivesWords (a : ℕ) (m : LineMeaning) (ws : List ℕ) : Type 0 where
  pub fine : (f : Table) (n : ℕ) → line_fault f n a m ≡ None
  pub no_org : is_bad_org m.statement ≡ false
  pub words : (f : Table) → line_words f a m.statement ≡ ws
  pub next : after a m.statement ≡ (a + 2 * length ws) % 65536

-- the lines of a text, or these and an empty one behind them
abbrev pub AreLines : List ℕ → List (List ℕ) → Type 0
AreLines text ls = (ls ≡ lines text) ⊎ (ls ≡ lines text ++ [] ∷ [])
