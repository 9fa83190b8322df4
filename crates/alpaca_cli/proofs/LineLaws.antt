-- A line is that of one command.
use Rattle.std.proofs.Common.{◌≡◌, ◌∙◌, ℕ, List, [], ◌∷◌, cond, codes, Option, Some, None, refl, sym, ap, arith}
use Rattle.std.proofs.lemmas.Fmt.{decimal_is_IsNumeral}
use Rattle.std.specs.Prelude.{unwrap_or}
use Rattle.std.specs.Borrow.{Bor}
use Rattle.std.specs.Str.{bytes_eq}
use Rattle.std.specs.Str.Parse.{digits_value}
use Rattle.command_line.specs.Commands.{NamesCommand}
use Rattle.command_line.specs.declared.Command.TheVariants as command
use Rattle.alpaca_cli.specs.Calls.{Call, mean, try_, build, run, asm, dis, gen, save, resume, migrate, undo, audit, line_text, HasNumber, OnLine}

-- the call on a line
abbrev call_on : List (List ℕ) → Option Call
call_on [] = None
call_on (name ∷ []) = None
call_on (name ∷ a ∷ []) = cond (bytes_eq name (codes "dis")) (Some (dis a)) None
call_on (name ∷ a ∷ b ∷ []) = cond (bytes_eq name (codes "mean")) (Some (mean a b)) (cond (bytes_eq name (codes "build")) (Some (build a b))
    (cond (bytes_eq name (codes "run")) (Some (run a b)) (cond (bytes_eq name (codes "asm")) (Some (asm a b))
    (cond (bytes_eq name (codes "gen")) (Some (gen (digits_value 10 a) b)) None))))
call_on (name ∷ a ∷ b ∷ c ∷ []) = cond (bytes_eq name (codes "try")) (Some (try_ a b c)) (cond (bytes_eq name (codes "save")) (Some (save a b c))
    (cond (bytes_eq name (codes "resume")) (Some (resume a b c)) (cond (bytes_eq name (codes "audit")) (Some (audit a b c))
    (cond (bytes_eq name (codes "undo")) (Some (undo a b c)) None))))
call_on (name ∷ a ∷ b ∷ c ∷ d ∷ e ∷ f ∷ []) = cond (bytes_eq name (codes "migrate")) (Some (migrate a b c d e f)) None
call_on _ = None

is_call : (c : Call) → HasNumber c → call_on (line_text c) ≡ Some c
is_call (mean a b) h = refl
is_call (try_ a b c) h = refl
is_call (build a b) h = refl
is_call (run a b) h = refl
is_call (asm a b) h = refl
is_call (dis a) h = refl
is_call (save a b c) h = refl
is_call (resume a b c) h = refl
is_call (migrate a b c d e f) h = refl
is_call (undo a b c) h = refl
is_call (audit a b c) h = refl
is_call (gen n a) h = ap (λ k. Some (gen k a)) (decimal_is_IsNumeral n (omega (arith, h))).1

pub same_call : (c d : Call) → HasNumber c → HasNumber d → line_text c ≡ line_text d → c ≡ d
same_call c d h k e = ap (λ o. unwrap_or o c) (sym (is_call c h) ∙ ap call_on e ∙ is_call d k)

abbrev lent : List ℕ → Bor (List ℕ)
lent text = record { ref_ptr = (0, 0); now = text }

-- a command's line names it
pub names_command : (words : List (List ℕ)) → OnLine words (λ call. Unit {0}) → NamesCommand words
names_command words (mean a b, says, u) = (command.Mean (lent a) (lent b), says.line)
names_command words (try_ a b c, says, u) = (command.Try (lent a) (lent b) (lent c), says.line)
names_command words (build a b, says, u) = (command.Build (lent a) (lent b), says.line)
names_command words (run a b, says, u) = (command.Run (lent a) (lent b), says.line)
names_command words (asm a b, says, u) = (command.Asm (lent a) (lent b), says.line)
names_command words (dis a, says, u) = (command.Dis (lent a), says.line)
names_command words (gen n a, says, u) = (command.Gen n (lent a), says.line)
names_command words (save a b c, says, u) = (command.Save (lent a) (lent b) (lent c), says.line)
names_command words (resume a b c, says, u) = (command.Resume (lent a) (lent b) (lent c), says.line)
names_command words (migrate a b c d e f, says, u) =
    (command.Migrate (lent a) (lent b) (lent c) (lent d) (lent e) (lent f), says.line)
names_command words (undo a b c, says, u) = (command.Undo (lent a) (lent b) (lent c), says.line)
names_command words (audit a b c, says, u) = (command.Audit (lent a) (lent b) (lent c), says.line)
