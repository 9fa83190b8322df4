-- The answers of the checks exclude one another.
use Rattle.std.specs.Prelude.{◌≡◌, ℕ, List}
use Rattle.alp_text.specs.declared.lines.Span.{Span}
use Rattle.task_ast.specs.Tree.{Program}
use Rattle.task_ast.specs.Paths.{CheckedProgram}
use Rattle.task_check.specs.declared.fault.CheckFault.{CheckFault}
use Rattle.task_check.specs.declared.fault.CheckFault.TheVariants as fault
use Rattle.task_check.specs.Answers.{IsLookedUp, IsAccepted, IsRefused}

-- the same kind on the same line, and the same name or number; the names of loops and of paths begin at one place
abbrev pub IsAlike : CheckFault → CheckFault → Type 0
IsAlike (fault.BadLoop l n) (fault.BadLoop m k) = (l ≡ m) × (n.from ≡ k.from)
IsAlike (fault.Unassigned l n) (fault.Unassigned m k) = (l ≡ m) × (n.from ≡ k.from)
IsAlike (fault.NoReturn l n) (fault.NoReturn m k) = (l ≡ m) × (n.from ≡ k.from)
IsAlike (fault.NoTransition l n) (fault.NoTransition m k) = (l ≡ m) × (n.from ≡ k.from)
IsAlike e d = e ≡ d

-- A text and its tree have one source with the names looked up; none that is accepted is refused; and all refusals are alike.
pub record OneAnswer : Type 0 where
  pub one_source : (source : List ℕ) (tree : Program Span Span Span) (c d : CheckedProgram) → IsLookedUp source tree c → IsLookedUp source tree d
      → c ≡ d
  pub no_refusal : (source : List ℕ) (tree : Program Span Span Span) (c : CheckedProgram) (e : CheckFault) → IsAccepted source tree c
      → IsRefused source tree e → ⊥
  pub one_refusal : (source : List ℕ) (tree : Program Span Span Span) (e d : CheckFault) → IsRefused source tree e → IsRefused source tree d → IsAlike e d
