-- Source texts: what one says, and how one is refused.
use Rattle.std.specs.Prelude.{◌≡◌, ℕ, List, codes, Option, Some, None}
use Rattle.task_lex.specs.declared.fault.LexFault.{LexFault}
use Rattle.task_lex.specs.declared.fault.LexFault.TheVariants as lex
use Rattle.task_check.specs.declared.fault.CheckFault.{CheckFault}
use Rattle.task_check.specs.declared.fault.CheckFault.TheVariants as check
use Rattle.task_check.specs.declared.fault.Kept.{Kept}
use Rattle.task_check.specs.declared.fault.Kept.TheVariants as kept
use Rattle.cost_bound.specs.declared.fault.Over.{Over}
use Rattle.cost_bound.specs.declared.fault.Over.TheVariants as over
use Rattle.cost_bound.specs.declared.allowance.Allow.{Allow}
use Rattle.command_answers.specs.source_values.Runs.{CheckedProgram}
use Rattle.source_meaning.specs.declared.fault.SourceFault.{SourceFault}
use Rattle.source_meaning.specs.declared.fault.SourceFault.TheVariants as fault
use Rattle.source_meaning.specs.Acceptance.{IsAcceptedText, IsRefusedText}
use Rattle.source_meaning.specs.Events.{HasNoEvent}
use Rattle.command_answers.specs.Refusals.{Refusal, number, plain, named}

-- the text is accepted as this program
pub record IsSourceText (text : List ℕ) (program : CheckedProgram) : Type 0 where
  pub allow : Allow
  pub accepted : IsAcceptedText text program allow

-- a refusal that keeps a number
abbrev pub numbered : ℕ → List ℕ → ℕ → Refusal
numbered line kind n = record { line = line; kind = kind; detail = number n }

-- the refusal of a text that isn't cut into tokens
abbrev pub lex_refusal : LexFault → Option Refusal
lex_refusal (lex.BadByte line) = Some (plain line (codes "BadByte"))
lex_refusal (lex.BadNumber line) = Some (plain line (codes "BadNumber"))
lex_refusal (lex.BadName line) = Some (plain line (codes "BadName"))
lex_refusal (lex.TooDeep line) = Some (plain line (codes "TooDeep"))
lex_refusal (lex.TooWide line) = Some (plain line (codes "TooWide"))
lex_refusal lex.Memory = None

-- that of a wrong use, by what it keeps
abbrev pub use_refusal : List ℕ → ℕ → Kept → Refusal
use_refusal text line (kept.Name span) = named text line (codes "WrongUse") span
use_refusal text line (kept.Number n) = numbered line (codes "WrongUse") n
use_refusal text line kept.Nothing = plain line (codes "WrongUse")

-- that of a source whose names, uses, loops, paths or numbers of names are refused
abbrev pub check_refusal : List ℕ → CheckFault → Option Refusal
check_refusal text (check.RepeatedName line span) = Some (named text line (codes "RepeatedName") span)
check_refusal text (check.UnknownName line span) = Some (named text line (codes "UnknownName") span)
check_refusal text (check.WrongUse line kept) = Some (use_refusal text line kept)
check_refusal text (check.BadLength line span) = Some (named text line (codes "BadLength") span)
check_refusal text (check.BadLoop line span) = Some (named text line (codes "BadLoop") span)
check_refusal text (check.Unassigned line span) = Some (named text line (codes "Unassigned") span)
check_refusal text (check.NoReturn line span) = Some (named text line (codes "NoReturn") span)
check_refusal text (check.NoTransition line span) = Some (named text line (codes "NoTransition") span)
check_refusal text (check.TooMany line) = Some (plain line (codes "TooMany"))
check_refusal text check.Memory = None

-- that of a source that costs too much
abbrev pub over_refusal : Over → Refusal
over_refusal (over.TooManyEmits line span count) = numbered line (codes "TooManyEmits") count
over_refusal (over.BoundTooLarge n) = numbered 0 (codes "BoundTooLarge") n
over_refusal (over.TooLarge n) = numbered 0 (codes "TooLarge") n
over_refusal (over.StackTooLarge n) = numbered 0 (codes "StackTooLarge") n

-- that of each fault, if it is one of the text
abbrev pub source_refusal : List ℕ → SourceFault → Option Refusal
source_refusal text (fault.Lex f) = lex_refusal f
source_refusal text (fault.Syntax line) = Some (plain line (codes "Syntax"))
source_refusal text (fault.Check f) = check_refusal text f
source_refusal text (fault.Over f) = Some (over_refusal f)
source_refusal text fault.Memory = None

-- the first pass that refuses the text does so
pub record RefusesSource (text : List ℕ) (r : Refusal) : Type 0 where
  pub cause : SourceFault
  pub refused : IsRefusedText text cause
  pub told : source_refusal text cause ≡ Some r

-- a text is a source
abbrev pub SaysSource : List ℕ → Type 0
SaysSource text = (program : CheckedProgram) × IsSourceText text program

-- a text is a source without `next_event`: one whose reports are audited
abbrev pub SaysSourceWithoutEvents : List ℕ → Type 0
SaysSourceWithoutEvents text = SaysSource text × HasNoEvent text
