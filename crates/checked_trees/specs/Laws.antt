-- What the checks of a source say of its tree.
use Rattle.std.specs.Prelude.{◌≡◌, ℕ, List, Some, All, slice_get}
use Rattle.task_ast.specs.Paths.{CheckedProgram, CheckedFunction}
use Rattle.source_meaning.specs.Acceptance.{Checks}
use Rattle.checked_trees.specs.WellFormed.{IsWellFormedTask, IsWellFormedFunction}

-- each task and each function is well-formed
pub record AreWellFormed (program : CheckedProgram) : Type 0 where
  pub tasks : All (IsWellFormedTask program) program.tasks
  pub functions : (k : ℕ) (f : CheckedFunction) → slice_get program.functions k ≡ Some f → IsWellFormedFunction program k f

-- those of a source that no check refuses are
abbrev pub SourcesAreWellFormed : Type 0
SourcesAreWellFormed = (text : List ℕ) (program : CheckedProgram) → Checks text program → AreWellFormed program
