-- What an attempt takes at most, and what a transition sends.
use Rattle.std.specs.Prelude.{◌≡◌, ℕ, ◌+◌, ◌<◌, ◌≤◌, List, length, Some}
use Rattle.source_values.specs.Statements.{Outcome, goes_on, to_task, returns, short, block_emits, emit_counts}
use Rattle.source_values.specs.Runs.{CheckedProgram, State, Transition, TaskInputs, ReturnComes, attempt_of, task_body, transition_of}
use Rattle.task_ast.specs.Calls.{CallsAreKnown}
use Rattle.task_readings.specs.Readings.{block_readings, reading_counts}

-- of so many readings no more than this many are taken; where they run out, this many were more
abbrev pub TakesUpTo : ℕ → ℕ → Outcome → Type 0
TakesUpTo given most (goes_on s) = given ≤ length s.left + most
TakesUpTo given most (to_task task s) = given ≤ length s.left + most
TakesUpTo given most (returns w s) = given ≤ length s.left + most
TakesUpTo given most short = given < most

-- the calls of a source are of functions in front of them, and each function comes to a `return` or is short. Each accepted source has it
pub record FunctionsReturn (p : CheckedProgram) : Type 0 where
  pub calls : CallsAreKnown p
  pub come : (k : ℕ) → ReturnComes p k

-- each attempt of a task takes at most the readings of its text, and never lacks one where it has those
abbrev pub AttemptsTakeFew : Type 0
AttemptsTakeFew = (p : CheckedProgram) → FunctionsReturn p → (task : ℕ) (shared : List (List ℕ)) (given : TaskInputs)
    → TakesUpTo (length given.readings) (block_readings (reading_counts p) (task_body p task)) (attempt_of p task shared given)

-- what a transition took and sends is within its task's text
pub record IsWithinText (p : CheckedProgram) (task : ℕ) (given : TaskInputs) (t : Transition) : Type 0 where
  pub readings : length given.readings ≤ block_readings (reading_counts p) (task_body p task)
  pub words : length t.emitted ≤ block_emits (emit_counts p) (task_body p task)

-- so each transition of a source
abbrev pub TransitionsTakeFew : Type 0
TransitionsTakeFew = (p : CheckedProgram) → FunctionsReturn p → (s : State) (given : TaskInputs) (t : Transition) → transition_of p s given ≡ Some t
    → IsWithinText p s.task given t
