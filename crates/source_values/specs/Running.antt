-- What a run of a program needs, and begins with.
use Rattle.std.specs.Prelude.{◌≡◌, ℕ, ◌<◌, ◌≤◌, List, [], map, length, All}
use Rattle.source_values.specs.Marks.{MarksValue, no_marks}
use Rattle.source_values.specs.Runs.{CheckedProgram, EmitsFit, TransitionComes, ReturnComes, initial_rows}

-- each shared variable has as many words as it starts with
abbrev pub IsShaped : CheckedProgram → List (List ℕ) → Type 0
IsShaped program rows = map (length {A = ℕ}) rows ≡ map (length {A = ℕ}) (initial_rows program)

-- what a run needs of a source: at most 256 shared variables, at most 64 functions, whose returns come, and at most 64 tasks, among them
-- the entry, whose emitted words have room and whose transitions come. Each accepted source has it
pub record IsRunnable (program : CheckedProgram) : Type 0 where
  pub few_shared : length program.shared ≤ 256
  pub few_functions : length program.functions ≤ 64
  pub few_tasks : length program.tasks ≤ 64
  pub entry : program.entry.task < length program.tasks
  pub emits_fit : All (EmitsFit program) program.tasks
  pub return_comes : (k : ℕ) → ReturnComes program k
  pub transition_comes : All (TransitionComes program) program.tasks

-- what is kept of a run: the shared words at the last transition and at the one before, marks on those that were written between
-- them, the words emitted there, and the current task
pub record RunState : Type 0 where
  pub before : List (List ℕ)
  pub shared : List (List ℕ)
  pub written : MarksValue
  pub emitted : List ℕ
  pub task : ℕ

-- a run of which no transition was made
abbrev pub fresh_run : CheckedProgram → RunState
fresh_run program = record {
  before = initial_rows program;
  shared = initial_rows program;
  written = no_marks;
  emitted = [];
  task = program.entry.task;
}
