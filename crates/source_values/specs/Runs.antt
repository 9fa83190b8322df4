-- The run of a source: whole tasks, one after another, each on its own readings and answers of `next_event()`.
use Rattle.std.specs.Prelude.{◌≡◌, ℕ, ◌<◌, ◌≤◌, ◌/◌, ◌%◌, Bool, true, false, List, [], ◌∷◌, ◌++◌, map, length, take, replicate, Option, Some, None}
use Rattle.std.specs.Prelude.{slice_get}
use Rattle.task_ast.specs.Tree.{end}
pub use Rattle.task_ast.specs.Paths.{CheckedBlock, CheckedFunction, CheckedTask, CheckedProgram}
use Rattle.task_ast.specs.declared.Extent.{Extent}
use Rattle.task_ast.specs.declared.Extent.TheVariants.{Scalar, Long, Array}
pub use Rattle.source_values.specs.Values.{new_locals}
use Rattle.source_values.specs.Values.{◌>>?◌}
use Rattle.source_values.specs.Statements.{Attempt, Outcome, goes_on, to_task, returns, short, run_block, meanings, block_emits, emit_counts}

-- whether a shared variable is a long
abbrev pub is_long_extent : Extent → Bool
is_long_extent (Scalar w) = false
is_long_extent (Long n) = true
is_long_extent (Array n) = false

-- the words that a shared variable starts with
abbrev pub initial_words : Extent → List ℕ
initial_words (Scalar w) = w ∷ []
initial_words (Long n) = n % 65536 ∷ n / 65536 ∷ []
initial_words (Array n) = replicate n 0

-- of each shared variable the words that it starts with
abbrev pub initial_rows : CheckedProgram → List (List ℕ)
initial_rows program = map (λ d. initial_words d.extent) program.shared

-- what a task does; nothing where no task has this number
abbrev pub body_of : Option CheckedTask → CheckedBlock
body_of None = end
body_of (Some task) = task.body

abbrev pub task_body : CheckedProgram → ℕ → CheckedBlock
task_body program task = body_of (slice_get program.tasks task)

-- what a task is given: readings, and answers of `next_event()`
pub record TaskInputs : Type 0 where
  pub readings : List ℕ
  pub answers : List ℕ

-- readings, and no answers: each `next_event()` is then 0
abbrev pub without_answers : List ℕ → TaskInputs
without_answers readings = record { readings = readings; answers = [] }

-- an attempt at its start: nothing emitted, all readings and answers left
abbrev pub fresh_attempt : List (List ℕ) → TaskInputs → Attempt
fresh_attempt shared given = record {
  variables = record { shared = shared; locals = new_locals };
  emitted = [];
  left = given.readings;
  answers = given.answers;
}

-- one attempt of a task on these shared words, readings and answers
abbrev pub attempt_of : CheckedProgram → ℕ → List (List ℕ) → TaskInputs → Outcome
attempt_of program task shared given = run_block (meanings program) (task_body program task) (fresh_attempt shared given)

-- what outlives a whole task: the next task, the shared words, the words emitted, the readings and answers left
pub record Completion : Type 0 where
  pub next : ℕ
  pub shared : List (List ℕ)
  pub emitted : List ℕ
  pub left : List ℕ
  pub answers : List ℕ

-- what an outcome leaves where it ends at a transition
abbrev pub completion_of : Outcome → Option Completion
completion_of (goes_on s) = None
completion_of (to_task t s) = Some (record { next = t; shared = s.variables.shared; emitted = s.emitted; left = s.left; answers = s.answers })
completion_of (returns w s) = None
completion_of short = None

-- a state of a source: the shared words, the current task, and the words emitted so far
pub record State : Type 0 where
  pub shared : List (List ℕ)
  pub task : ℕ
  pub emitted : List ℕ

-- the initial words, the entry task, and no words
abbrev pub first_state : CheckedProgram → State
first_state program = record { shared = initial_rows program; task = program.entry.task; emitted = [] }

-- a completed transition: from task to task, the shared words before and after it, and the words that it emitted
pub record Transition : Type 0 where
  pub from : ℕ
  pub next : ℕ
  pub before : List (List ℕ)
  pub after : List (List ℕ)
  pub emitted : List ℕ

-- the state behind a transition
abbrev pub state_after : State → Transition → State
state_after s t = record { shared = t.after; task = t.next; emitted = s.emitted ++ t.emitted }

-- the state behind these transitions
abbrev pub state_behind : State → List Transition → State
state_behind s [] = s
state_behind s (t ∷ ts) = state_behind (state_after s t) ts

-- the transition of a completion, if no readings and no answers are left over
abbrev pub exactly : State → Completion → Option Transition
exactly s c = if_none_left c.left c.answers
  where
    if_none_left : List ℕ → List ℕ → Option Transition
    if_none_left [] [] = Some (record { from = s.task; next = c.next; before = s.shared; after = c.shared; emitted = c.emitted })
    if_none_left [] (a ∷ answers) = None
    if_none_left (r ∷ rs) answers = None

-- a whole task from a state on, which ends at a transition and takes exactly these readings, and no fewer answers than these
abbrev pub transition_of : CheckedProgram → State → TaskInputs → Option Transition
transition_of program s given = completion_of (attempt_of program s.task s.shared given) >>? exactly s

-- whole tasks from a state on, each of which takes exactly the readings that it is given, and all its answers
abbrev pub source_run : CheckedProgram → State → List TaskInputs → Option (List Transition)
source_run program s [] = Some []
source_run program s (given ∷ more) =
    transition_of program s given >>? λ t. source_run program (state_after s t) more >>? λ ts. Some (t ∷ ts)

-- an outcome of a task that is no end without a transition, and whose transition goes to a task
abbrev pub EndsWell : ℕ → Outcome → Type 0
EndsWell tasks (goes_on s) = ⊥
EndsWell tasks (to_task t s) = t < tasks
EndsWell tasks (returns w s) = ⊥
EndsWell tasks short = Unit {0}

-- each attempt of a task of the program comes to a transition to a task, or is short
abbrev pub TransitionComes : CheckedProgram → CheckedTask → Type 0
TransitionComes program task = (s : Attempt) → EndsWell (length program.tasks) (run_block (meanings program) task.body s)

-- an outcome of a function that is no end without a `return`
abbrev pub EndsReturning : Outcome → Type 0
EndsReturning (goes_on s) = ⊥
EndsReturning (to_task t s) = ⊥
EndsReturning (returns w s) = Unit {0}
EndsReturning short = Unit {0}

-- each call of the function of this number comes to a `return`, or is short
abbrev pub ReturnComes : CheckedProgram → ℕ → Type 0
ReturnComes program k = (f : CheckedFunction) → slice_get program.functions k ≡ Some f
    → (s : Attempt) → EndsReturning (run_block (take k (meanings program)) f.body s)

-- the task emits at most 256 words, those of its calls among them
abbrev pub EmitsFit : CheckedProgram → CheckedTask → Type 0
EmitsFit program task = block_emits (emit_counts program) task.body ≤ 256
