-- A compiled source as the crash theorem takes it: its tasks, its start, its tasks' programs, and the cycles that each is allowed.
use Rattle.std.specs.Prelude.{ℕ, Bool, true, false, List, ◌++◌, length, Option, Some, None}
use Rattle.fram_board.specs.Effects.{Effect}
use Rattle.machine_effects.specs.World.{World}
use Rattle.cost_bound.specs.Summaries.{summaries}
use Rattle.cost_bound.specs.Allowance.{task_bound, uses_events, versions_of}
use Rattle.source_values.specs.Runs.{CheckedProgram, State, Completion, completion_of, attempt_of, task_body}
use Rattle.array_versions.specs.Program.{Program}
use Rattle.array_versions.specs.TaskPrograms.{program_at}
use Rattle.array_versions.specs.Behaviour.{Behaviour, End, GoesOn, Jumps, Gives, Short as Starves, Strays, Broken, behaviour, started}
use Rattle.memory_map.specs.declared.runtime.Logging.{Logging}
use Rattle.memory_map.specs.declared.runtime.Logging.TheVariants.{Redo, Undo}
use Rattle.memory_map.specs.declared.runtime.Role.{Role}
use Rattle.memory_map.specs.declared.runtime.Role.TheVariants.{Alone}
use Rattle.memory_map.specs.declared.words.RuntimeWord.TheVariants.{Gate}
use Rattle.memory_map.specs.MemoryMap.{MemoryMap, word_place}
use Rattle.runtime_effects.specs.Stages.{start_effects}
use Rattle.boot_runtime.specs.Entries.{task_entries}
use Rattle.boot_runtime.specs.Listing.{privates_in}
use Rattle.undo_effects.specs.Stages.{undo_start}
use Rattle.undo_runtime.specs.Entries.{logged_tasks}
use Rattle.undo_runtime.specs.Listing.{privates_in as logged_in}
use Rattle.lower.specs.Lowered.{lowered}
use Rattle.crash_rules.specs.Model.{Model, Given, Outcome, Ends, Short, ProgramEffects, program_effects}
use Rattle.stands_for.specs.Program.{ProgramParts, answer_word, program_model}
use Rattle.stands_for.specs.StandsFor.{StartedAt}
use Rattle.undo_states.specs.States.{LoggingAt}
use Rattle.undo_states.specs.Program.{undo_model}
use Rattle.compiled_model.specs.Places.{program_places}
use Rattle.compiled_model.specs.View.{state_view}

-- the state behind a whole task, with what is left over of what it was given
abbrev pub outcome_of : State → Option Completion → Outcome State
outcome_of s None = Short
outcome_of s (Some c) =
    Ends (record { shared = c.shared; task = c.next; emitted = s.emitted ++ c.emitted }) (record { readings = c.left; answers = c.answers })

-- a state's current task, run whole on what it is given: its `next_event()` take the answers, and are 0 where none is left
abbrev pub whole_task : CheckedProgram → State → Given → Outcome State
whole_task p s given =
    outcome_of s (completion_of (attempt_of p s.task s.shared (record { readings = given.readings; answers = given.answers })))

-- whether a program came to its jump
abbrev pub has_jumped : End → Bool
has_jumped (Jumps to s) = true
has_jumped (GoesOn s) = false
has_jumped (Gives v s) = false
has_jumped Starves = false
has_jumped Strays = false
has_jumped Broken = false

-- what a program does, as the crash theorem takes it
abbrev pub effects_of : Behaviour → ProgramEffects
effects_of b = program_effects b.effects (has_jumped b.end)

-- the word program of a task by its number, with those of the functions that it calls in its calls
abbrev pub task_program : CheckedProgram → MemoryMap → ℕ → Program
task_program p l t = program_at (lowered l p) t

-- the tasks, the start and the programs, each task within its allowance
abbrev pub program_parts : CheckedProgram → MemoryMap → ProgramParts State
program_parts p l = record {
  task = whole_task p;
  cost = λ t. task_bound (summaries p) (uses_events p) (versions_of p) p.shared (task_body p t);
  start = start_effects l (privates_in (task_entries l));
  body = λ t fram inputs. effects_of (behaviour (task_program p l t) (started fram inputs));
}

-- ---- what a runtime chooses

-- the source with its layout under redo
abbrev pub redo_model : CheckedProgram → MemoryMap → Model State
redo_model p l = program_model (program_places p l) (state_view p l) (program_parts p l)

-- the words that the undo runtime lists at the start of a task by its number: those of its private scalars
abbrev pub private_homes : MemoryMap → ℕ → List ℕ
private_homes l = logged_in (logged_tasks l)

-- the same tasks and programs, started by the undo runtime
abbrev pub logged_parts : CheckedProgram → MemoryMap → ProgramParts State
logged_parts p l = record (program_parts p l) { start = undo_start l (private_homes l) }

-- the source with its layout under undo
abbrev pub logged_model : CheckedProgram → MemoryMap → Model State
logged_model p l = undo_model (program_places p l) (state_view p l) (logged_parts p l)

-- The same under each runtime. How attempts start, what recoveries do and what FRAM stands for are by how it logs; to whom commits send, and what
-- they wait for, by the board's role: one that is alone sends to the receiver at its ports, and waits for nothing
abbrev pub model_under : Logging → Role → CheckedProgram → MemoryMap → Model State
model_under Redo Alone = redo_model
model_under Undo Alone = logged_model

-- the stores of an attempt's start, from FRAM
abbrev pub start_under : Logging → MemoryMap → (ℕ → ℕ) → List Effect
start_under Redo l = start_effects l (privates_in (task_entries l))
start_under Undo l = undo_start l (private_homes l)

-- what a world is behind them, with all of the state's task to come
abbrev pub started_under : Logging → CheckedProgram → MemoryMap → State → World → Type 0
started_under Redo p l s = StartedAt (program_places p l) (state_view p l) s (privates_in (task_entries l) s.task)
started_under Undo p l s = LoggingAt (program_places p l) (state_view p l) s (private_homes l s.task)

-- ---- the source with its layout and its runtime

-- The source with its layout, as the crash theorem takes it. What its runtime does and what FRAM stands for is chosen; tasks, costs and marks are
-- the same under each
abbrev pub model_by : Logging → Role → CheckedProgram → MemoryMap → Model State
model_by logging role p l = let chosen = model_under logging role p l in record {
  task = whole_task p;
  task_number = λ s. s.task;
  emitted = λ s. s.emitted;
  tasks = length p.tasks;
  task_cost = (program_parts p l).cost;
  delay = λ inputs. 0;
  marks = record { gate = word_place l Gate; answer = answer_word l };
  commit = chosen.commit;
  recover = chosen.recover;
  attempt = chosen.attempt;
  Rests = chosen.Rests;
  Undecided = chosen.Undecided;
  Settled = chosen.Settled;
  Decided = chosen.Decided;
  Committing = chosen.Committing;
}

-- under the runtime that the memory map names: its model, its starts, and what a world is behind one
abbrev pub compiled_model : CheckedProgram → MemoryMap → Model State
compiled_model p l = model_by l.runtime.logging l.runtime.role p l

abbrev pub start_of : MemoryMap → (ℕ → ℕ) → List Effect
start_of l = start_under l.runtime.logging l

abbrev pub IsStarted : CheckedProgram → MemoryMap → State → World → Type 0
IsStarted p l = started_under l.runtime.logging p l
