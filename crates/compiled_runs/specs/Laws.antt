-- What the code of a compiled source owes the crash theorem, and the board's runs.
use Rattle.std.specs.Prelude.{◌≡◌, ◌<◌, ◌≤◌, ◌+◌, ℕ, List, Some, length, slice_get}
use Rattle.machine_effects.specs.World.{World}
use Rattle.machine_effects.specs.Going.{At, going}
use Rattle.machine_effects.specs.Machine.{MachineBoard}
use Rattle.code_forms.specs.Placed.{words_of}
use Rattle.cost_bound.specs.declared.allowance.Allow.{Allow}
use Rattle.cost_bound.specs.Summaries.{summaries}
use Rattle.cost_bound.specs.Allowance.{CheckedTask, IsAllowed}
use Rattle.war_analysis.specs.PlanValue.{TaskPlanValue}
use Rattle.source_values.specs.Runs.{CheckedProgram, State}
use Rattle.memory_map.specs.declared.runtime.Logging.{Logging}
use Rattle.memory_map.specs.declared.runtime.Logging.TheVariants.{Redo, Undo}
use Rattle.memory_map.specs.declared.words.RuntimeWord.TheVariants.{Gate, Version}
use Rattle.memory_map.specs.MemoryMap.{MemoryMap, TaskPlace, word_place, with_events}
use Rattle.privatise.specs.Layouts.{IsLayoutFor}
use Rattle.boot_runtime.specs.Entries.{task_entries}
use Rattle.boot_runtime.specs.Listing.{privates_in}
use Rattle.lower.specs.Lowered.{lowered, lowered_task}
use Rattle.crash_rules.specs.Model.{ModelLaws}
use Rattle.crash_rules.specs.History.{first_history}
use Rattle.crash_rules.specs.Runs.{ProgramLaws}
use Rattle.crash_rules.specs.Laws.{Origin, Begins}
use Rattle.run_charges.specs.Fronts.{IsPlacedProgram, AlwaysLeaves}
use Rattle.memory_map.specs.Laws.{AreApart}
use Rattle.stands_for.specs.Layout.{HaveRoom, ArePrivate}
use Rattle.linked_code.specs.Linked.{CallsAmong, CodeFits}
use Rattle.linked_code.specs.Rooms.{PrivatesAreCounted}
use Rattle.compiled_model.specs.Places.{program_places}
use Rattle.undo_states.specs.States.{AreLogged}
use Rattle.compiled_model.specs.Parts.{private_homes, compiled_model}
use Rattle.compiled_model.specs.Needs.{CostsAreWithin, LoggedCostsAreWithin, TasksLeave, ProgramsAreWhole, AttemptsStoreBelow}
use Rattle.task_needs.specs.Lists.{TasksListFew, NeedsAreWithin, with_needs}
use Rattle.compiled_runs.specs.Program.{source_code, stack_low, IsBooting, compiled_program}

-- what a runtime asks for: private scalars as its starts take them, and that each task is within its part of the bound
pub record RunsByRedo (p : CheckedProgram) (l : MemoryMap) : Type 0 where
  pub privates : (k : ℕ) → ArePrivate (program_places p l) k (privates_in (task_entries l) k)
  pub costs : CostsAreWithin p l

pub record RunsByUndo (p : CheckedProgram) (l : MemoryMap) : Type 0 where
  pub privates : (k : ℕ) → AreLogged (program_places p l) k (private_homes l k)
  pub costs : LoggedCostsAreWithin p l

abbrev pub RunsBy : Logging → CheckedProgram → MemoryMap → Type 0
RunsBy Redo = RunsByRedo
RunsBy Undo = RunsByUndo

-- what is asked of a source and its layout, for the runtime that this names
pub record CanRun (p : CheckedProgram) (l : MemoryMap) : Type 0 where
  pub fits : CodeFits l (lowered l p)
  pub count : length l.tasks ≡ length p.tasks
  pub apart : AreApart l
  pub room : HaveRoom (program_places p l)
  pub programs : ProgramsAreWhole p l
  -- no program goes below the stack of its task, nor does what it calls
  pub stacks : (t : ℕ) (below : t < length p.tasks) (task : CheckedTask) → slice_get p.tasks t ≡ Some task
      → stack_low (summaries p) task ≤ (programs.whole t below).bounds.floor
  pub leave : TasksLeave p l
  pub own : RunsBy l.runtime.logging p l

-- the code makes each attempt, behind a power-up with its recovery, and each commit within the task's bound, from a power-up on and from the end of a commit on
abbrev pub CodeKeepsTheLaws : Type 0
CodeKeepsTheLaws = (p : CheckedProgram) (l : MemoryMap) → CanRun p l → ModelLaws (compiled_model p l)
    → ProgramLaws (compiled_model p l) (compiled_program p l)

-- a source with its tasks' needs as their costs is a model as before, where under redo each task lists few words
abbrev pub NeedsKeepTheLaws : Type 0
NeedsKeepTheLaws = (p : CheckedProgram) (l : MemoryMap) → CanRun p l → (l.runtime.logging ≡ Redo → TasksListFew p l) → ModelLaws (compiled_model p l)
    → ModelLaws (with_needs p l (compiled_model p l))

-- and the code makes each attempt, behind a power-up with its recovery, and each commit within the task's need, whatever else was pending at the start
abbrev pub CodeKeepsToNeeds : Type 0
CodeKeepsToNeeds = (p : CheckedProgram) (l : MemoryMap) → CanRun p l → (l.runtime.logging ≡ Redo → TasksListFew p l) → NeedsAreWithin l.runtime.logging p l
    → ModelLaws (compiled_model p l)
    → ProgramLaws (with_needs p l (compiled_model p l)) (compiled_program p l)

-- it is instructions placed in FRAM in front of the handler, and a power-up with the boot's address in the reset vector comes to its entry
abbrev pub CodeIsPlaced : Type 0
CodeIsPlaced = (p : CheckedProgram) (l : MemoryMap) → CodeFits l (lowered l p)
    → IsPlacedProgram (compiled_program p l) l.runtime.events l.boot.address (source_code p l) l.boot.address

-- under redo from a power-up with GATE 0 and VER not at its end, the fifth instruction raises VER, the seventh where there are events
abbrev pub PowerUpsRaiseVersion : Type 0
PowerUpsRaiseVersion = (p : CheckedProgram) (l : MemoryMap) → l.runtime.logging ≡ Redo → CanRun p l → (b : MachineBoard) → IsBooting l b
    → b.fram (word_place l Gate) ≡ 0
    → b.fram (word_place l Version) < 0xFFFF → (t : MachineBoard) → (going (compiled_program p l).step (with_events l.runtime.events 2 + 5) b).status ≡ At t
    → t.fram (word_place l Version) ≡ b.fram (word_place l Version) + 1

-- a run stores nowhere on the code, nor on the reset vector, and never comes to where no instruction stands
abbrev pub RunsLeaveTheCode : Type 0
RunsLeaveTheCode = (p : CheckedProgram) (l : MemoryMap) → CanRun p l → ModelLaws (compiled_model p l) → AttemptsStoreBelow p l l.boot.address
    → (readings : List ℕ) (origin : Origin State) (x : World) (s : MachineBoard) → Begins (compiled_model p l) readings origin x s
    → AlwaysLeaves (compiled_program p l) l.boot.address (length (words_of (source_code p l))) (compiled_model p l).marks s
    (first_history (compiled_model p l).marks x)

-- each call of a task, and of what it calls, is of the code of one of the functions that it reaches, and has its program
abbrev pub CallsAreAmong : CheckedProgram → MemoryMap → Type 0
CallsAreAmong p l = (k : ℕ) (task : CheckedTask) (t : TaskPlace) → slice_get p.tasks k ≡ Some task → slice_get l.tasks k ≡ Some t
    → CallsAmong t.routines (lowered_task p.functions l t task.body).routines (lowered_task p.functions l t task.body).own

-- the layout of a source that costs no more than it may has room for its code, whichever its runtime is
abbrev pub SourcesHaveRoom : Type 0
SourcesHaveRoom = (logging : Logging) (p : CheckedProgram) (allow : Allow) (plans : List TaskPlanValue) (l : MemoryMap) → IsAllowed p allow
    → IsLayoutFor logging p allow plans l
    → length plans ≡ length p.tasks → PrivatesAreCounted p l → CallsAreAmong p l → CodeFits l (lowered l p)
