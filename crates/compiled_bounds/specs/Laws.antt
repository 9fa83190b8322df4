-- What a compiled source's bound pays for, and what its runtime's words hold at most.
use Rattle.std.specs.Prelude.{◌≡◌, ℕ, ◌<◌, ◌≤◌, List, ◌++◌, length}
use Rattle.fram_board.specs.Board.{BoardValue}
use Rattle.fram_board.specs.Run.{BoardCharge, Moment, RunOutcome}
use Rattle.machine_effects.specs.World.{World}
use Rattle.machine_effects.specs.Runs.{last_board}
use Rattle.cost_bound.specs.declared.allowance.Allow.{Allow}
use Rattle.cost_bound.specs.Allowance.{CheckedProgram, IsAllowed, bound_of}
use Rattle.source_values.specs.Runs.{State}
use Rattle.war_analysis.specs.PlanValue.{TaskPlanValue}
use Rattle.linked_code.specs.Rooms.{PrivatesAreCounted}
use Rattle.memory_map.specs.declared.runtime.Logging.{Logging}
use Rattle.memory_map.specs.declared.runtime.Logging.TheVariants.{Redo, Undo}
use Rattle.memory_map.specs.declared.words.RuntimeWord.TheVariants.{ListLength, EmitCount}
use Rattle.memory_map.specs.MemoryMap.{MemoryMap, word_place}
use Rattle.privatise.specs.Layouts.{IsLayoutFor, IsLayout}
use Rattle.crash_rules.specs.Model.{bound}
use Rattle.crash_rules.specs.Runs.{Program}
use Rattle.crash_rules.specs.Laws.{Origin}
use Rattle.run_charges.specs.View.{outside_of}
use Rattle.run_charges.specs.Laws.{IsRunOfWords}
use Rattle.memory_map.specs.Laws.{AreApart}
use Rattle.compiled_model.specs.Parts.{compiled_model}
use Rattle.compiled_model.specs.Needs.{CostsAreWithin, LoggedCostsAreWithin, AttemptsStore}
use Rattle.task_needs.specs.Lists.{NeedsAreWithin, with_needs}
use Rattle.model_runs.specs.Bears.{BearsModel}
use Rattle.compiled_bounds.specs.Capacities.{KeepsCapacities}

-- the bound of a compiled source is that of its allowance
abbrev pub BoundIsTheSources : Type 0
BoundIsTheSources = (p : CheckedProgram) (l : MemoryMap) → bound (compiled_model p l) ≡ bound_of p

-- each task of a source that costs no more than it may keeps to its part of the bound, from a boot up to the end of its commit: where no
-- task's private scalars have more words than its allowance counts. Each pending commit keeps to the bound, whichever task it's of
abbrev pub TasksKeepToTheBound : Type 0
TasksKeepToTheBound = (p : CheckedProgram) (allow : Allow) (plans : List TaskPlanValue) (l : MemoryMap) → IsAllowed p allow → PrivatesAreCounted p l
    → IsLayout p allow plans l → CostsAreWithin p l

-- so under undo, with the recovery of all that the task may list
abbrev pub LoggedTasksKeepToTheBound : Type 0
LoggedTasksKeepToTheBound = (p : CheckedProgram) (allow : Allow) (plans : List TaskPlanValue) (l : MemoryMap) → IsAllowed p allow → PrivatesAreCounted p l
    → IsLayoutFor Undo p allow plans l → LoggedCostsAreWithin p l

-- and its part has the cycles of what the task needs beside its code, under each runtime, so that it needs no more than its part
abbrev pub TableCoversNeeds : Type 0
TableCoversNeeds = (logging : Logging) (p : CheckedProgram) (allow : Allow) (plans : List TaskPlanValue) (l : MemoryMap) → IsAllowed p allow
    → PrivatesAreCounted p l → IsLayoutFor logging p allow plans l → NeedsAreWithin logging p l

-- each task keeps to its part under a runtime
abbrev pub CostsFor : Logging → CheckedProgram → MemoryMap → Type 0
CostsFor Redo = CostsAreWithin
CostsFor Undo = LoggedCostsAreWithin

-- the bound of the needs is within it too, with a commit that was pending at the start
abbrev pub NeedsKeepToTheBound : Type 0
NeedsKeepToTheBound = (p : CheckedProgram) (l : MemoryMap) → 0 < length p.tasks → CostsFor l.runtime.logging p l → NeedsAreWithin l.runtime.logging p l
    → bound (with_needs p l (compiled_model p l)) ≤ bound_of p

-- a store to CLN or EN is within the capacity
pub record CountsFit (l : MemoryMap) (a w : ℕ) : Type 0 where
  pub list : a ≡ word_place l ListLength → w ≤ l.entries
  pub emits : a ≡ word_place l EmitCount → w ≤ l.emits.words

-- each attempt stores so
abbrev pub AttemptsFit : CheckedProgram → MemoryMap → Type 0
AttemptsFit p l = AttemptsStore (compiled_model p l) (CountsFit l)

-- at each board of a run the capacities are kept, where they are at first
abbrev pub CapacitiesAreKept : Program → Type 0
CapacitiesAreKept c = (p : CheckedProgram) (l : MemoryMap) → AreApart l → AttemptsFit p l
    → (readings : List ℕ) (origin : Origin State) (x : World) (cs : List BoardCharge) (b : BoardValue) (r : RunOutcome)
    → IsRunOfWords cs b r → BearsModel (compiled_model p l) c readings origin x b → KeepsCapacities l x.fram
    → (ms rest : List Moment) → r.moments ≡ ms ++ rest → KeepsCapacities l (outside_of (last_board b ms)).fram
