-- What the code of a task spends, and that its need has all of it.
use Rattle.std.specs.Prelude.{ℕ, ◌+◌, ◌<◌, ◌≤◌, true, List, length}
use Rattle.cost_bound.specs.Summaries.{summaries}
use Rattle.alp_words.specs.Words.{HoldsWords}
use Rattle.machine_effects.specs.Inputs.{Inputs, InputsAreWords}
use Rattle.code_forms.specs.Forms.{Core}
use Rattle.cost_bound.specs.Allowance.{list_of}
use Rattle.cost_bound.specs.Counts.{emits_of}
use Rattle.source_values.specs.Runs.{CheckedProgram, task_body}
use Rattle.array_versions.specs.TaskPrograms.{TaskPrograms, program_at}
use Rattle.array_versions.specs.Behaviour.{behaviour, started}
use Rattle.code_costs.specs.Dearest.{most_spent}
use Rattle.memory_map.specs.declared.runtime.Logging.{Logging}
use Rattle.memory_map.specs.declared.runtime.Logging.TheVariants.{Redo, Undo}
use Rattle.memory_map.specs.MemoryMap.{MemoryMap, with_events}
use Rattle.runtime_code.specs.Addresses.{stack_top}
use Rattle.runtime_code.specs.Comes.{Enters}
use Rattle.boot_runtime.specs.Entries.{task_entries}
use Rattle.boot_runtime.specs.Listing.{entry_at, privates_in, start_cycles}
use Rattle.commit_runtime.specs.Listing.{commit_cycles}
use Rattle.undo_runtime.specs.Listing.{recovery_cycles, start_cycles as logged_start, commit_cycles as logged_commit}
use Rattle.crash_rules.specs.Model.{bound}
use Rattle.compiled_model.specs.Parts.{private_homes, compiled_model}
use Rattle.compiled_model.specs.Needs.{boot_cycles}
use Rattle.linked_code.specs.Linked.{CodeFits, ProgramsAreWhole}
use Rattle.linked_code.specs.Watch.{HasStack, StackedTo}
use Rattle.task_needs.specs.Needs.{own_entries, own_words, path_need, need_under}
use Rattle.task_needs.specs.Lists.{with_needs}

-- where a task of linked code is entered, its code does as its word program within the cycles of its dearest way, and keeps SP in its stack
abbrev pub TasksKeepToTheirWays : Type 0
TasksKeepToTheirWays = (l : MemoryMap) (programs : List TaskPrograms) → CodeFits l programs → (whole : ProgramsAreWhole programs)
    → (lows : List ℕ) (k : ℕ) (named : k < length programs) → HasStack l programs whole lows k named → (v : Core) (g : ℕ → ℕ) (inputs : Inputs)
    → Enters (entry_at (task_entries l) k).code stack_top g inputs v → HoldsWords g → InputsAreWords inputs
    → let b = behaviour (program_at programs k) (started g inputs) in
    StackedTo l programs lows (most_spent (program_at programs k)) v b.effects b.end

-- an attempt from a power-up on that spends so much on its code, under a runtime: a boot, under undo with the entries put back that an attempt of the task left
-- which was cut, as many as its list may have; a start that clears the version words, and copies or lists the task's private scalars; and a commit of all that
-- the task lists and emits
abbrev pub attempt_cycles : Logging → CheckedProgram → MemoryMap → ℕ → ℕ → ℕ
attempt_cycles Redo p l t spent =
    with_events l.runtime.events 3 + 6 + start_cycles l.runtime.events true l.versions.words (length (privates_in (task_entries l) t)) + spent
    + commit_cycles l.runtime.events (own_entries p l t) (own_words p l t) (emits_of (summaries p) (task_body p t))
attempt_cycles Undo p l t spent =
    with_events l.runtime.events 3 + 6 + recovery_cycles (list_of (summaries p) p.shared (task_body p t))
    + logged_start l.runtime.events true l.versions.words (length (private_homes l t)) + spent
    + logged_commit l.runtime.events (emits_of (summaries p) (task_body p t))

-- a need has these cycles, as far as its path goes
abbrev pub AttemptsAreCounted : Type 0
AttemptsAreCounted = (logging : Logging) (p : CheckedProgram) (l : MemoryMap) (t spent : ℕ) → spent ≤ path_need logging p l t
    → attempt_cycles logging p l t spent ≤ need_under logging p l t

-- a commit that a task decided, under a runtime
abbrev pub decided_cycles : Logging → CheckedProgram → MemoryMap → ℕ → ℕ
decided_cycles Redo p l t = commit_cycles l.runtime.events (own_entries p l t) (own_words p l t) (emits_of (summaries p) (task_body p t))
decided_cycles Undo p l t = logged_commit l.runtime.events (emits_of (summaries p) (task_body p t))

-- and those of a boot that finds this commit pending
abbrev pub OwnCommitsAreCounted : Type 0
OwnCommitsAreCounted = (logging : Logging) (p : CheckedProgram) (l : MemoryMap) (t : ℕ)
    → boot_cycles l + decided_cycles logging p l t ≤ need_under logging p l t

-- a commit of a full list and a full buffer, under a runtime
abbrev pub full_cycles : Logging → MemoryMap → ℕ
full_cycles Redo l = commit_cycles l.runtime.events l.entries l.entries l.emits.words
full_cycles Undo l = logged_commit l.runtime.events l.emits.words

-- the greatest of the needs has those of a boot that finds a commit pending of whatever tasks, where it is one of the costs
abbrev pub PendingCommitsAreCounted : Type 0
PendingCommitsAreCounted = (p : CheckedProgram) (l : MemoryMap)
    → boot_cycles l + full_cycles l.runtime.logging l ≤ bound (with_needs p l (compiled_model p l))
