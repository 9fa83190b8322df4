-- What each task of a source needs of a charge under a runtime: the cycles that its linked code takes at most, from a power-up or from the end of a commit on
-- up to the end of its own commit, on every path, whatever an attempt before left to be put back.
use Rattle.std.specs.Prelude.{ℕ, ◌+◌, ◌-◌, min, Bool, true, List, [], length, Option, Some, None, slice_get}
use Rattle.cost_bound.specs.Summary.{Summary}
use Rattle.cost_bound.specs.Summaries.{summaries}
use Rattle.task_ast.specs.declared.SharedDeclaration.{SharedDeclaration}
use Rattle.cost_bound.specs.Allowance.{list_of, list_part, shared_sum}
use Rattle.cost_bound.specs.Counts.{CheckedBlock, emits_of, stores_of}
use Rattle.source_values.specs.Runs.{CheckedProgram, task_body}
use Rattle.memory_map.specs.declared.place.PrivateScalar.{PrivateScalar}
use Rattle.memory_map.specs.declared.runtime.Logging.{Logging}
use Rattle.memory_map.specs.declared.runtime.Logging.TheVariants.{Redo, Undo}
use Rattle.memory_map.specs.MemoryMap.{MemoryMap, TaskPlace, with_events}
use Rattle.memory_map.specs.Spots.{private_words}
use Rattle.lower.specs.Runs.{runs_of}
use Rattle.code_costs.specs.Dearest.{most_spent}
use Rattle.boot_runtime.specs.Listing.{start_cycles}
use Rattle.commit_runtime.specs.Listing.{commit_cycles}
use Rattle.undo_runtime.specs.Listing.{recovery_cycles, start_cycles as logged_start, commit_cycles as logged_commit}
use Rattle.compiled_model.specs.Parts.{task_program, program_parts}

-- ---- the commit

-- the private scalars of a task with its place, if there is one
abbrev pub privates_of : Option TaskPlace → List PrivateScalar
privates_of None = []
privates_of (Some t) = t.privates

-- those of a task by its number
abbrev pub own_privates : MemoryMap → ℕ → List PrivateScalar
own_privates l t = privates_of (slice_get l.tasks t)

-- how many elements statements list: of each array the counted stores, but no more than it has elements
abbrev pub elements_of : List Summary → List SharedDeclaration → CheckedBlock → ℕ
elements_of known shared code = shared_sum (λ i extent. list_part (stores_of known i code) extent) shared

-- the entries of a task's commit list: one for each run of private scalars that stand side by side, and one for each element
abbrev pub own_entries : CheckedProgram → MemoryMap → ℕ → ℕ
own_entries p l t = length (runs_of (own_privates l t)) + elements_of (summaries p) p.shared (task_body p t)

-- and the words that they name
abbrev pub own_words : CheckedProgram → MemoryMap → ℕ → ℕ
own_words p l t = private_words (own_privates l t) + elements_of (summaries p) p.shared (task_body p t)

-- ---- what a runtime takes

-- a boot, up to the start of an attempt: behind its test of GATE; under undo with the entries put back that an attempt left which was cut
abbrev pub boot_time : Logging → Bool → ℕ → ℕ
boot_time Redo events entries = with_events events 3 + 6
boot_time Undo events entries = with_events events 3 + 6 + recovery_cycles entries

-- the start of an attempt, with so many version words cleared, of a task whose private scalars have so many words: each is copied, or listed
abbrev pub start_time : Logging → Bool → ℕ → ℕ → ℕ
start_time Redo events versions privates = start_cycles events true versions privates
start_time Undo events versions privates = logged_start events true versions privates

-- a commit of so many entries, which name so many words, and of so many words that are sent: under undo nothing is brought home
abbrev pub commit_time : Logging → Bool → ℕ → ℕ → ℕ → ℕ
commit_time Redo events entries words emits = commit_cycles events entries words emits
commit_time Undo events entries words emits = logged_commit events emits

-- ---- part by part

-- What a task needs beside its own code: a boot, where an attempt of the task was cut before it may have left as many entries as the table of allowances has
-- for its list; the start of an attempt; and the commit
pub record Beside : Type 0 where
  pub boot : ℕ  -- from a power-up to the start of an attempt
  pub start : ℕ  -- to the task's own code, with the version words cleared
  pub commit : ℕ  -- from the store that decides to the end of the commit

abbrev pub beside_parts : Logging → CheckedProgram → MemoryMap → ℕ → Beside
beside_parts logging p l t = record {
  boot = boot_time logging l.runtime.events (list_of (summaries p) p.shared (task_body p t));
  start = start_time logging l.runtime.events l.versions.words (private_words (own_privates l t));
  commit = commit_time logging l.runtime.events (own_entries p l t) (own_words p l t) (emits_of (summaries p) (task_body p t));
}

-- in all
abbrev pub beside_path : Logging → CheckedProgram → MemoryMap → ℕ → ℕ
beside_path logging p l t = let b = beside_parts logging p l t in b.boot + b.start + b.commit

-- the code of a task on its dearest way, and no more than the table of allowances leaves for it
abbrev pub path_need : Logging → CheckedProgram → MemoryMap → ℕ → ℕ
path_need logging p l t = min (most_spent (task_program p l t)) ((program_parts p l).cost t - beside_path logging p l t)

pub record Need : Type 0 where
  pub boot : ℕ  -- from a power-up to the start of an attempt
  pub start : ℕ  -- to the task's own code
  pub path : ℕ  -- through this, up to the commit
  pub commit : ℕ  -- to the end of the commit

abbrev pub need_parts : Logging → CheckedProgram → MemoryMap → ℕ → Need
need_parts logging p l t =
    let b = beside_parts logging p l t in record { boot = b.boot; start = b.start; path = path_need logging p l t; commit = b.commit }

-- and in all. A boot that finds a commit of the task pending takes no more: it makes no attempt
abbrev pub need_under : Logging → CheckedProgram → MemoryMap → ℕ → ℕ
need_under logging p l t = let n = need_parts logging p l t in n.boot + n.start + n.path + n.commit

-- under the runtime that the memory map names
abbrev pub need_of : CheckedProgram → MemoryMap → ℕ → ℕ
need_of p l t = need_under l.runtime.logging p l t
