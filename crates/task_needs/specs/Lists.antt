-- That tasks list no more than what their needs have cycles for.
use Rattle.std.specs.Prelude.{◌≡◌, ℕ, suc, ◌+◌, ◌<◌, ◌≤◌, nat_lt, if◌then◌else◌, length}
use Rattle.alp_words.specs.Words.{HoldsWords}
use Rattle.machine_effects.specs.World.{World, fram_after}
use Rattle.machine_effects.specs.Inputs.{Inputs, InputsAreWords}
use Rattle.source_values.specs.Runs.{CheckedProgram, State}
use Rattle.array_versions.specs.Behaviour.{End, Jumps, Gives, GoesOn, Short, Strays, Broken, behaviour, started}
use Rattle.word_code.specs.Code.{code_spent}
use Rattle.memory_map.specs.declared.runtime.Logging.{Logging}
use Rattle.memory_map.specs.declared.runtime.Logging.TheVariants.{Redo}
use Rattle.memory_map.specs.declared.words.RuntimeWord.TheVariants.{ListLength}
use Rattle.memory_map.specs.MemoryMap.{MemoryMap, word_place}
use Rattle.runtime_effects.specs.Places.{listed}
use Rattle.crash_rules.specs.Model.{Model}
use Rattle.compiled_model.specs.Parts.{task_program, program_parts, IsStarted}
use Rattle.compiled_model.specs.Needs.{boot_cycles}
use Rattle.task_needs.specs.Needs.{own_entries, own_words, commit_time, beside_path, need_of}

-- the commit list of FRAM has no more entries, and names no more words, than a task's
pub record ListsWithin (p : CheckedProgram) (l : MemoryMap) (t : ℕ) (f : ℕ → ℕ) : Type 0 where
  pub entries : f (word_place l ListLength) ≤ own_entries p l t
  pub words : length (listed l f) ≤ own_words p l t

-- so it is where a task's program jumps to the commit
abbrev pub ListsAtEnd : CheckedProgram → MemoryMap → ℕ → (ℕ → ℕ) → End → Type 0
ListsAtEnd p l t f (Jumps to s) = ListsWithin p l t f
ListsAtEnd p l t f (GoesOn s) = Unit {0}
ListsAtEnd p l t f (Gives v s) = Unit {0}
ListsAtEnd p l t f Short = Unit {0}
ListsAtEnd p l t f Strays = Unit {0}
ListsAtEnd p l t f Broken = Unit {0}

-- from each attempt on that redo started
pub record TasksListFew (p : CheckedProgram) (l : MemoryMap) : Type 0 where
  pub few : (s : State) (x : World) (inputs : Inputs) → InputsAreWords inputs → IsStarted p l s x
      → let b = behaviour (task_program p l s.task) (started x.fram inputs) in ListsAtEnd p l s.task (fram_after b.effects x.fram) b.end

-- the table of allowances has the cycles of what each task needs beside its code under a runtime, and of its code, whatever FRAM holds and whatever the inputs
-- are
pub record NeedsAreWithin (logging : Logging) (p : CheckedProgram) (l : MemoryMap) : Type 0 where
  pub within : (t : ℕ) (fram : ℕ → ℕ) (inputs : Inputs) → t < length p.tasks → HoldsWords fram → InputsAreWords inputs
      → beside_path logging p l t + code_spent (task_program p l t) (started fram inputs) ≤ (program_parts p l).cost t

-- a boot and the commit of a full list and a full buffer, of whatever tasks
abbrev pub pending_under : Logging → MemoryMap → ℕ
pending_under logging l = boot_cycles l + commit_time logging l.runtime.events l.entries l.entries l.emits.words

-- under the runtime that the memory map names
abbrev pub pending_need : MemoryMap → ℕ
pending_need l = pending_under l.runtime.logging l

-- decided as a model has it, under redo with a list of the task's
pub record DecidedWithin (m : Model State) (p : CheckedProgram) (l : MemoryMap) (s next : State) (x : World) : Type 0 where
  pub decided : m.Decided s next x
  pub lists : l.runtime.logging ≡ Redo → ListsWithin p l s.task x.fram

-- A model of a source with its layout, and with its tasks' needs as their costs. One task more, which no state has, stands for a commit that was pending
-- at the start, of which nobody knows the task
abbrev pub with_needs : CheckedProgram → MemoryMap → Model State → Model State
with_needs p l m = record m {
  tasks = suc (length p.tasks);
  task_cost = λ t. if nat_lt t (length p.tasks) then need_of p l t else pending_need l;
  Decided = DecidedWithin m p l;
}
