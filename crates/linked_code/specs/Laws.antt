-- What holds of the code of a compiled source.
use Rattle.std.specs.Prelude.{◌≡◌, Bool, ℕ, ◌+◌, ◌*◌, ◌≤◌, List, length, Some, slice_get}
use Rattle.boot_runtime.specs.machine_effects.Machine.{Code}
use Rattle.boot_runtime.specs.code_forms.Code.{Stands, IsTidy}
use Rattle.boot_runtime.specs.code_forms.Placed.{words_of, AreInstructions}
use Rattle.word_code.specs.array_versions.Program.{Program}
use Rattle.word_code.specs.array_versions.TaskPrograms.{TaskPrograms}
use Rattle.boot_runtime.specs.memory_map.declared.place.RoutinePlace.{RoutinePlace}
use Rattle.boot_runtime.specs.memory_map.MemoryMap.{MemoryMap, TaskPlace}
use Rattle.boot_runtime.specs.memory_map.Places.{end_of}
use Rattle.boot_runtime.specs.runtime_code.Addresses.{stack_top}
use Rattle.word_code.specs.TaskForms.{EachForm, NamesRamFrom, named_from}
use Rattle.linked_code.specs.Parts.{CodePart}
use Rattle.linked_code.specs.Linked.{linked, linked_code, boot_part, commit_part, task_part, routine_part, CodeFits}

-- the code is instructions, at even addresses, and ends where the layout's code does, at the latest
pub record IsLinkedCode (l : MemoryMap) (programs : List TaskPrograms) : Type 0 where
  pub instructions : AreInstructions (linked l programs)
  pub end : l.boot.address + 2 * length (words_of (linked l programs)) ≤ end_of l.code
  pub tidy : IsTidy (linked_code l programs)

-- code that fits its places is code of its size, each instruction one that there is
abbrev pub LinkedIsCode : Type 0
LinkedIsCode = (l : MemoryMap) (programs : List TaskPrograms) → CodeFits l programs → IsLinkedCode l programs

-- a part stands at its place
abbrev pub PartStands : Code → CodePart → Type 0
PartStands code part = Stands code part.address part.forms

-- the code of a task and that of each function that it reaches stand at their places
pub record TaskStands (code : Code) (t : TaskPlace) (p : TaskPrograms) : Type 0 where
  pub own : PartStands code (task_part t p.own)
  pub routines : (k : ℕ) (r : RoutinePlace) (q : Program) → slice_get t.routines k ≡ Some r → slice_get p.routines k ≡ Some q
      → PartStands code (routine_part r q)

-- boot, commit and each task's code stand at their places
pub record PartsStand (l : MemoryMap) (programs : List TaskPrograms) (code : Code) : Type 0 where
  pub boot : PartStands code (boot_part l)
  pub commit : PartStands code (commit_part l)
  pub tasks : (k : ℕ) (t : TaskPlace) (p : TaskPrograms) → slice_get l.tasks k ≡ Some t → slice_get programs k ≡ Some p
      → TaskStands code t p

-- each of its parts stands where the memory map has it
abbrev pub LinkedStands : Type 0
LinkedStands = (l : MemoryMap) (programs : List TaskPrograms) → CodeFits l programs → PartsStand l programs (linked_code l programs)

-- No part of the code names a word of RAM below where its stack begins: boot and commit, which have none, name no word of RAM at all, and the code of a
-- task or of a function none below its locals and those of the functions that it calls. A word of RAM that is read else is at SP
pub record PartsKeepAbove (l : MemoryMap) (programs : List TaskPrograms) : Type 0 where
  pub boot : EachForm (NamesRamFrom stack_top) (boot_part l).forms
  pub commit : EachForm (NamesRamFrom stack_top) (commit_part l).forms
  pub tasks : (k : ℕ) (t : TaskPlace) (p : TaskPrograms) → slice_get l.tasks k ≡ Some t → slice_get programs k ≡ Some p
      → EachForm (NamesRamFrom (named_from p.own)) (task_part t p.own).forms
  pub routines : (k j : ℕ) (p : TaskPrograms) (r : RoutinePlace) (q : Program) → slice_get programs k ≡ Some p → slice_get p.routines j ≡ Some q
      → EachForm (NamesRamFrom (named_from q)) (routine_part r q).forms

-- so it is of any programs, wherever they stand
abbrev pub LinkedKeepsAbove : Type 0
LinkedKeepsAbove = (l : MemoryMap) (programs : List TaskPrograms) → PartsKeepAbove l programs
