-- The code of a compiled source: boot, commit, and tasks with the functions that they reach, as one list of instructions, which stands at the boot's
-- place.
use Rattle.std.specs.Prelude.{◌≡◌, ℕ, ◌+◌, ◌*◌, ◌<◌, ◌≤◌, Bool, List, [], ◌∷◌, ◌++◌, length, All, Some, slice_get}
use Rattle.boot_runtime.specs.msp_isa.declared.instructions.Instr.{Instr}
use Rattle.boot_runtime.specs.code_forms.Forms.{Form}
use Rattle.boot_runtime.specs.code_forms.Placed.{placed, instructions}
use Rattle.boot_runtime.specs.machine_effects.Machine.{Code}
use Rattle.word_code.specs.array_versions.Program.{Step, Test, Program, truth, choose, repeat, call, holds, compares, both, either, fails, nothing, step}
use Rattle.word_code.specs.array_versions.TaskPrograms.{TaskPrograms, program_at}
use Rattle.word_code.specs.array_versions.Form.{IsWhole, OfWords}
use Rattle.word_code.specs.array_versions.Cost.{words_of}
use Rattle.word_code.specs.Code.{code_of, routine_code}
use Rattle.boot_runtime.specs.memory_map.declared.place.RoutinePlace.{RoutinePlace}
use Rattle.boot_runtime.specs.memory_map.declared.runtime.Logging.{Logging}
use Rattle.boot_runtime.specs.memory_map.declared.runtime.Logging.TheVariants.{Redo, Undo}
use Rattle.boot_runtime.specs.memory_map.MemoryMap.{MemoryMap, TaskPlace}
use Rattle.boot_runtime.specs.memory_map.Places.{end_of, IsLaidOut}
use Rattle.boot_runtime.specs.runtime_code.Addresses.{start_address}
use Rattle.boot_runtime.specs.Entries.{task_entries}
use Rattle.boot_runtime.specs.Listing.{boot_forms, boot_bytes}
use Rattle.commit_runtime.specs.Listing.{commit_forms, commit_bytes}
use Rattle.undo_runtime.specs.Entries.{logged_tasks, FitsList}
use Rattle.undo_runtime.specs.Listing.{boot_forms as logged_boot, boot_bytes as logged_boot_bytes, start_place, undo_commit_forms}
use Rattle.undo_runtime.specs.Listing.{commit_bytes as logged_commit_bytes}
use Rattle.linked_code.specs.Parts.{CodePart, chained}

-- ---- what a runtime chooses, by how it logs

-- the boot, with the start of an attempt
abbrev pub boot_code : Logging → MemoryMap → List Form
boot_code Redo l = boot_forms l l.commit.address (task_entries l) l.boot.address
boot_code Undo l = logged_boot l l.commit.address (logged_tasks l) l.boot.address

-- its bytes
abbrev pub bytes_of_boot : Logging → MemoryMap → ℕ
bytes_of_boot Redo l = boot_bytes l (task_entries l)
bytes_of_boot Undo l = logged_boot_bytes l (logged_tasks l)

-- where an attempt starts: behind the look at GATE, and behind the recovery where there is one
abbrev pub start_by : Logging → MemoryMap → ℕ
start_by Redo l = start_address l.runtime.events l.boot.address
start_by Undo l = start_place l.runtime.events l.boot.address

-- the commit
abbrev pub commit_code : Logging → MemoryMap → List Form
commit_code Redo l = commit_forms l (start_by Redo l)
commit_code Undo l = undo_commit_forms l (start_by Undo l)

-- its bytes, by whether there are events
abbrev pub bytes_of_commit : Logging → Bool → ℕ
bytes_of_commit Redo events = commit_bytes events
bytes_of_commit Undo events = logged_commit_bytes events

-- what starts need of the list: under undo room for the words of each task's private scalars
abbrev pub StartsFit : Logging → MemoryMap → Type 0
StartsFit Redo l = Unit {0}
StartsFit Undo l = All (FitsList l) l.tasks

-- ---- the parts

-- the boot, with the start of an attempt
abbrev pub boot_part : MemoryMap → CodePart
boot_part l = record { address = l.boot.address; forms = boot_code l.runtime.logging l }

-- where an attempt starts
abbrev pub attempt_start : MemoryMap → ℕ
attempt_start l = start_by l.runtime.logging l

-- the commit
abbrev pub commit_part : MemoryMap → CodePart
commit_part l = record { address = l.commit.address; forms = commit_code l.runtime.logging l }

-- a task's own code
abbrev pub task_part : TaskPlace → Program → CodePart
task_part t p = record { address = t.code.address; forms = code_of p }

-- the code of a function in a task
abbrev pub routine_part : RoutinePlace → Program → CodePart
routine_part r p = record { address = r.code.address; forms = routine_code p }

-- the code of functions, each with its program
abbrev pub routine_parts : List RoutinePlace → List Program → List CodePart
routine_parts [] programs = []
routine_parts (r ∷ rs) [] = []
routine_parts (r ∷ rs) (p ∷ ps) = routine_part r p ∷ routine_parts rs ps

-- a task's own code, and behind it that of the functions that it reaches
abbrev pub parts_of_task : TaskPlace → TaskPrograms → List CodePart
parts_of_task t p = task_part t p.own ∷ routine_parts t.routines p.routines

-- the code of tasks, each with its programs
abbrev pub task_parts : List TaskPlace → List TaskPrograms → List CodePart
task_parts [] programs = []
task_parts (t ∷ ts) [] = []
task_parts (t ∷ ts) (p ∷ ps) = parts_of_task t p ++ task_parts ts ps

-- all parts
abbrev pub code_parts : MemoryMap → List TaskPrograms → List CodePart
code_parts l programs = boot_part l ∷ commit_part l ∷ task_parts l.tasks programs

-- the whole code as forms
abbrev pub linked_forms : MemoryMap → List TaskPrograms → List Form
linked_forms l programs = chained l.boot.address (code_parts l programs)

-- the whole code
abbrev pub linked : MemoryMap → List TaskPrograms → List Instr
linked l programs = instructions (linked_forms l programs)

-- as it stands in FRAM: where there are events a handler may run between any two of its instructions
abbrev pub linked_code : MemoryMap → List TaskPrograms → Code
linked_code l programs = placed l.runtime.events l.boot.address (linked l programs)

-- ---- what code needs of its layout

-- each function's program has its room
abbrev pub RoutinesFit : List RoutinePlace → List Program → Type 0
RoutinesFit [] [] = Unit {0}
RoutinesFit [] (p ∷ ps) = ⊥
RoutinesFit (r ∷ rs) [] = ⊥
RoutinesFit (r ∷ rs) (p ∷ ps) = (words_of p ≤ r.code.words) × RoutinesFit rs ps

-- a program is that of the function whose code stands at an address
pub record IsRoutineAt (rs : List RoutinePlace) (programs : List Program) (address : ℕ) (program : Program) : Type 0 where
  pub number : ℕ
  pub place : RoutinePlace
  pub at : slice_get rs number ≡ Some place
  pub is : slice_get programs number ≡ Some program
  pub address_is : address ≡ place.code.address

abbrev mutual
  -- each call of a step, and of what it calls, is of the code of one of these functions, and has its program
  pub StepCallsAmong : List RoutinePlace → List Program → Step → Type 0
  StepCallsAmong rs ps (truth t) = TestCallsAmong rs ps t
  StepCallsAmong rs ps (choose t taken otherwise) = TestCallsAmong rs ps t × CallsAmong rs ps taken × CallsAmong rs ps otherwise
  StepCallsAmong rs ps (repeat n from below body) = CallsAmong rs ps body
  StepCallsAmong rs ps (call entry frame first count body) = IsRoutineAt rs ps entry body × CallsAmong rs ps body
  StepCallsAmong rs ps _ = Unit {0}

  -- the same of a test
  pub TestCallsAmong : List RoutinePlace → List Program → Test → Type 0
  TestCallsAmong rs ps (holds p) = CallsAmong rs ps p
  TestCallsAmong rs ps (compares op p) = CallsAmong rs ps p
  TestCallsAmong rs ps (both t u) = TestCallsAmong rs ps t × TestCallsAmong rs ps u
  TestCallsAmong rs ps (either t u) = TestCallsAmong rs ps t × TestCallsAmong rs ps u
  TestCallsAmong rs ps (fails t) = TestCallsAmong rs ps t

  -- the same of each step of a program
  pub CallsAmong : List RoutinePlace → List Program → Program → Type 0
  CallsAmong rs ps nothing = Unit {0}
  CallsAmong rs ps (step first more) = StepCallsAmong rs ps first × CallsAmong rs ps more

-- each program has the room that its task has, and so has that of each function; its calls are of these functions
pub record TaskFits (t : TaskPlace) (p : TaskPrograms) : Type 0 where
  pub own : words_of p.own ≤ t.code.words
  pub routines : RoutinesFit t.routines p.routines
  pub calls : CallsAmong t.routines p.routines p.own

abbrev pub ProgramsFit : List TaskPlace → List TaskPrograms → Type 0
ProgramsFit [] [] = Unit {0}
ProgramsFit [] (p ∷ ps) = ⊥
ProgramsFit (t ∷ ts) [] = ⊥
ProgramsFit (t ∷ ts) (p ∷ ps) = TaskFits t p × ProgramsFit ts ps

-- the code has its room in the layout, and behind it there is room for an instruction
pub record CodeFits (l : MemoryMap) (programs : List TaskPrograms) : Type 0 where
  pub rules : IsLaidOut l
  pub boot : bytes_of_boot l.runtime.logging l ≤ 2 * l.boot.words
  pub commit : bytes_of_commit l.runtime.logging l.runtime.events ≤ 2 * l.commit.words
  pub starts : StartsFit l.runtime.logging l
  pub tasks : ProgramsFit l.tasks programs
  pub high : end_of l.code + 6 ≤ 0x10000

-- of each program code can be made
pub record ProgramsAreWhole (programs : List TaskPrograms) : Type 0 where
  pub whole : (k : ℕ) → k < length programs → IsWhole (program_at programs k)
  pub of_words : (k : ℕ) → k < length programs → OfWords (program_at programs k)
