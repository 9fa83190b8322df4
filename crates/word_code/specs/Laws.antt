-- What the code of a word program does.
use Rattle.std.specs.Prelude.{◌≡◌, ℕ, suc, ◌*◌, ◌%◌, ◌<◌, ◌≤◌, Bool, true, List, length}
use Rattle.array_versions.specs.fram_board.Effects.{Effect}
use Rattle.array_versions.specs.machine_effects.World.{IsPrefix}
use Rattle.array_versions.specs.machine_effects.Inputs.{InputsAreWords}
use Rattle.array_versions.specs.machine_effects.Going.{going}
use Rattle.array_versions.specs.machine_effects.Machine.{Code, MachineStretch, exec}
use Rattle.array_versions.specs.machine_effects.address_space.Limits.{stack_top}
use Rattle.code_forms.specs.Forms.{Core, board_of, IsKept}
use Rattle.code_forms.specs.Code.{KeptCode, rules_of, anywhere, Stands, IsTidy, RunsWithin, StarvesWithin, Runs, Starves, forms_bytes}
use Rattle.code_forms.specs.Laws.{StepsReadFromSp, StepsKeepTheStack}
use Rattle.code_forms.specs.Placed.{words_of as instruction_words, instructions, AreInstructions}
use Rattle.array_versions.specs.Program.{Step, Test, Program, truth, choose, repeat, call, holds, compares, both, either, fails, nothing, step}
use Rattle.array_versions.specs.Behaviour.{WordState, started, End, GoesOn, Jumps, Gives, Short, Strays, Broken, behaviour}
use Rattle.array_versions.specs.Form.{IsWhole, OfWords}
use Rattle.array_versions.specs.Cost.{words_of}
use Rattle.word_code.specs.Code.{routine_code, code_of, code_spent}

-- the machine at the entry of a program's code: the stack is empty, FRAM and the inputs are words
pub record IsEntry (at : ℕ) (u : Core) : Type 0 where
  pub pc : u.pc ≡ at
  pub sp : u.sp ≡ stack_top
  pub fram : (a : ℕ) → u.fram a < 0x10000
  pub inputs : InputsAreWords u.inputs

-- the machine behind a jump: FRAM and the inputs left are the program's
pub record HasJumped (to : ℕ) (s : WordState) (u : Core) : Type 0 where
  pub pc : u.pc ≡ to
  pub fram : u.fram ≡ s.fram
  pub inputs : u.inputs ≡ s.inputs

-- the code from here makes these effects within so many cycles, keeps SP between its addresses, and comes to such an end. Nothing is said where an
-- address isn't that of a word of FRAM
abbrev pub ComesToWithin : KeptCode → ℕ → Core → List Effect → End → Type 0
ComesToWithin kept most u es (Jumps to s) = RunsWithin kept es most u (HasJumped to s)
ComesToWithin kept most u es Short = StarvesWithin kept es most u
ComesToWithin kept most u es Strays = Unit {0}
ComesToWithin kept most u es (GoesOn s) = ⊥
ComesToWithin kept most u es (Gives v s) = ⊥
ComesToWithin kept most u es Broken = ⊥

-- the same of code of which it isn't said where SP stays
abbrev pub ComesTo : Code → ℕ → Core → List Effect → End → Type 0
ComesTo code = ComesToWithin (anywhere code)

-- between the addresses of code there is room for the stack of a program and those of what it calls
pub record KeepsWithin (kept : KeptCode) (p : Program) (whole : IsWhole p) : Type 0 where
  pub low : kept.low ≤ whole.bounds.floor
  pub high : stack_top ≤ kept.high

abbrev mutual
  -- each function that a step calls has the code of its body where the call says, and so have those that it calls
  pub StepRoutinesStand : Code → Step → Type 0
  StepRoutinesStand code (truth t) = TestRoutinesStand code t
  StepRoutinesStand code (choose t taken otherwise) = TestRoutinesStand code t × RoutinesStand code taken × RoutinesStand code otherwise
  StepRoutinesStand code (repeat n from below body) = RoutinesStand code body
  StepRoutinesStand code (call entry frame first count body) = (entry % 2 ≡ 0) × Stands code entry (routine_code body) × RoutinesStand code body
  StepRoutinesStand code _ = Unit {0}

  -- the same of a test
  pub TestRoutinesStand : Code → Test → Type 0
  TestRoutinesStand code (holds p) = RoutinesStand code p
  TestRoutinesStand code (compares op p) = RoutinesStand code p
  TestRoutinesStand code (both t u) = TestRoutinesStand code t × TestRoutinesStand code u
  TestRoutinesStand code (either t u) = TestRoutinesStand code t × TestRoutinesStand code u
  TestRoutinesStand code (fails t) = TestRoutinesStand code t

  -- the same of each step of a program
  pub RoutinesStand : Code → Program → Type 0
  RoutinesStand code nothing = Unit {0}
  RoutinesStand code (step first more) = StepRoutinesStand code first × RoutinesStand code more

-- code in which the code of a whole program stands, and that of what it calls, does what the program does, within its cycles on the way that it takes,
-- and keeps SP where there is room for these stacks
abbrev pub CodeKeepsToTheStack : Type 0
CodeKeepsToTheStack = (kept : KeptCode) (at : ℕ) (p : Program) (u : Core) → IsTidy kept.code → Stands kept.code at (code_of p)
    → RoutinesStand kept.code p → (whole : IsWhole p) → KeepsWithin kept p whole → OfWords p → IsEntry at u
    → let s = started u.fram u.inputs in let b = behaviour p s in ComesToWithin kept (code_spent p s) u b.effects b.end

-- so it does what the program does wherever SP stays
abbrev pub CodeDoesAsProgram : Type 0
CodeDoesAsProgram = (code : Code) (at : ℕ) (p : Program) (u : Core) → IsTidy code → Stands code at (code_of p) → RoutinesStand code p
    → IsWhole p → OfWords p → IsEntry at u
    → let s = started u.fram u.inputs in let b = behaviour p s in ComesTo code (code_spent p s) u b.effects b.end

-- a stretch so far: its effects are a prefix of these, its cycles within so many
pub record IsWithin (most : ℕ) (es : List Effect) (r : MachineStretch) : Type 0 where
  pub effects : IsPrefix r.effects es
  pub cycles : r.cycles ≤ most

-- so is each stretch on the way to a jump
abbrev pub RunsStayWithin : Type 0
RunsStayWithin = (code : Code) (es : List Effect) (most : ℕ) (u : Core) (to : ℕ) (s : WordState) (a : Runs code es most u (HasJumped to s)) (n : ℕ)
    → n ≤ a.steps → IsWithin most es (going (exec code) n (board_of u))

-- and each stretch of code that starves
abbrev pub StarvingStaysWithin : Type 0
StarvingStaysWithin = (code : Code) (es : List Effect) (most : ℕ) (u : Core) → Starves code es most u → (n : ℕ)
    → IsWithin most es (going (exec code) n (board_of u))

-- in front of each instruction on the way to a jump no word of RAM below SP is read
abbrev pub RunsReadFromSp : Type 0
RunsReadFromSp = (code : Code) (es : List Effect) (most : ℕ) (u : Core) (to : ℕ) (s : WordState) (a : Runs code es most u (HasJumped to s))
    → StepsReadFromSp (anywhere code) a.steps u

-- nor on the way to where a reading is wanted, and there
abbrev pub StarvingReadsFromSp : Type 0
StarvingReadsFromSp = (code : Code) (es : List Effect) (most : ℕ) (u : Core) (a : Starves code es most u) → StepsReadFromSp (anywhere code) (suc a.steps) u

-- at each boundary on the way to a jump, and there, SP stands between the addresses of the code, where it does at the entry
abbrev pub RunsKeepTheStack : Type 0
RunsKeepTheStack = (kept : KeptCode) (es : List Effect) (most : ℕ) (u : Core) (to : ℕ) (s : WordState) → IsTidy kept.code → IsKept (rules_of kept) u.sp
    → (a : RunsWithin kept es most u (HasJumped to s)) → StepsKeepTheStack kept a.steps u

-- and at each on the way to where a reading is wanted
abbrev pub StarvingKeepsTheStack : Type 0
StarvingKeepsTheStack = (kept : KeptCode) (es : List Effect) (most : ℕ) (u : Core) → IsTidy kept.code → IsKept (rules_of kept) u.sp
    → (a : StarvesWithin kept es most u) → StepsKeepTheStack kept (suc a.steps) u

-- the code is at most as long as the program's words say, and so is that of a function's body
abbrev pub CodeHasItsBytes : Type 0
CodeHasItsBytes = (p : Program) → (forms_bytes (code_of p) ≤ 2 * words_of p) × (forms_bytes (routine_code p) ≤ 2 * words_of p)

-- and encoded it has at most so many words
abbrev pub CodeHasItsWords : Type 0
CodeHasItsWords = (p : Program) → (length (instruction_words (instructions (code_of p))) ≤ words_of p)
    × (length (instruction_words (instructions (routine_code p))) ≤ words_of p)

-- each of its instructions has its words
abbrev pub CodeIsInstructions : Type 0
CodeIsInstructions = (p : Program) → AreInstructions (instructions (code_of p)) × AreInstructions (instructions (routine_code p))
