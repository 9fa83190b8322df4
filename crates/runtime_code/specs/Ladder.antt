-- The way to a task by its number: a ladder of branches, one for each task, and in front of a task for which something is done first a stub that
-- does it. What is done is any code that goes straight on.
use Rattle.std.specs.Prelude.{ℕ, ◌+◌, List, [], ◌∷◌, ◌++◌}
use Rattle.code_forms.specs.msp_isa.declared.instructions.TwoOp.TheVariants.{Add}
use Rattle.code_forms.specs.Forms.{Form, Move, Calculate, SetStack, Branch, SkipBy, R4, Register, Fram, ToRegister}
use Rattle.runtime_effects.specs.memory_map.declared.words.RuntimeWord.TheVariants.{CurrentTask}
use Rattle.runtime_effects.specs.memory_map.MemoryMap.{MemoryMap, word_place}
use Rattle.runtime_code.specs.Addresses.{stack_top}

-- SP := the end of RAM, where the stack begins, R4 := how far the task that CUR names is from the beginning of a ladder of four bytes a task
abbrev pub task_found : MemoryMap → List Form
task_found m =
    SetStack stack_top ∷ Move (Fram (word_place m CurrentTask)) (ToRegister R4)
    ∷ Calculate Add (Register R4) R4 ∷ Calculate Add (Register R4) R4 ∷ []

-- to its rung of the ladder, which stands right behind
abbrev pub dispatch : MemoryMap → List Form
dispatch m = task_found m ++ (SkipBy R4 ∷ [])

-- a task as the ladder has it: what is done in front of it, how many bytes its stub takes, and where its code stands
pub record Rung : Type 0 where
  pub body : List Form
  pub bytes : ℕ
  pub code : ℕ

-- a stub: what is done, then a branch to the task's code; where nothing is done there is none
abbrev pub stub_with : ℕ → List Form → List Form
stub_with code [] = []
stub_with code (m ∷ ms) = (m ∷ ms) ++ (Branch code ∷ [])

abbrev pub stub_of : Rung → List Form
stub_of s = stub_with s.code s.body

-- where a task's rung leads: to its stub, at an address, or right to its code where it has none
abbrev pub rung_with : ℕ → ℕ → List Form → ℕ
rung_with stub code [] = code
rung_with stub code (m ∷ ms) = stub

-- the ladder: a branch for each task, whose stubs stand one behind another from an address on
abbrev pub ladder : ℕ → List Rung → List Form
ladder p [] = []
ladder p (s ∷ ss) = Branch (rung_with p s.code s.body) ∷ ladder (p + s.bytes) ss

-- the stubs
abbrev pub all_stubs : List Rung → List Form
all_stubs [] = []
all_stubs (s ∷ ss) = stub_of s ++ all_stubs ss
