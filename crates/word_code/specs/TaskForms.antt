-- Of which forms the code of tasks and functions is made: it names no word of RAM below the lowest of its locals and of the frames of what it calls, and
-- reads and writes RAM else on the stack alone.
use Rattle.std.specs.Prelude.{ℕ, ◌+◌, ◌-◌, ◌/◌, ◌≤◌, max, Bool, List, [], ◌∷◌, Option, Some, None}
use Rattle.array_versions.specs.machine_effects.address_space.Limits.{stack_top}
use Rattle.code_forms.specs.Forms.{Source, Ram, Pointed, PointedNext, Target, ToRam, ToOutnum, ToOutdata, Form, Move, Calculate, Compare, Update, Push}
use Rattle.code_forms.specs.Forms.{SetStack, BranchIndexed, SkipBy}
use Rattle.array_versions.specs.Program.{Step, Test, Program, local, set_local, update_local, truth, choose, repeat, call, holds, compares, both, either}
use Rattle.array_versions.specs.Program.{fails, nothing, step}
use Rattle.word_code.specs.Code.{stack_base, routine_code, code_of}

-- below this number are locals whose words of RAM stand at an address or above it
abbrev pub locals_down_to : ℕ → ℕ
locals_down_to a = 8 + (stack_top + 1 - a) / 2

-- the same of the locals that a call names: the parameters of a function with locals in RAM, and its frame
abbrev pub call_named : Option ℕ → (first count : ℕ) → ℕ
call_named None first count = 0
call_named (Some f) first count = max (first + count) (locals_down_to f)

abbrev mutual
  -- each local that the code of a step names is below this number
  pub step_named : Step → ℕ
  step_named (local n) = n + 1
  step_named (set_local n) = n + 1
  step_named (update_local op n) = n + 1
  step_named (truth t) = test_named t
  step_named (choose t taken otherwise) = max (test_named t) (max (named_of taken) (named_of otherwise))
  step_named (repeat n from below body) = max (n + 1) (named_of body)
  step_named (call entry frame first count body) = call_named frame first count
  step_named _ = 0

  -- the same of a test
  pub test_named : Test → ℕ
  test_named (holds p) = named_of p
  test_named (compares op p) = named_of p
  test_named (both t u) = max (test_named t) (test_named u)
  test_named (either t u) = max (test_named t) (test_named u)
  test_named (fails t) = test_named t

  -- the same of a program; without calls of functions with locals in RAM these are its own locals
  pub named_of : Program → ℕ
  named_of nothing = 0
  named_of (step first more) = max (step_named first) (named_of more)

-- the lowest word of RAM that the code of a program names
abbrev pub named_from : Program → ℕ
named_from p = stack_base (named_of p)

-- a fact of each form of code
abbrev pub EachForm : (Form → Type 0) → List Form → Type 0
EachForm F [] = Unit {0}
EachForm F (m ∷ ms) = F m × EachForm F ms

-- a source names no word of RAM below an address
abbrev pub SourceFrom : ℕ → Source → Type 0
SourceFrom low (Ram a) = low ≤ a
SourceFrom low _ = Unit {0}

-- a target names none
abbrev pub TargetFrom : ℕ → Target → Type 0
TargetFrom low (ToRam a) = low ≤ a
TargetFrom low _ = Unit {0}

-- a form names none, and sets SP no lower
abbrev pub NamesRamFrom : ℕ → Form → Type 0
NamesRamFrom low (Move x y) = SourceFrom low x × TargetFrom low y
NamesRamFrom low (Calculate op x b) = SourceFrom low x
NamesRamFrom low (Compare x a) = SourceFrom low x
NamesRamFrom low (Update op x a) = SourceFrom low x
NamesRamFrom low (Push x) = SourceFrom low x
NamesRamFrom low (SetStack n) = low ≤ n
NamesRamFrom low _ = Unit {0}

-- a source of a task's code whose locals stand from an address on: it names no word of RAM below that, and takes no address from a register but with
-- an offset, or in the stack
abbrev pub IsTaskSource : ℕ → Source → Type 0
IsTaskSource low (Ram a) = low ≤ a
IsTaskSource low (Pointed b) = ⊥
IsTaskSource low (PointedNext b) = ⊥
IsTaskSource low _ = Unit {0}

-- a target of it: it is no port, and no word of RAM below that address
abbrev pub IsTaskTarget : ℕ → Target → Type 0
IsTaskTarget low (ToRam a) = low ≤ a
IsTaskTarget low ToOutnum = ⊥
IsTaskTarget low ToOutdata = ⊥
IsTaskTarget low _ = Unit {0}

-- a form of it: it sets SP no lower, and goes nowhere by a register
abbrev pub IsTaskForm : ℕ → Form → Type 0
IsTaskForm low (Move x y) = IsTaskSource low x × IsTaskTarget low y
IsTaskForm low (Calculate op x b) = IsTaskSource low x
IsTaskForm low (Compare x a) = IsTaskSource low x
IsTaskForm low (Update op x a) = IsTaskSource low x
IsTaskForm low (Push x) = IsTaskSource low x
IsTaskForm low (SetStack n) = low ≤ n
IsTaskForm low (BranchIndexed b x) = ⊥
IsTaskForm low (SkipBy b) = ⊥
IsTaskForm low _ = Unit {0}

-- the code of a program is made of such forms, and so is that of a function's body
abbrev pub CodeIsOfTaskForms : Type 0
CodeIsOfTaskForms = (p : Program)
    → EachForm (IsTaskForm (named_from p)) (code_of p) × EachForm (IsTaskForm (named_from p)) (routine_code p)

-- so neither names a word of RAM below the lowest of these
abbrev pub CodeNamesRamFrom : Type 0
CodeNamesRamFrom = (p : Program)
    → EachForm (NamesRamFrom (named_from p)) (code_of p) × EachForm (NamesRamFrom (named_from p)) (routine_code p)
