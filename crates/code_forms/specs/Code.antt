-- Code that stays, made of forms: where it stands, what straight code does and needs, and what code makes from where it is begun.
use Rattle.std.specs.Prelude.{ℕ, Bool, suc, ◌+◌, ◌-◌, ◌/◌, ◌≡◌, ◌<◌, ◌≤◌, List, [], ◌∷◌, Some}
use Rattle.machine_effects.specs.msp_isa.declared.instructions.Instr.{Instr}
use Rattle.machine_effects.specs.msp_isa.declared.instructions.Condition.{Condition}
use Rattle.machine_effects.specs.msp_step.declared.machine.Stop.{Stop}
use Rattle.machine_effects.specs.msp_step.declared.machine.Stop.TheVariants as stop
use Rattle.machine_effects.specs.fram_board.Effects.{Effect}
use Rattle.machine_effects.specs.Going.{Goes, Stops, Status, At, Halted, stretch, continued, going, Leads, Stalls}
use Rattle.machine_effects.specs.Machine.{Code, MachineBoard, exec}
use Rattle.code_forms.specs.Forms.{Core, CoreOutcome, CoreStretch, board_of, Form, Move, Calculate, Compare, Update, Push, Modify, SetStack, Sense, Jump, Skip}
use Rattle.code_forms.specs.Forms.{EnableInterrupts, Branch, BranchIndexed, SkipBy, Call, Return, KeepStack, RestoreStack, instruction_of, form_bytes}
use Rattle.code_forms.specs.Forms.{form_step, FormNeeds, CodeRules}
use Rattle.code_forms.specs.Forms.{IsCodeAddress}

-- the forms stand in the code from this address on
abbrev pub Stands : Code → ℕ → List Form → Type 0
Stands code p [] = Unit {0}
Stands code p (m ∷ ms) = (code.at p ≡ Some (instruction_of m)) × Stands code (p + form_bytes m) ms

-- their length in bytes
abbrev pub forms_bytes : List Form → ℕ
forms_bytes [] = 0
forms_bytes (m ∷ ms) = form_bytes m + forms_bytes ms

-- ---- the offsets of jumps, each by the forms that it goes over: no listing has a number in its place

-- the words of code, which are the offset of a jump over it
abbrev pub size : List Form → ℕ
size ms = forms_bytes ms / 2

-- a jump over these forms, where a condition is met
abbrev pub over : Condition → List Form → Form
over c ms = Jump c (size ms)

-- the offset, in ten bits, of a jump from behind so many words back to the first of them
abbrev pub back_by : ℕ → ℕ
back_by words = 0x3FF - words

-- from behind these forms
abbrev pub back_over : List Form → ℕ
back_over ms = back_by (size ms)

-- ---- what code does

-- no jump, no skip, no branch, no call and no return
abbrev pub IsStraight : Form → Type 0
IsStraight (Jump c offset) = ⊥
IsStraight (Skip n) = ⊥
IsStraight (Branch a) = ⊥
IsStraight (BranchIndexed b x) = ⊥
IsStraight (SkipBy b) = ⊥
IsStraight (Call a) = ⊥
IsStraight Return = ⊥
IsStraight (Move x y) = Unit {0}
IsStraight (Calculate op x b) = Unit {0}
IsStraight (Compare x a) = Unit {0}
IsStraight (Update op x a) = Unit {0}
IsStraight (Push x) = Unit {0}
IsStraight (Modify m b) = Unit {0}
IsStraight (SetStack n) = Unit {0}
IsStraight EnableInterrupts = Unit {0}
IsStraight (Sense b) = Unit {0}
IsStraight (KeepStack b) = Unit {0}
IsStraight RestoreStack = Unit {0}

-- none in any of them
abbrev pub AreStraight : List Form → Type 0
AreStraight [] = Unit {0}
AreStraight (m ∷ ms) = IsStraight m × AreStraight ms

-- what straight code does, wherever it stands
abbrev pub forms_run : List Form → Core → CoreStretch
forms_run [] u = stretch [] 0 (At u)
forms_run (m ∷ ms) u = continued (form_step m u) (forms_run ms)

-- a fact of where an outcome goes on
abbrev pub OfNext : CoreOutcome → (Core → Type 0) → Type 0
OfNext (Goes es c t) P = P t
OfNext (Stops es price e) P = Unit {0}

-- what straight code needs: each form, where it is come to
abbrev pub FormsNeed : CodeRules → List Form → Core → Type 0
FormsNeed rules [] u = Unit {0}
FormsNeed rules (m ∷ ms) u = FormNeeds rules m u × OfNext (form_step m u) (FormsNeed rules ms)

-- instructions stand at even addresses alone, with room behind them
abbrev pub IsTidy : Code → Type 0
IsTidy code = (p : ℕ) (i : Instr) → code.at p ≡ Some i → IsCodeAddress p

-- code, and the addresses between which SP stays
pub record KeptCode : Type 0 where
  pub code : Code
  pub low : ℕ
  pub high : ℕ

-- what it keeps to
abbrev pub rules_of : KeptCode → CodeRules
rules_of kept = record { events = kept.code.events; low = kept.low; high = kept.high }

-- code of which it isn't said where SP stays
abbrev pub anywhere : Code → KeptCode
anywhere code = record { code = code; low = 0; high = 0x10000 }

-- a machine that stands at a form, which has what it needs
pub record IsAtKept (kept : KeptCode) (s : MachineBoard) : Type 0 where
  pub form : Form
  pub core : Core
  pub is : s ≡ board_of core
  pub stands : kept.code.at core.pc ≡ Some (instruction_of form)
  pub needs : FormNeeds (rules_of kept) form core

-- a fact of the machine at a status
abbrev pub OfState : Status MachineBoard Stop → (MachineBoard → Type 0) → Type 0
OfState (At s) P = P s
OfState (Halted price x) P = Unit {0}

-- in front of each of so many steps from u the machine stands at such a form
abbrev pub StepsAreKept : KeptCode → ℕ → Core → Type 0
StepsAreKept kept steps u = (n : ℕ) → n < steps → OfState (going (exec kept.code) n (board_of u)).status (IsAtKept kept)

-- from u, the code makes exactly these effects in so many steps and cycles, keeps SP between its addresses, and comes to a state with P
pub record ComesWithin (kept : KeptCode) (es : List Effect) (steps cycles : ℕ) (u : Core) (P : Core → Type 0) : Type 0 where
  pub end : Core
  pub leads : Leads (exec kept.code) steps es cycles (board_of u) (board_of end)
  pub forms : StepsAreKept kept steps u
  pub holds : P end

-- the same in some number of steps, and at most so many cycles
pub record RunsWithin (kept : KeptCode) (es : List Effect) (most : ℕ) (u : Core) (P : Core → Type 0) : Type 0 where
  pub steps : ℕ
  pub cycles : ℕ
  pub within : cycles ≤ most
  pub comes : ComesWithin kept es steps cycles u P
  pub open comes use *

-- from u, the code makes these effects, keeps SP so, and comes to an instruction that wants a reading where none is left; what was spent and
-- that instruction's price are within the bound
pub record StarvesWithin (kept : KeptCode) (es : List Effect) (most : ℕ) (u : Core) : Type 0 where
  pub steps : ℕ
  pub cycles : ℕ
  pub price : ℕ
  pub within : cycles + price ≤ most
  pub stalls : Stalls (exec kept.code) steps es cycles (board_of u) price stop.NoReading
  pub forms : StepsAreKept kept (suc steps) u

-- ---- the same of code of which it isn't said where SP stays

abbrev pub IsAtForm : Code → MachineBoard → Type 0
IsAtForm code = IsAtKept (anywhere code)

abbrev pub StepsAreForms : Code → ℕ → Core → Type 0
StepsAreForms code = StepsAreKept (anywhere code)

abbrev pub Comes : Code → List Effect → (steps cycles : ℕ) → Core → (Core → Type 0) → Type 0
Comes code = ComesWithin (anywhere code)

abbrev pub Runs : Code → List Effect → (most : ℕ) → Core → (Core → Type 0) → Type 0
Runs code = RunsWithin (anywhere code)

abbrev pub Starves : Code → List Effect → (most : ℕ) → Core → Type 0
Starves code = StarvesWithin (anywhere code)
