-- Laws of the forms and of code that stands in FRAM.
use Rattle.std.specs.Prelude.{◌≡◌, ◌≢◌, Bool, true, false, ℕ, ◌+◌, ◌*◌, ◌%◌, ◌<◌, ◌≤◌, List, [], length, Some}
use Rattle.machine_effects.specs.address_space.Limits.{fram_first, fram_end}
use Rattle.machine_effects.specs.msp_isa.declared.instructions.Instr.{Instr}
use Rattle.machine_effects.specs.msp_step.declared.machine.Stop.TheVariants as stop
use Rattle.machine_effects.specs.msp_step.Step.{is_interruptible}
use Rattle.machine_effects.specs.fram_board.Board.{PowerState}
use Rattle.machine_effects.specs.fram_board.Effects.{Effect}
use Rattle.machine_effects.specs.Going.{Goes, Stops, At, stretch, Leads, going}
use Rattle.machine_effects.specs.Machine.{Code, MachineBoard, MachineOutcome, IsProgramStep, exec, step_with, is_prepared, machine_powered}
use Rattle.code_forms.specs.Forms.{Core, board_of, core_of, outcome_of_core, Form, instruction_of, form_step, FormNeeds, ram_read, IsCodeAddress}
use Rattle.code_forms.specs.Forms.{CodeRules, IsKept}
use Rattle.code_forms.specs.Code.{Stands, AreStraight, forms_run, FormsNeed, IsTidy, KeptCode, rules_of, IsAtKept, OfState, StepsAreKept}
use Rattle.code_forms.specs.Placed.{placed, words_of, instructions, Holds, AreInstructions}

-- a machine that was powered up has its registers told apart
abbrev pub PoweredHasACore : Type 0
PoweredHasACore = (s : MachineBoard) (p : PowerState) → machine_powered s p ≡ board_of (core_of (machine_powered s p))

-- a form does as its instruction
abbrev pub FormsDoAsInstructions : Type 0
FormsDoAsInstructions = (rules : CodeRules) (m : Form) (u : Core) → IsCodeAddress u.pc → FormNeeds rules m u
    → step_with (Some (instruction_of m)) (board_of u) ≡ outcome_of_core (form_step m u)

-- straight code leads where its forms do
abbrev pub StraightCodeLeads : Type 0
StraightCodeLeads = (kept : KeptCode) (ms : List Form) (u t : Core) (es : List Effect) (c : ℕ)
    → IsTidy kept.code → AreStraight ms → Stands kept.code u.pc ms → FormsNeed (rules_of kept) ms u
    → forms_run ms u ≡ stretch es c (At t) → Leads (exec kept.code) (length ms) es c (board_of u) (board_of t)

-- a machine that stands at a form which reads no word of RAM below SP
pub record ReadsFromSp (kept : KeptCode) (s : MachineBoard) : Type 0 where
  pub at : IsAtKept kept s
  pub from : (a : ℕ) → ram_read at.form at.core ≡ Some a → at.core.sp ≤ a

-- in front of each of so many steps from u it does
abbrev pub StepsReadFromSp : KeptCode → ℕ → Core → Type 0
StepsReadFromSp kept steps u = (n : ℕ) → n < steps → OfState (going (exec kept.code) n (board_of u)).status (ReadsFromSp kept)

-- where it stands at forms that have what they need, it does
abbrev pub FormsReadFromSp : Type 0
FormsReadFromSp = (kept : KeptCode) (steps : ℕ) (u : Core) → StepsAreKept kept steps u → StepsReadFromSp kept steps u

-- in front of each of so many steps from u, and behind the last, SP stands between the addresses of the code
abbrev pub StepsKeepTheStack : KeptCode → ℕ → Core → Type 0
StepsKeepTheStack kept steps u = (n : ℕ) → n ≤ steps → OfState (going (exec kept.code) n (board_of u)).status (λ s. IsKept (rules_of kept) (s.registers 1))

-- where it stands at forms that have what they need it does, if it does at first
abbrev pub FormsKeepTheStack : Type 0
FormsKeepTheStack = (kept : KeptCode) (steps : ℕ) (u : Core) → IsTidy kept.code → StepsAreKept kept steps u → IsKept (rules_of kept) u.sp
    → StepsKeepTheStack kept steps u

-- forms stand where they are placed
abbrev pub FormsStandWherePlaced : Type 0
FormsStandWherePlaced = (events : Bool) (ms : List Form) (p : ℕ) → Stands (placed events p (instructions ms)) p ms

-- code that is placed is tidy
abbrev pub PlacedIsTidy : Type 0
PlacedIsTidy = (events : Bool) (is : List Instr) (p : ℕ) → p % 2 ≡ 0 → p + 2 * length (words_of is) + 6 ≤ fram_end → IsTidy (placed events p is)

-- it doesn't go astray
abbrev pub IsNoHole : MachineOutcome → Type 0
IsNoHole o = (es : List Effect) (price pc word : ℕ) → o ≢ Stops es price (stop.Illegal pc word)

-- a machine whose FRAM holds instructions steps as the code that they are, where that doesn't go astray
abbrev pub CodeInFramSteps : Type 0
CodeInFramSteps = (events : Bool) (p : ℕ) (is : List Instr) (s : MachineBoard) (o : MachineOutcome)
    → AreInstructions is → p % 2 ≡ 0 → fram_first ≤ p → p + 2 * length (words_of is) < fram_end
    → IsProgramStep s o → Holds s.fram p (words_of is) → IsNoHole (exec (placed events p is) s) → o ≡ exec (placed events p is) s

-- where code without events goes on, and the CPU accepted no interrupt before, it accepts none
abbrev pub CodeGoesUndisturbed : Type 0
CodeGoesUndisturbed = (code : Code) (s t : MachineBoard) (es : List Effect) (c : ℕ) → code.events ≡ false → exec code s ≡ Goes es c t
    → is_interruptible s.registers ≡ false → is_interruptible t.registers ≡ false

-- where code with events goes on and the CPU accepts interrupts, the machine is prepared for them
abbrev pub CodeStaysPrepared : Type 0
CodeStaysPrepared = (code : Code) (s t : MachineBoard) (es : List Effect) (c : ℕ) → code.events ≡ true → exec code s ≡ Goes es c t
    → (is_interruptible s.registers ≡ true → is_prepared s ≡ true) → is_interruptible t.registers ≡ true → is_prepared t ≡ true

-- once it accepts them it does so on
abbrev pub CodeStaysOpen : Type 0
CodeStaysOpen = (code : Code) (s t : MachineBoard) (es : List Effect) (c : ℕ) → code.events ≡ true → exec code s ≡ Goes es c t
    → is_interruptible s.registers ≡ true → is_interruptible t.registers ≡ true
