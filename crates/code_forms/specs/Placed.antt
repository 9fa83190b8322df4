-- Instructions one after another in FRAM.
use Rattle.std.specs.Prelude.{◌≡◌, ◌≢◌, ℕ, Bool, Option, ◌+◌, ◌*◌, ◌<◌, ◌≤◌, ◌==◌, ◌⊎◌, if◌then◌else◌, List, [], ◌∷◌, ◌++◌, length, Some, None}
use Rattle.machine_effects.specs.msp_isa.declared.instructions.Instr.{Instr}
use Rattle.machine_effects.specs.msp_isa.Encoding.{encoding, IsInstruction}
use Rattle.machine_effects.specs.msp_step.declared.machine.Stop.TheVariants as stop
use Rattle.machine_effects.specs.World.{EachStore}
use Rattle.machine_effects.specs.Going.{Halted}
use Rattle.machine_effects.specs.Machine.{Code, MachineStretch}
use Rattle.code_forms.specs.Forms.{Form, instruction_of}

-- the instruction at an address, where these stand from an address on
abbrev pub placed_at : ℕ → List Instr → ℕ → Option Instr
placed_at p [] a = None
placed_at p (i ∷ more) a = if a == p then Some i else placed_at (p + 2 * length (encoding i)) more a

-- the code that they are, which may take events or not
abbrev pub placed : Bool → ℕ → List Instr → Code
placed events p is = record { at = placed_at p is; events = events }

-- their words
abbrev pub words_of : List Instr → List ℕ
words_of [] = []
words_of (i ∷ more) = encoding i ++ words_of more

-- forms as instructions
abbrev pub instructions : List Form → List Instr
instructions [] = []
instructions (m ∷ ms) = instruction_of m ∷ instructions ms

-- these words stand in FRAM from an address on
abbrev pub Holds : (ℕ → ℕ) → ℕ → List ℕ → Type 0
Holds f p [] = Unit {0}
Holds f p (w ∷ ws) = (f p ≡ w) × Holds f (p + 2) ws

-- jumps reach no further than ten bits say
abbrev pub AreInstructions : List Instr → Type 0
AreInstructions [] = Unit {0}
AreInstructions (i ∷ more) = IsInstruction i × AreInstructions more

-- a store at this address falls on none of so many words from p on
abbrev pub IsOutside : ℕ → ℕ → ℕ → ℕ → Type 0
IsOutside p n a w = (a < p) ⊎ (p + 2 * n ≤ a)

-- no store falls on so many words from p on; it never goes astray, to where no instruction stands or to where an interrupt would be
-- accepted; and each access is served
pub record LeavesCode (p n : ℕ) (r : MachineStretch) : Type 0 where
  pub stores : EachStore (IsOutside p n) r.effects
  pub stands : (price pc word : ℕ) → r.status ≢ Halted price (stop.Illegal pc word)
  pub served : (price pc a : ℕ) → r.status ≢ Halted price (stop.Bus pc a)
