-- Machines under watch, and parts of code.
use Rattle.std.specs.Prelude.{◌≡◌, ℕ, List, [], Bool, if◌then◌else◌, Option, Some, None}
use Rattle.machine_effects.specs.msp_isa.declared.instructions.Instr.{Instr}
use Rattle.machine_effects.specs.msp_step.Registers.{Registers}
use Rattle.machine_effects.specs.Going.{Stops}
use Rattle.machine_effects.specs.Machine.{Code, MachineBoard, MachineOutcome, astray}

-- a machine that goes astray where this isn't so of its registers
abbrev pub watched : (Registers → Bool) → (MachineBoard → MachineOutcome) → MachineBoard → MachineOutcome
watched may step s = if may s.registers then step s else Stops [] 0 (astray s)

-- code is a part of other code: its instructions stand there too
pub record IsPart (part whole : Code) : Type 0 where
  pub at : (a : ℕ) (i : Instr) → part.at a ≡ Some i → whole.at a ≡ Some i
  pub events : part.events ≡ whole.events

-- the part of code that stands at such addresses
abbrev pub only_at : (ℕ → Bool) → Code → Code
only_at there code = record { at = λ a. if there a then code.at a else None; events = code.events }
