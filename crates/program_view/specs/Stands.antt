-- How a board stands to its program's machine, at the program's code or in the handler, and what an instruction of the program or of the handler leaves.
use Rattle.std.specs.Prelude.{◌≡◌, ℕ, ◌%◌, ◌<◌, ◌≤◌, true, if◌then◌else◌, List, [], ◌++◌, drop, Option, Some, None}
use Rattle.event_places.specs.Places.{handler_place}
use Rattle.msp_isa.specs.declared.instructions.Instr.{Instr}
use Rattle.msp_cycles.specs.Cycles.{cycles_of}
use Rattle.msp_step.specs.Registers.{registers_of}
use Rattle.msp_step.specs.Step.{is_interruptible}
use Rattle.fram_board.specs.Board.{BoardValue, executed}
use Rattle.fram_board.specs.Run.{Action, PowerUp, Execute, Moment, accepted_by}
use Rattle.fram_board.specs.Effects.{Effect, store_at, effects_of}
use Rattle.machine_effects.specs.World.{fram_after, EachStore}
use Rattle.machine_effects.specs.Inputs.{look_effects}
use Rattle.machine_effects.specs.Machine.{MachineBoard, fram_of, ram_of, code_executed}
use Rattle.machine_effects.specs.View.{machine_with, looks_at, machine_outcome_with, IsWhole, IsOfWords}
use Rattle.event_handler.specs.Handler.{Stage, SaveR4, SaveR5, TakeEvent}
use Rattle.event_handler.specs.Boundaries.{IsInterrupted, IsInHandler, KeepsTheRest, cycles_left, instructions_left}
use Rattle.program_view.specs.View.{steady, is_handlers}

-- from where on RAM is the machine's: from SP on. Until the CPU accepts interrupts no handler ran, and all RAM is
abbrev pub shown_from : MachineBoard → ℕ
shown_from u = if is_interruptible u.registers then u.registers 1 else 0

-- what a board shows of its program's machine: all but HEAD, the ring, RAM below SP, and what the program doesn't know of RAM
pub record Shows (b : BoardValue) (u : MachineBoard) : Type 0 where
  pub registers : u.registers ≡ registers_of b.cpu
  pub fram : u.fram ≡ steady (fram_of b.fram)
  pub ram : (a w : ℕ) → shown_from u ≤ a → a % 2 ≡ 0 → u.ram a ≡ Some w → ram_of b.ram a ≡ w
  pub readings : u.inputs.readings ≡ drop b.taken b.readings
  pub outnum : u.outnum ≡ b.outnum

-- how a board stands to its program's machine: it stands at the program's code and shows it, or the handler runs, which began at a board that
-- showed it
pub data StandsAs (b : BoardValue) (u : MachineBoard) : Type 0 where
  AtCode : Shows b u → StandsAs b u
  InHandler : (from : BoardValue) (at : Stage) → Shows from u → IsInterrupted from → IsInHandler from at b → StandsAs b u

-- the cycles that the handler may still take before the program goes on, and its steps
abbrev pub cycles_due : {b : BoardValue} {u : MachineBoard} → StandsAs b u → ℕ
cycles_due (AtCode shows) = 0
cycles_due (InHandler from at shows interrupted stands) = cycles_left at

abbrev pub steps_due : {b : BoardValue} {u : MachineBoard} → StandsAs b u → ℕ
steps_due (AtCode shows) = 0
steps_due (InHandler from at shows interrupted stands) = instructions_left at

-- in front of which instruction of the handler a board stands, and the board that accepted the event; none at the program's code
abbrev pub stage_of : {b : BoardValue} {u : MachineBoard} → StandsAs b u → Option (BoardValue × Stage)
stage_of (AtCode shows) = None
stage_of (InHandler from at shows interrupted stands) = Some (from, at)

-- the same of an instruction that comes next, or of none
abbrev pub stage_behind : BoardValue → Option Stage → Option (BoardValue × Stage)
stage_behind from None = None
stage_behind from (Some at) = Some (from, at)

-- whether the event for which the handler runs waits in EVENT yet: it is taken by the third instruction
abbrev pub waiting_at : Stage → ℕ
waiting_at SaveR4 = 1
waiting_at SaveR5 = 1
waiting_at TakeEvent = 1
waiting_at _ = 0

abbrev pub waiting : {b : BoardValue} {u : MachineBoard} → StandsAs b u → ℕ
waiting (AtCode shows) = 0
waiting (InHandler from at shows interrupted stands) = waiting_at at

-- an instruction of a board is the program's: it stands in front of the handler, and does as the machine's, which serves fewer addresses and
-- sees of the ring what the board holds there; it changes FRAM by its effects, and nothing of HEAD and the ring; and it leaves the events as
-- they are
pub record IsPrograms (b : BoardValue) (i : Instr) : Type 0 where
  pub below : registers_of b.cpu 0 < handler_place
  pub step : code_executed (machine_with (looks_at b i) b) i ≡ machine_outcome_with (look_effects (looks_at b i)) [] b (executed b i) (cycles_of i)
  pub fram : steady (fram_of (executed b i).board.fram)
      ≡ fram_after (look_effects (looks_at b i) ++ effects_of b (executed b i)) (steady (fram_of b.fram))
  pub line : (executed b i).board.line ≡ b.line

-- the store to FRAM of an action that left this board
abbrev pub stored_by : Action → BoardValue → List Effect
stored_by PowerUp after = []
stored_by (Execute kind done offered) after = store_at done.wrote after.fram

-- what a handler's moment leaves of a board: all that the program is told of, but for registers and RAM, which are back as they were when the
-- handler returns
pub record IsServed (b : BoardValue) (m : Moment) : Type 0 where
  pub handlers : is_handlers m ≡ true
  pub accepts_none : accepted_by m.action ≡ []
  pub stores : EachStore (λ a w. handler_place ≤ a) (stored_by m.action m.after)
  pub whole : IsWhole m.after
  pub words : IsOfWords m.after
  pub fram : steady (fram_of m.after.fram) ≡ steady (fram_of b.fram)
  pub rest : KeepsTheRest b m.after
