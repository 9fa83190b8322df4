-- The charges of a board's run, and those of a program that stands in FRAM.
use Rattle.std.specs.Prelude.{◌≡◌, ℕ, suc, ◌+◌, ◌*◌, ◌%◌, ◌≤◌, Bool, true, if◌then◌else◌, List, [], ◌∷◌, ◌++◌, length}
use Rattle.address_space.specs.Limits.{fram_first, reset_vector, event_vector}
use Rattle.event_places.specs.Places.{handler_place}
use Rattle.msp_isa.specs.declared.instructions.Instr.{Instr}
use Rattle.fram_board.specs.Board.{BoardValue, PowerState, powered, is_accepting}
use Rattle.fram_board.specs.Steps.{IsPowerState}
use Rattle.fram_board.specs.Run.{Accepting, Returning, Plain, Action, PowerUp, Execute, Moment, power_up_of}
use Rattle.machine_effects.specs.World.{EachStore}
use Rattle.machine_effects.specs.Going.{going}
use Rattle.machine_effects.specs.Machine.{MachineBoard, MachineStretch, exec, machine_powered}
use Rattle.machine_effects.specs.View.{IsMachineOfWords}
use Rattle.machine_effects.specs.Runs.{action_cycles, last_board}
use Rattle.msp_step.specs.Registers.{Registers}
use Rattle.code_forms.specs.Watch.{watched}
use Rattle.code_forms.specs.Placed.{placed, words_of, AreInstructions, LeavesCode}
use Rattle.crash_rules.specs.Model.{IsElsewhere, Marks}
use Rattle.crash_rules.specs.History.{History}
use Rattle.crash_rules.specs.Runs.{Program, Charge, IsPoweredFrom, Charged}
use Rattle.run_charges.specs.View.{outside_with, is_handlers, looks_in}
use Rattle.run_charges.specs.Moments.{Follows, AreMoments}
use Rattle.run_charges.specs.Charges.{AreInstructionMoments, program_steps}

-- a charge up to some step: the board on which it begins, the words that its power-up left, and the steps that were made, the program's
-- instructions and the handler's steps between them
pub record ChargeFront : Type 0 where
  pub before : BoardValue
  pub start : PowerState
  pub instructions : List Moment

-- the board that its power-up left
abbrev pub board_powered : ChargeFront → BoardValue
board_powered c = powered c.before c.start

-- the board behind it
abbrev pub board_behind : ChargeFront → BoardValue
board_behind c = last_board (board_powered c) c.instructions

-- the board behind such charges
abbrev pub board_behind_all : BoardValue → List ChargeFront → BoardValue
board_behind_all b [] = b
board_behind_all b (c ∷ cs) = board_behind_all (board_behind c) cs

-- their moments: a power-up each, and the instructions
abbrev pub moments_of : List ChargeFront → List Moment
moments_of [] = []
moments_of (c ∷ cs) = power_up_of c.before c.start ∷ (c.instructions ++ moments_of cs)

-- a charge follows this board, and its instructions follow one another from the board that the power-up left
pub record IsChargeFrom (b : BoardValue) (c : ChargeFront) : Type 0 where
  pub follows : Follows b c.before
  pub start : IsPowerState c.start
  pub instructions : AreInstructionMoments c.instructions
  pub moments : AreMoments (board_powered c) c.instructions

-- those of each charge do, one behind the other
abbrev pub AreChargesFrom : BoardValue → List ChargeFront → Type 0
AreChargesFrom b [] = Unit {0}
AreChargesFrom b (c ∷ cs) = IsChargeFrom b c × AreChargesFrom (board_behind c) cs

-- how many were the handler's, with its acceptances, and how many of those there were
abbrev pub handler_steps : List Moment → ℕ
handler_steps [] = 0
handler_steps (m ∷ ms) = if is_handlers m then suc (handler_steps ms) else handler_steps ms

abbrev pub handler_cycles : List Moment → ℕ
handler_cycles [] = 0
handler_cycles (m ∷ ms) = if is_handlers m then action_cycles m.action + handler_cycles ms else handler_cycles ms

abbrev pub accepts_in : Action → ℕ
accepts_in PowerUp = 0
accepts_in (Execute Accepting done offered) = 1
accepts_in (Execute Returning done offered) = 0
accepts_in (Execute Plain done offered) = 0

abbrev pub acceptances : List Moment → ℕ
acceptances [] = 0
acceptances (m ∷ ms) = accepts_in m.action + acceptances ms

-- how many events steps of a charge have to do with: their acceptances, and one more where one is due on the board behind them
abbrev pub events_met : List Moment → BoardValue → ℕ
events_met ms behind = acceptances ms + (if is_accepting behind then 1 else 0)

-- charges as the crash theorem has them: the machine that a power-up left, with the looks that the charge takes, and how many steps the program
-- made in it
abbrev pub charges_of : List ChargeFront → List Charge
charges_of [] = []
charges_of (c ∷ cs) = record { powered = outside_with (looks_in c.instructions) (board_powered c); steps = program_steps c.instructions } ∷ charges_of cs

-- the vector of interrupts leads to the handler, where a program takes events
abbrev pub NamesHandler : Bool → (ℕ → ℕ) → Type 0
NamesHandler events fram = events ≡ true → fram event_vector ≡ handler_place

-- a program that is instructions placed in FRAM from p on, in front of the handler, which takes events or doesn't, and goes astray where its registers
-- aren't as they may be; and which boards a power-up leaves where the reset vector is its entry
pub record IsPlacedProgram (c : Program) (events : Bool) (p : ℕ) (is : List Instr) (entry : ℕ) : Type 0 where
  pub instructions : AreInstructions is
  pub even : p % 2 ≡ 0
  pub low : fram_first ≤ p
  pub high : p + 2 * length (words_of is) ≤ handler_place
  pub may : Registers → Bool
  pub steps : c.step ≡ watched may (exec (placed events p is))
  pub powers : (s : MachineBoard) (q : PowerState) → IsMachineOfWords s → IsPowerState q → s.fram reset_vector ≡ entry → NamesHandler events s.fram
      → c.IsPoweredUp (machine_powered s q)

-- steps that store on none of so many words from p on, nor on the reset vector, never go astray, and whose accesses are served
pub record LeavesProgram (p n : ℕ) (r : MachineStretch) : Type 0 where
  pub code : LeavesCode p n r
  pub vector : EachStore (IsElsewhere reset_vector) r.effects

-- wherever charges of a program lead, the steps of a further one are such
abbrev pub AlwaysLeaves : Program → ℕ → ℕ → Marks → MachineBoard → History → Type 0
AlwaysLeaves c p n marks s h = (charges : List Charge) (t : MachineBoard) (k : History) → Charged c marks s h charges t k
    → (q : MachineBoard) → c.IsPoweredUp q → IsPoweredFrom t q → (m : ℕ) → LeavesProgram p n (going c.step m q)
