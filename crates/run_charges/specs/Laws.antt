-- Laws that join a board's run, the machine, and the charges of the crash theorem.
use Rattle.std.specs.Prelude.{◌≡◌, ℕ, ◌*◌, ◌≤◌, ◌<◌, Bool, true, false, List, ◌∷◌, ◌++◌, None, length}
use Rattle.address_space.specs.Limits.{stack_floor, stack_top}
use Rattle.event_places.specs.Places.{handler_place}
use Rattle.msp_step.specs.Registers.{registers_of}
use Rattle.msp_step.specs.Step.{is_interruptible}
use Rattle.msp_isa.specs.declared.instructions.Instr.{Instr}
use Rattle.fram_board.specs.Board.{BoardValue}
use Rattle.fram_board.specs.Run.{PowerUp, BoardCharge, Moment, RunOutcome, Run}
use Rattle.machine_effects.specs.Machine.{MachineBoard}
use Rattle.machine_effects.specs.View.{IsWhole, IsOfWords}
use Rattle.machine_effects.specs.Runs.{last_board}
use Rattle.event_handler.specs.Handler.{HasHandler}
use Rattle.code_forms.specs.Placed.{words_of, Holds}
use Rattle.crash_rules.specs.Model.{Marks}
use Rattle.crash_rules.specs.History.{History}
use Rattle.crash_rules.specs.Runs.{Program, Charged}
use Rattle.run_charges.specs.View.{outside_of, NoneServes}
use Rattle.run_charges.specs.Moments.{AreMoments}
use Rattle.run_charges.specs.Charges.{ArePowerStates, AreInstructionMoments, observed}
use Rattle.run_charges.specs.Fronts.{ChargeFront, moments_of, AreChargesFrom, charges_of, handler_cycles, handler_steps}
use Rattle.run_charges.specs.Fronts.{acceptances, IsPlacedProgram, AlwaysLeaves}

-- a run of a whole board of words under charges with any power-ups
pub record IsRunOfWords (cs : List BoardCharge) (b : BoardValue) (r : RunOutcome) : Type 0 where
  pub whole : IsWhole b
  pub words : IsOfWords b
  pub starts : ArePowerStates cs
  pub run : Run cs b r

-- one of a program, and of a handler beside it: its moments are power-ups, instructions that do as the machine's, and the handler's steps
pub record IsProgramRun (cs : List BoardCharge) (b : BoardValue) (r : RunOutcome) : Type 0 where
  pub of_words : IsRunOfWords cs b r
  pub moments : AreMoments b r.moments

-- a front of a run is charges, the last one up to some step
pub record IsOfCharges (b : BoardValue) (ms : List Moment) : Type 0 where
  pub charges : List ChargeFront
  pub moments : ms ≡ moments_of charges
  pub follow : AreChargesFrom b charges

-- each front of such a run is, also the whole run
abbrev pub FrontsAreCharges : Type 0
FrontsAreCharges = (cs : List BoardCharge) (b : BoardValue) (r : RunOutcome) (ms rest : List Moment) → IsProgramRun cs b r
    → r.moments ≡ ms ++ rest → IsOfCharges b ms

-- a front of a run is charges of a program, with the history of its moments behind them: they lead to a machine that has the FRAM of the board
-- behind the front, and the readings that are left. Its registers and RAM are the board's too, but while the handler runs
pub record IsChargedBy (c : Program) (marks : Marks) (b : BoardValue) (h : History) (ms : List Moment) : Type 0 where
  pub front : IsOfCharges b ms
  pub end : MachineBoard
  pub charged : Charged c marks (outside_of b) h (charges_of front.charges) end (observed marks ms h)
  pub fram : end.fram ≡ (outside_of (last_board b ms)).fram
  pub readings : end.inputs.readings ≡ (outside_of (last_board b ms)).inputs.readings

-- a program stands in FRAM, with the handler behind it where it takes events, and wherever its charges lead a further one leaves it and the
-- reset vector as they are, never goes astray, and has each access served
pub record StandsIn (c : Program) (marks : Marks) (b : BoardValue) (h : History) : Type 0 where
  pub events : Bool
  pub place : ℕ
  pub instructions : List Instr
  pub placed : IsPlacedProgram c events place instructions ((outside_of b).fram 0xFFFE)
  pub holds : Holds (outside_of b).fram place (words_of instructions)
  pub marked : marks.answer ≡ None → events ≡ false  -- where no word of FRAM is ANS it takes none
  pub handler : events ≡ true → HasHandler (outside_of b).fram
  pub leaves : AlwaysLeaves c place (length (words_of instructions)) marks (outside_of b) h

-- then each run is one of the program and its handler
abbrev pub ProgramsRun : Program → Type 0
ProgramsRun c = (cs : List BoardCharge) (b : BoardValue) (r : RunOutcome) → IsRunOfWords cs b r
    → (marks : Marks) (h : History) → StandsIn c marks b h → IsProgramRun cs b r

-- without events it has no moment of the handler's: no interrupt is accepted
abbrev pub ProgramsRunAlone : Program → Type 0
ProgramsRunAlone c = (cs : List BoardCharge) (b : BoardValue) (r : RunOutcome) → IsRunOfWords cs b r
    → (marks : Marks) (h : History) → (stands : StandsIn c marks b h) → stands.events ≡ false → NoneServes r.moments

-- and each front of a run is charges of that program
abbrev pub FrontsAreCharged : Program → Type 0
FrontsAreCharged c = (cs : List BoardCharge) (b : BoardValue) (r : RunOutcome) (ms rest : List Moment) → IsRunOfWords cs b r
    → r.moments ≡ ms ++ rest → (marks : Marks) (h : History) → StandsIn c marks b h → IsChargedBy c marks b h ms

-- the handler takes 48 cycles at most for each of its acceptances, in 16 steps at most
pub record HandlerIsBrief (ms : List Moment) : Type 0 where
  pub cycles : handler_cycles ms ≤ 48 * acceptances ms
  pub steps : handler_steps ms ≤ 16 * acceptances ms

abbrev pub HandlersAreBrief : Program → Type 0
HandlersAreBrief c = (cs : List BoardCharge) (b : BoardValue) (r : RunOutcome) (ms rest : List Moment) → IsRunOfWords cs b r
    → r.moments ≡ ms ++ rest → (marks : Marks) (h : History) → StandsIn c marks b h → HandlerIsBrief ms

-- the CPU accepts interrupts
abbrev pub Accepts : BoardValue → Type 0
Accepts b = is_interruptible (registers_of b.cpu) ≡ true

-- SP stands in RAM, where the handler has room below it
pub record HasRoom (b : BoardValue) : Type 0 where
  pub low : stack_floor ≤ registers_of b.cpu 1
  pub high : registers_of b.cpu 1 ≤ stack_top

-- at each boundary of a run at which the CPU accepts interrupts, where it doesn't at first, the handler has room
abbrev pub StackHasRoom : Program → Type 0
StackHasRoom c = (cs : List BoardCharge) (b : BoardValue) (r : RunOutcome) (ms rest : List Moment) → IsRunOfWords cs b r → r.moments ≡ ms ++ rest
    → (marks : Marks) (h : History) → StandsIn c marks b h → is_interruptible (registers_of b.cpu) ≡ false
    → Accepts (last_board b ms) → HasRoom (last_board b ms)

-- at each boundary of a run at which the handler doesn't run the registers are as those of the program may be, where they are at first
abbrev pub BoardsAreWatched : Program → Type 0
BoardsAreWatched c = (cs : List BoardCharge) (b : BoardValue) (r : RunOutcome) (ms rest : List Moment) → IsRunOfWords cs b r → r.moments ≡ ms ++ rest
    → (marks : Marks) (h : History) → (stands : StandsIn c marks b h)
    → (registers_of b.cpu 0 < handler_place → stands.placed.may (registers_of b.cpu) ≡ true)
    → registers_of (last_board b ms).cpu 0 < handler_place → stands.placed.may (registers_of (last_board b ms).cpu) ≡ true

-- once it accepts them in a charge, it does so at each later boundary of that at which the handler doesn't run
abbrev pub InterruptsStayOn : Program → Type 0
InterruptsStayOn c = (cs : List BoardCharge) (b : BoardValue) (r : RunOutcome) (before : List Moment) (boot : Moment) (first more rest : List Moment)
    → IsRunOfWords cs b r → r.moments ≡ before ++ boot ∷ (first ++ (more ++ rest)) → boot.action ≡ PowerUp
    → AreInstructionMoments first → AreInstructionMoments more
    → (marks : Marks) (h : History) → (stands : StandsIn c marks b h) → stands.events ≡ true → Accepts (last_board boot.after first)
    → let t = last_board (last_board boot.after first) more in registers_of t.cpu 0 < handler_place → Accepts t
