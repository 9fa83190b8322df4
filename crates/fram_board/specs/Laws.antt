-- Laws of the board's step and of its run.
use Rattle.std.specs.Prelude.{ℕ, ◌≡◌, ◌<◌, ◌+◌, List, length, Ok}
use Rattle.msp_step.specs.Kept.{IsRegisters}
use Rattle.fram_board.specs.declared.board.Stepped.{Stepped}
use Rattle.fram_board.specs.Board.{BoardValue, BoardOutcome, IsStep, acceptance, PowerState, filled, powered}
use Rattle.fram_board.specs.Steps.{IsBoard, IsBoardStep, StepCosts, IsPowerState}
use Rattle.fram_board.specs.Effects.{MakesItsEffects, MakesItsStores}
use Rattle.fram_board.specs.Run.{BoardCharge, RunOutcome, Run, accepted_words}

-- a board steps in one way
abbrev pub IsDeterminedStep : Type 0
IsDeterminedStep = (b : BoardValue) (x y : BoardOutcome) → IsBoardStep b x → IsBoardStep b y → x ≡ y

-- a step that is made takes the cycles that the next step costs
abbrev pub StepTakesItsCost : Type 0
StepTakesItsCost = (b : BoardValue) (x : BoardOutcome) (done : Stepped)
    → IsBoardStep b x → x.answer ≡ Ok done → StepCosts b (Ok done.cycles)

-- an acceptance that is made is what its stores say
abbrev pub AcceptanceMakesItsStores : Type 0
AcceptanceMakesItsStores = (b : BoardValue) (done : Stepped) → (acceptance b).answer ≡ Ok done → MakesItsStores b (acceptance b).board

-- an instruction's step is what its effects say
abbrev pub StepMakesItsEffects : Type 0
StepMakesItsEffects = (b : BoardValue) (x : BoardOutcome) → IsBoard b → IsStep b x → MakesItsEffects b x

-- a board has a run under any charges
abbrev pub HasRun : Type 0
HasRun = (charges : List BoardCharge) (b : BoardValue) → (r : RunOutcome) × Run charges b r

-- and no other
abbrev pub HasOneRun : Type 0
HasOneRun = (charges : List BoardCharge) (b : BoardValue) (r s : RunOutcome) → Run charges b r → Run charges b s → r ≡ s

-- the receiver's count rises by the number of the words that the run's moments tell
abbrev pub AcceptedAreCounted : Type 0
AcceptedAreCounted = (charges : List BoardCharge) (b : BoardValue) (r : RunOutcome) → Run charges b r
    → r.board.receiver.accepted ≡ b.receiver.accepted + length (accepted_words r.moments)

-- any words may be what a power-up leaves: the board is whole then, and its registers are registers
abbrev pub PowerUpLeavesABoard : Type 0
PowerUpLeavesABoard = (b : BoardValue) (p : PowerState)
    → IsBoard b → IsPowerState p → IsBoard (powered b p) × IsRegisters (powered b p).cpu

-- a fill word is one of these states
abbrev pub FillIsAPowerState : Type 0
FillIsAPowerState = (f : ℕ) → f < 0x10000 → IsPowerState (filled f)
