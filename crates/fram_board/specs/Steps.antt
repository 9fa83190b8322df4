-- Facts of a step of the board, and what a power-up may leave.
use Rattle.std.specs.Prelude.{ℕ, ◌+◌, ◌≡◌, ◌<◌, ◌≤◌, All, length, Result, Ok, Err, None, false}
use Rattle.msp_step.specs.declared.machine.Stop.{Stop}
use Rattle.msp_step.specs.declared.machine.Words.{Words}
use Rattle.msp_step.specs.Registers.{registers_of}
use Rattle.msp_step.specs.Step.{AreCurrentWords, Costs}
use Rattle.fram_board.specs.declared.board.NextStep.{NextStep}
use Rattle.fram_board.specs.declared.board.Stepped.{Stepped}
use Rattle.fram_board.specs.declared.receiver.Receiver.{Receiver}
use Rattle.fram_board.specs.Bus.{IsBusState, board_bus}
use Rattle.fram_board.specs.Events.{EventLine}
use Rattle.fram_board.specs.Board.{BoardValue, BoardOutcome, PowerState, opened, is_accepting, performed, IsNextStep, HasNoStep, step_cycles, board_behind}

-- these may be any words
pub record IsPowerState (p : PowerState) : Type 0 where
  pub sp : p.sp < 0x10000
  pub work : All (λ w. w < 0x10000) p.work
  pub work_len : length p.work ≡ 12
  pub ram : All (λ w. w < 0x10000) p.ram
  pub ram_len : length p.ram ≡ 1024
  pub outnum : p.outnum < 0x10000

-- these words stand at PC, and CPUOFF is clear
abbrev pub AreNextWords : BoardValue → Words → Type 0
AreNextWords b words = AreCurrentWords board_bus (registers_of b.cpu) (opened b) words

-- the next instruction's cycles, or why there is none
abbrev pub BoardCosts : BoardValue → Result ℕ Stop → Type 0
BoardCosts b answer = Costs board_bus (registers_of b.cpu) (opened b) answer

-- one step of the board: its next step is performed, or it has none and stays as it is
pub data IsBoardStep (b : BoardValue) : BoardOutcome → Type 0 where
  Performs : (n : NextStep) → IsNextStep b n → IsBoardStep b (performed b n)
  Halts : (stop : Stop) → HasNoStep b stop → IsBoardStep b (record { answer = Err stop; offered = None; board = b })

-- the same of what is answered and the board behind it, at the next boundary; what was offered is left out
abbrev pub IsStepOf : BoardValue → Result Stepped Stop → BoardValue → Type 0
IsStepOf b answer after = (x : BoardOutcome) × IsBoardStep b x × (answer ≡ x.answer) × (after ≡ board_behind x.answer x.board)

-- the next step's cycles, or why there is none
abbrev pub StepCosts : BoardValue → Result ℕ Stop → Type 0
StepCosts b (Ok cycles) = (n : NextStep) × IsNextStep b n × (cycles ≡ step_cycles n)
StepCosts b (Err stop) = HasNoStep b stop

-- these words stand at PC, and they are the next step: no acceptance is due
pub record AreWordsOfStep (b : BoardValue) (words : Words) : Type 0 where
  pub none : is_accepting b ≡ false
  pub stand : AreNextWords b words

-- a line with another port and what was heard of it
abbrev pub line_heard : EventLine → EventLine → EventLine
line_heard q after = record q { port = after.port; heard = after.heard }

-- a stop changes nothing, but that up to two readings were taken, and what waited in EVENT
pub record KeepsAllButTaken (b after : BoardValue) : Type 0 where
  pub same : after ≡ record b { taken = after.taken; line = line_heard b.line after.line }
  pub from : b.taken ≤ after.taken
  pub to : after.taken ≤ b.taken + 2

-- at most one word more was accepted or repeated
abbrev pub OffersOneAtMost : Receiver → Receiver → Type 0
OffersOneAtMost r after = after.accepted + after.repeats ≤ r.accepted + r.repeats + 1

-- the lists are as long as the memory map says, and no more readings are taken than there are
abbrev pub IsBoard : BoardValue → Type 0
IsBoard b = IsBusState (opened b)
