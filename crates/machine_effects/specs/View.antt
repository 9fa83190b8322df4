-- The board of the running program as the machine.
use Rattle.std.specs.Prelude.{ℕ, ◌/◌, ◌%◌, ◌≡◌, ◌<◌, ◌⊎◌, ◌==◌, ◌&&◌, not, nat_le, Bool, false, if◌then◌else◌, List, [], ◌∷◌, ◌++◌, All, IfSome, drop}
use Rattle.std.specs.Prelude.{Result, Ok, Err, Some}
use Rattle.fram_board.specs.msp_isa.declared.instructions.Instr.{Instr}
use Rattle.fram_board.specs.msp_cycles.Cycles.{cycles_of}
use Rattle.fram_board.specs.msp_step.declared.machine.Stop.{Stop}
use Rattle.fram_board.specs.msp_step.declared.machine.Stop.TheVariants as stop
use Rattle.fram_board.specs.msp_step.Registers.{registers_of}
use Rattle.fram_board.specs.msp_step.Kept.{IsRegisters}
use Rattle.fram_board.specs.declared.board.Stepped.{Stepped}
use Rattle.fram_board.specs.Events.{EventLine}
use Rattle.fram_board.specs.declared.radio.Radio.{Radio}
use Rattle.fram_board.specs.declared.radio.Radio.TheVariants.{Alone, Sends, Listens}
use Rattle.fram_board.specs.Radio.{is_sender}
use Rattle.fram_board.specs.Board.{BoardValue, BoardOutcome, executed}
use Rattle.fram_board.specs.Steps.{BoardCosts, IsBoard}
use Rattle.fram_board.specs.Effects.{Effect, effects_of}
use Rattle.machine_effects.specs.Inputs.{Look, Inputs, SeeWords, InputsAreWords, look_effects}
use Rattle.machine_effects.specs.Going.{Goes, Stops}
use Rattle.event_places.specs.Places.{is_ring}
use Rattle.fram_board.specs.msp_step.Effect.{word_sum}
use Rattle.machine_effects.specs.Machine.{word_in}
use Rattle.machine_effects.specs.Machine.{MachineBoard, MachineOutcome, machine_executed, looks_there, code_executed, fram_of, ram_of, known}

-- what is ready for a board, with these looks
abbrev pub inputs_with : List Look → BoardValue → Inputs
inputs_with looks b = record { readings = drop b.taken b.readings; looks = looks }

-- without any
abbrev pub inputs_of : BoardValue → Inputs
inputs_of b = inputs_with [] b

-- the machine that a board is, with these looks
abbrev pub machine_with : List Look → BoardValue → MachineBoard
machine_with looks b = record {
  registers = registers_of b.cpu;
  fram = fram_of b.fram;
  ram = known (ram_of b.ram);
  inputs = inputs_with looks b;
  outnum = b.outnum;
}

-- the machine that a board is
abbrev pub machine_of : BoardValue → MachineBoard
machine_of b = machine_with [] b

-- memory is whole, there are sixteen registers, each with what it keeps, and the words of the board go to its own receiver
pub record IsWhole (b : BoardValue) : Type 0 where
  pub board : IsBoard b
  pub registers : IsRegisters b.cpu
  pub own : is_sender b.radio ≡ false

-- the words that wait in the port EVENT and that come there are words
pub record IsLineOfWords (q : EventLine) : Type 0 where
  pub port : IfSome q.port (λ w. w < 0x10000)
  pub coming : All (λ e. e.1 < 0x10000) q.coming

-- what a radio reads are words
abbrev pub IsRadioOfWords : Radio → Type 0
IsRadioOfWords Alone = Unit {0}
IsRadioOfWords (Sends greatest) = greatest < 0x10000
IsRadioOfWords (Listens number) = number < 0x10000

-- all that a board holds are words
pub record IsOfWords (b : BoardValue) : Type 0 where
  pub registers : All (λ w. w < 0x10000) b.cpu
  pub fram : All (λ w. w < 0x10000) b.fram
  pub ram : All (λ w. w < 0x10000) b.ram
  pub readings : All (λ w. w < 0x10000) b.readings
  pub outnum : b.outnum < 0x10000
  pub line : IsLineOfWords b.line
  pub radio : IsRadioOfWords b.radio

-- all that the machine holds are words
pub record IsMachineOfWords (s : MachineBoard) : Type 0 where
  pub registers : (n : ℕ) → s.registers n < 0x10000
  pub fram : (a : ℕ) → s.fram a < 0x10000
  pub ram : (a w : ℕ) → s.ram a ≡ Some w → w < 0x10000
  pub inputs : InputsAreWords s.inputs
  pub outnum : s.outnum < 0x10000

-- the cycles of the board's next instruction, or 0 where there is none
abbrev pub IsNextPrice : BoardValue → ℕ → Type 0
IsNextPrice b price = BoardCosts b (Ok price) ⊎ ((e : Stop) × BoardCosts b (Err e) × (price ≡ 0))

-- an answer of the board with its effects, as the machine's outcome; the price is that of a stop
abbrev pub outcome_of_answer : List Effect → ℕ → Result Stepped Stop → MachineBoard → MachineOutcome
outcome_of_answer es price (Ok done) next = Goes es done.cycles next
outcome_of_answer es price (Err e) next = Stops es price e

-- a step of the board as one of the machine, behind these effects of looks, and with these looks behind it
abbrev pub machine_outcome_with : List Effect → List Look → BoardValue → BoardOutcome → ℕ → MachineOutcome
machine_outcome_with seen looks b x price = outcome_of_answer (seen ++ effects_of b x) price x.answer (machine_with looks x.board)

-- a step of the board as one of the machine
abbrev pub machine_outcome_of : BoardValue → BoardOutcome → ℕ → MachineOutcome
machine_outcome_of b x price = machine_outcome_with [] [] b x price

-- what an instruction on a board sees of the ring, if it looks there
abbrev pub looks_at : BoardValue → Instr → List Look
looks_at b i = if looks_there i then fram_of b.fram ∷ [] else []

-- a bus fault
abbrev pub IsFault : Stop → Type 0
IsFault (stop.Bus at a) = Unit {0}
IsFault (stop.Illegal at w) = ⊥
IsFault stop.Off = ⊥
IsFault stop.NoReading = ⊥

-- the machine ends by a bus fault, since it refuses some addresses that a board serves: there alone a board may do otherwise
abbrev pub IsBusFault : MachineOutcome → Type 0
IsBusFault (Goes es c t) = ⊥
IsBusFault (Stops es price e) = IsFault e

-- the source of an instruction, by its words: As is 1, its register neither PC nor R3, and the word behind it is in the ring
abbrev pub source_is_there : ℕ → ℕ → ℕ → Bool
source_is_there first next register =
    (first / 0x40 % 2 == 0) && ((first / 0x10 % 4 == 1) && ((not (register == 0) && not (register == 3)) && is_ring next))

-- an instruction looks that begins with these words: one of two operands, or PUSH, whose source is there
abbrev pub words_look : ℕ → ℕ → Bool
words_look first next =
    if nat_le 0x4000 first then source_is_there first next (first / 0x100 % 16)
    else if first / 0x80 == 0x24 then source_is_there first next (first % 16)
    else false

-- what the instruction at PC sees of the ring, told by the words that stand there
abbrev pub seen_at_pc : BoardValue → List Look
seen_at_pc b =
    let fram = fram_of b.fram in
    let pc = registers_of b.cpu 0 in
    if words_look (word_in fram (known (ram_of b.ram)) pc) (word_in fram (known (ram_of b.ram)) (word_sum pc 2)) then fram ∷ [] else []

-- an instruction of a board does as the machine's, which serves fewer addresses and sees of the ring what the board holds there, whatever
-- it is to see later; and it leaves the events as they are
pub record IsMachines (b : BoardValue) (i : Instr) : Type 0 where
  pub step : (more : List Look) → SeeWords more
      → code_executed (machine_with (looks_at b i ++ more) b) i ≡ machine_outcome_with (look_effects (looks_at b i)) more b (executed b i) (cycles_of i)
  pub line : (executed b i).board.line ≡ b.line
