-- Laws of the machine, and that it is the board.
use Rattle.std.specs.Prelude.{ℕ, ◌%◌, ◌≡◌, ◌<◌, ◌≤◌, ◌⊎◌, true, List, [], All, ◌++◌, length, Some, Ok}
use Rattle.fram_board.specs.address_space.Limits.{fram_words}
use Rattle.event_places.specs.Places.{handler_place}
use Rattle.fram_board.specs.msp_isa.declared.instructions.Instr.{Instr}
use Rattle.fram_board.specs.msp_isa.Encoding.{encoding}
use Rattle.fram_board.specs.msp_cycles.Cycles.{cycles_of}
use Rattle.fram_board.specs.msp_step.Registers.{registers_of, powered_up}
use Rattle.fram_board.specs.declared.board.NextStep.{NextStep}
use Rattle.fram_board.specs.declared.board.Stepped.{Stepped}
use Rattle.fram_board.specs.Board.{IsNextInstruction}
use Rattle.fram_board.specs.Board.{BoardValue, BoardOutcome, IsStep, PowerState, powered, fresh, vector_of, executed, acceptance, performed, at_boundary}
use Rattle.fram_board.specs.Saved.{TakesNextBehind}
use Rattle.fram_board.specs.Steps.{IsPowerState}
use Rattle.fram_board.specs.Effects.{Effect}
use Rattle.fram_board.specs.Run.{Measure, moment_of, RunOutcome, ChargeRun, accepted_by, accepted_words}
use Rattle.machine_effects.specs.World.{World, fram_after, accepted_after, world_after}
use Rattle.machine_effects.specs.Inputs.{Look, look_effects}
use Rattle.machine_effects.specs.Going.{Goes, Stops}
use Rattle.machine_effects.specs.Machine.{MachineBoard, MachineOutcome, code_executed, IsMachineStep, Code, exec, pushes, IsRam, fram_of, machine_powered}
use Rattle.machine_effects.specs.View.{machine_with, machine_of, IsWhole, IsOfWords, IsMachineOfWords, IsNextPrice, machine_outcome_with}
use Rattle.machine_effects.specs.View.{machine_outcome_of, looks_at, seen_at_pc, IsBusFault}
use Rattle.machine_effects.specs.Runs.{action_effects, moments_effects}
use Rattle.machine_effects.specs.Changes.{ChangesByEffects}

-- a step of the board is the machine's step of its view, with the board's effects and cycles, and leaves the port EVENT; a stop
-- is the same stop, with the readings taken before it and the price of the instruction that stopped
pub record StepsAsMachine (b : BoardValue) (x : BoardOutcome) : Type 0 where
  pub price : ℕ
  pub next : IsNextPrice b price
  pub step : IsMachineStep (machine_of b) (machine_outcome_of b x price)
  pub line : x.board.line ≡ b.line

-- the view of a board steps to a bus fault
abbrev pub StepsToFault : BoardValue → Type 0
StepsToFault b = (o : MachineOutcome) × IsMachineStep (machine_of b) o × IsBusFault o

-- where no acceptance is due, each step of a board is the machine's, or the machine's ends by a bus fault
abbrev pub BoardStepsAsMachine : Type 0
BoardStepsAsMachine = (b : BoardValue) (x : BoardOutcome) → IsWhole b → IsStep b x → StepsAsMachine b x ⊎ StepsToFault b

-- and each step of the view that doesn't end so is the board's
abbrev pub MachineStepsAsBoard : Type 0
MachineStepsAsBoard = (b : BoardValue) (o : MachineOutcome) → IsWhole b → IsMachineStep (machine_of b) o → IsBusFault o
    ⊎ ((x : BoardOutcome) × (price : ℕ) × IsStep b x × IsNextPrice b price × (o ≡ machine_outcome_of b x price) × (x.board.line ≡ b.line))

-- an instruction of code that sees what the board holds in the ring does as on the board, behind the effect of its look, or ends by a
-- bus fault
abbrev pub LooksAsTheBoard : Type 0
LooksAsTheBoard = (b : BoardValue) (i : Instr) (more : List Look) → IsWhole b → let o = code_executed (machine_with (looks_at b i ++ more) b) i in
    IsBusFault o
    ⊎ ((o ≡ machine_outcome_with (look_effects (looks_at b i)) more b (executed b i) (cycles_of i)) × ((executed b i).board.line ≡ b.line))

-- what the next instruction of a board sees is told by the words at PC
abbrev pub SeenByWords : Type 0
SeenByWords = (b : BoardValue) (i : Instr) → IsWhole b → IsNextInstruction b i → seen_at_pc b ≡ looks_at b i

-- machines that a program can't tell apart: FRAM may differ from the handler on, and the words of RAM below an address, or that aren't known of the second
pub record IsSameFrom (floor : ℕ) (s t : MachineBoard) : Type 0 where
  pub registers : t.registers ≡ s.registers
  pub fram : (a : ℕ) → a < handler_place → t.fram a ≡ s.fram a
  pub ram : (a w : ℕ) → floor ≤ a → a % 2 ≡ 0 → t.ram a ≡ Some w → s.ram a ≡ Some w
  pub inputs : t.inputs ≡ s.inputs
  pub outnum : t.outnum ≡ s.outnum

-- outcomes with the same effects and cycles, to such machines, or by the same stop
abbrev pub AreSameFrom : ℕ → MachineOutcome → MachineOutcome → Type 0
AreSameFrom floor (Goes es c s) (Goes fs d t) = (fs ≡ es) × (d ≡ c) × IsSameFrom floor s t
AreSameFrom floor (Stops es price e) (Stops fs paid f) = (fs ≡ es) × (paid ≡ price) × (f ≡ e)
AreSameFrom floor (Goes es c s) (Stops fs paid f) = ⊥
AreSameFrom floor (Stops es price e) (Goes fs d t) = ⊥

-- an instruction of code does the same on machines that are the same from SP on, or from below it, or ends by a bus fault where less is known: what
-- a handler may change it can't depend on
abbrev pub MachineIsBlind : Type 0
MachineIsBlind = (floor : ℕ) (i : Instr) (s t : MachineBoard) → floor ≤ s.registers 1 → IsSameFrom floor s t
    → IsBusFault (code_executed t i) ⊎ AreSameFrom floor (code_executed s i) (code_executed t i)

-- the word at SP behind both is the same, where that stands in RAM
abbrev pub HaveSameTop : MachineOutcome → MachineOutcome → Type 0
HaveSameTop (Goes es c s) (Goes fs d t) = IsRam (s.registers 1) → t.ram (s.registers 1) ≡ s.ram (s.registers 1)
HaveSameTop o p = Unit {0}

-- and what pushes writes the same word there
abbrev pub PushesAlike : Type 0
PushesAlike = (floor : ℕ) (i : Instr) (s t : MachineBoard) → pushes i ≡ true → floor ≤ s.registers 1 → IsSameFrom floor s t
    → HaveSameTop (code_executed s i) (code_executed t i)

-- the machine steps in one way
abbrev pub MachineStepsInOneWay : Type 0
MachineStepsInOneWay = (s : MachineBoard) (o p : MachineOutcome) → IsMachineStep s o → IsMachineStep s p → o ≡ p

-- a step of code that stays changes FRAM and the inputs by its effects
abbrev pub CodeChangesByEffects : Type 0
CodeChangesByEffects = (code : Code) (s : MachineBoard) → ChangesByEffects s (exec code s)

-- a step of the machine does so too
abbrev pub MachineChangesByEffects : Type 0
MachineChangesByEffects = (s : MachineBoard) (o : MachineOutcome) → IsMachineStep s o → ChangesByEffects s o

-- where an outcome goes on, FRAM from the handler on is as it was
abbrev pub KeepsTheHandler : MachineBoard → MachineOutcome → Type 0
KeepsTheHandler s (Goes es c t) = (a : ℕ) → handler_place ≤ a → t.fram a ≡ s.fram a
KeepsTheHandler s (Stops es price stop) = Unit {0}

-- a step of code that stays leaves it
abbrev pub CodeKeepsTheHandler : Type 0
CodeKeepsTheHandler = (code : Code) (s : MachineBoard) → KeepsTheHandler s (exec code s)

-- where an outcome goes on, all are words
abbrev pub LeavesWords : MachineOutcome → Type 0
LeavesWords (Goes es c t) = IsMachineOfWords t
LeavesWords (Stops es price stop) = Unit {0}

-- words stay words on the machine
abbrev pub MachineWordsStayWords : Type 0
MachineWordsStayWords = (s : MachineBoard) (o : MachineOutcome) → IsMachineOfWords s → IsMachineStep s o → LeavesWords o

-- and in code that stays, where its instructions are encoded in words
abbrev pub CodeWordsStayWords : Type 0
CodeWordsStayWords = (code : Code) (s : MachineBoard) → ((i : Instr) → code.at (s.registers 0) ≡ Some i → All (λ w. w < 0x10000) (encoding i))
    → IsMachineOfWords s → LeavesWords (exec code s)

-- words stay words on the board
abbrev pub WordsStayWords : Type 0
WordsStayWords = (b : BoardValue) (x : BoardOutcome) → IsWhole b → IsOfWords b → IsStep b x → IsOfWords x.board

-- a step leaves a board whole
abbrev pub StepLeavesItWhole : Type 0
StepLeavesItWhole = (b : BoardValue) (x : BoardOutcome) → IsWhole b → IsStep b x → IsWhole x.board

-- at the boundary behind a step the board is as whole, and holds words, too
abbrev pub BoundaryKeepsWords : Type 0
BoundaryKeepsWords = (b : BoardValue) → IsWhole b → IsOfWords b → IsWhole (at_boundary b) × IsOfWords (at_boundary b)

-- so is the board that an acceptance leaves, made or refused
abbrev pub AcceptanceKeepsWords : Type 0
AcceptanceKeepsWords = (b : BoardValue) → IsWhole b → IsOfWords b → IsWhole (acceptance b).board × IsOfWords (acceptance b).board

-- what a board of words is as a machine
abbrev pub MachineIsOfWords : Type 0
MachineIsOfWords = (b : BoardValue) → IsOfWords b → IsMachineOfWords (machine_of b)

-- a power-up of the board is the machine's
abbrev pub PowerUpIsTheMachines : Type 0
PowerUpIsTheMachines = (b : BoardValue) (p : PowerState) → machine_of (powered b p) ≡ machine_powered (machine_of b) p

-- it leaves a whole board, and words
abbrev pub PowerUpKeepsWords : Type 0
PowerUpKeepsWords = (b : BoardValue) (p : PowerState) → IsWhole b → IsOfWords b → IsPowerState p → IsWhole (powered b p) × IsOfWords (powered b p)

-- a fresh board as a machine: registers but PC, and RAM, are 0, and all readings are left
abbrev pub FreshMachine : Type 0
FreshMachine = (fram readings : List ℕ) (events : List (ℕ × ℕ)) → machine_of (fresh fram readings events) ≡ record {
  registers = registers_of (powered_up (vector_of fram) 0);
  fram = fram_of fram;
  ram = λ a. Some 0;
  inputs = record { readings = readings; looks = [] };
  outnum = 0;
}

-- it is whole where FRAM is as large as the memory map says, and holds words where FRAM, the readings and the events do
abbrev pub FreshIsWhole : Type 0
FreshIsWhole = (fram readings : List ℕ) (events : List (ℕ × ℕ)) → length fram ≡ fram_words → length readings ≤ 262144
    → All (λ w. w < 0x10000) fram → All (λ w. w < 0x10000) readings → All (λ e. e.1 < 0x10000) events
    → IsWhole (fresh fram readings events) × IsOfWords (fresh fram readings events)

-- a charge leaves a whole board, and words, whatever events arise
abbrev pub ChargeKeepsWords : Type 0
ChargeKeepsWords = (m : Measure) (amount : ℕ) (b : BoardValue) (r : RunOutcome) → IsWhole b → IsOfWords b → ChargeRun m amount b r
    → IsWhole r.board × IsOfWords r.board

-- the word that the moment of a step tells, an instruction's or an acceptance, is the one that its effects make the receiver
-- accept
abbrev pub StepAcceptsBySends : Type 0
StepAcceptsBySends = (b : BoardValue) (n : NextStep) (done : Stepped) (ws : List ℕ) → TakesNextBehind ws b.receiver → (performed b n).answer ≡ Ok done
    → let m = moment_of b n done in accepted_after (action_effects m.action m.before m.after) ws ≡ ws ++ accepted_by m.action

-- the words that a charge's moments tell are those that its effects make the receiver accept
abbrev pub ChargeAcceptsBySends : Type 0
ChargeAcceptsBySends = (m : Measure) (amount : ℕ) (b : BoardValue) (r : RunOutcome) (ws : List ℕ) → TakesNextBehind ws b.receiver → ChargeRun m amount b r
    → accepted_after (moments_effects r.moments) ws ≡ ws ++ accepted_words r.moments

-- the world after effects is FRAM and the accepted words after them
abbrev pub WorldByItsParts : Type 0
WorldByItsParts = (es : List Effect) (x : World) → world_after es x ≡ record { fram = fram_after es x.fram; accepted = accepted_after es x.accepted }
