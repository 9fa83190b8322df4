-- A run: the board under a list of charges, from any power-up states, by the rules of the run.
use Rattle.std.specs.Prelude.{ℕ, ◌-◌, ◌<◌, ◌≤◌, ◌≡◌, List, [], ◌∷◌, ◌++◌, Ok, Err, Option, Some, None}
use Rattle.msp_isa.specs.declared.instructions.Instr.TheVariants as instr
use Rattle.msp_step.specs.declared.machine.Stop.{Stop}
use Rattle.fram_board.specs.declared.board.NextStep.{NextStep}
use Rattle.fram_board.specs.declared.board.NextStep.TheVariants as next_step
use Rattle.fram_board.specs.declared.board.Stepped.{Stepped}
use Rattle.fram_board.specs.Board.{BoardValue, PowerState, powered, performed, IsNextStep, HasNoStep, step_cycles, at_boundary}

-- what a charge is counted in
pub data Measure : Type 0 where
  Cycles : Measure
  Instructions : Measure

-- a power-up, and how much may be spent until power is lost
pub record BoardCharge : Type 0 where
  pub measure : Measure
  pub amount : ℕ
  pub start : PowerState

-- what a step takes off a charge
abbrev pub price : Measure → NextStep → ℕ
price Cycles n = step_cycles n
price Instructions n = 1

-- the kind of a step: an acceptance, an instruction that returns from one, or another instruction
pub data StepKind : Type 0 where
  Accepting : StepKind
  Returning : StepKind
  Plain : StepKind

abbrev pub kind_of : NextStep → StepKind
kind_of next_step.Acceptance = Accepting
kind_of (next_step.Instruction instr.Reti) = Returning
kind_of (next_step.Instruction i) = Plain

-- what leads from one board of a run to the next: a power-up, or a step with its kind, what it did and the word that it
-- offered to the receiver
pub data Action : Type 0 where
  PowerUp : Action
  Execute : (kind : StepKind) (done : Stepped) (offered : Option ℕ) → Action

-- a moment of a run: an action, and the boards before and after it
pub record Moment : Type 0 where
  pub action : Action
  pub before : BoardValue
  pub after : BoardValue

-- why a run ends: every charge is spent, or the board stopped
pub data End : Type 0 where
  Charges : End
  Stopped : (stop : Stop) → End

-- the moments, how it ended, and the board then; a board that stopped keeps the readings and the event that its last
-- instruction took
pub record RunOutcome : Type 0 where
  pub moments : List Moment
  pub ending : End
  pub board : BoardValue

-- an outcome from its parts
abbrev pub run_outcome : List Moment → End → BoardValue → RunOutcome
run_outcome ms e b = record { moments = ms; ending = e; board = b }

-- an outcome with these moments in front
abbrev pub after_moments : List Moment → RunOutcome → RunOutcome
after_moments ms r = record r { moments = ms ++ r.moments }

-- a step that is made, as a moment, up to the boundary behind it
abbrev pub moment_of : BoardValue → NextStep → Stepped → Moment
moment_of b n done = record {
  action = Execute (kind_of n) done (performed b n).offered;
  before = b;
  after = at_boundary (performed b n).board;
}

-- the rest of a charge of which so much is left. `Charges` is its end where the charge is spent
pub data ChargeRun (m : Measure) : ℕ → BoardValue → RunOutcome → Type 0 where
  -- nothing is left of it
  Spent : (left : ℕ) (b : BoardValue) → left ≡ 0 → ChargeRun m left b (run_outcome [] Charges b)
  -- no acceptance is due, and CPUOFF is set, an instruction can't be fetched, or its word is illegal
  NoInstruction : (left : ℕ) (b : BoardValue) (stop : Stop) → 0 < left → HasNoStep b stop
      → ChargeRun m left b (run_outcome [] (Stopped stop) b)
  -- the step's price exceeds what is left
  TooDear : (left : ℕ) (b : BoardValue) (n : NextStep) → 0 < left → IsNextStep b n → left < price m n
      → ChargeRun m left b (run_outcome [] Charges b)
  -- the instruction wants a reading and none is left, or the step is a bus fault
  Refused : (left : ℕ) (b : BoardValue) (n : NextStep) (stop : Stop) → 0 < left → IsNextStep b n → price m n ≤ left
      → (performed b n).answer ≡ Err stop
      → ChargeRun m left b (run_outcome [] (Stopped stop) (performed b n).board)
  -- it is made, its price is taken off, and the events arise that are due
  Executed : (left : ℕ) (b : BoardValue) (n : NextStep) (done : Stepped) (rest : RunOutcome)
      → 0 < left → IsNextStep b n → price m n ≤ left
      → (performed b n).answer ≡ Ok done → ChargeRun m (left - price m n) (at_boundary (performed b n).board) rest
      → ChargeRun m left b (after_moments (moment_of b n done ∷ []) rest)

-- a power-up with these words, as a moment
abbrev pub power_up_of : BoardValue → PowerState → Moment
power_up_of b p = record { action = PowerUp; before = b; after = powered b p }

-- the run of a board under these charges
pub data Run : List BoardCharge → BoardValue → RunOutcome → Type 0 where
  -- every charge is spent
  Over : (b : BoardValue) → Run [] b (run_outcome [] Charges b)
  -- a charge is spent, and the next ones follow
  Next : (c : BoardCharge) (cs : List BoardCharge) (b : BoardValue) (ms : List Moment) (end : BoardValue)
      (rest : RunOutcome)
      → ChargeRun c.measure c.amount (powered b c.start) (run_outcome ms Charges end) → Run cs end rest
      → Run (c ∷ cs) b (after_moments (power_up_of b c.start ∷ ms) rest)
  -- the board stops in a charge
  Last : (c : BoardCharge) (cs : List BoardCharge) (b : BoardValue) (ms : List Moment) (stop : Stop) (end : BoardValue)
      → ChargeRun c.measure c.amount (powered b c.start) (run_outcome ms (Stopped stop) end)
      → Run (c ∷ cs) b (run_outcome (power_up_of b c.start ∷ ms) (Stopped stop) end)

-- a list of one word or none
abbrev pub word_list : Option ℕ → List ℕ
word_list None = []
word_list (Some w) = w ∷ []

-- the word that an action made the receiver accept
abbrev pub accepted_by : Action → List ℕ
accepted_by PowerUp = []
accepted_by (Execute kind done offered) = word_list done.accepted

-- the words accepted in these moments, in order
abbrev pub accepted_words : List Moment → List ℕ
accepted_words [] = []
accepted_words (m ∷ ms) = accepted_by m.action ++ accepted_words ms
