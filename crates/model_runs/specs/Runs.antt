-- Runs of the board whose code is a program that keeps what it owes to a model, and what is said of them.
use Rattle.std.specs.Prelude.{◌≡◌, ℕ, ◌+◌, ◌-◌, ◌*◌, ◌<◌, ◌≤◌, List, [], ◌∷◌, length}
use Rattle.msp_step.specs.declared.machine.Stop.{Stop}
use Rattle.fram_board.specs.Board.{BoardValue, powered}
use Rattle.fram_board.specs.Run.{Cycles, Moment, Charges, Stopped, RunOutcome, run_outcome, after_moments, BoardCharge, ChargeRun, power_up_of}
use Rattle.machine_effects.specs.World.{World}
use Rattle.crash_rules.specs.Model.{Model, Marks, Inputs, Short}
use Rattle.crash_rules.specs.History.{Done, History, first_history, given_since}
use Rattle.crash_rules.specs.Laws.{Origin, IsSettled, Reaches, TaskCosts, IsSpentOn}
use Rattle.run_charges.specs.View.{outside_with, looks_in}
use Rattle.run_charges.specs.Charges.{observed}

-- what is known behind moments of a run that began with this world
abbrev pub history_behind : {St : Type 0} → Model St → World → List Moment → History
history_behind m x ms = observed m.marks ms (first_history m.marks x)

-- the source is short on the readings from the last boot or done on and the answers since, at the state of the last done; nothing is pending
pub record IsShort {St : Type 0} (m : Model St) (readings : List ℕ) (origin : Origin St) (h : History) : Type 0 where
  pub state : St
  pub settled : IsSettled origin h.completed
  pub reached : Reaches m readings origin h.completed state
  pub is_task : m.task_number state < m.tasks
  pub short : m.task state (given_since m.marks readings h) ≡ Short

-- what the outside has ready delays no commit
abbrev pub no_delay : Inputs → ℕ
no_delay inputs = 0

-- how many events arose from one board of a run to another
abbrev pub arisen_between : BoardValue → BoardValue → ℕ
arisen_between b c = c.line.arisen - b.line.arisen

-- What a charge that was spent completed, in which so many events arose, if these are the histories before and behind it. One of cycles has n
-- dones at least where it has n bounds, the cycles that its inputs may delay commits by, and 100 for each event. And however it's counted, it is
-- less than what its transitions cost, and the one that was to come then, and those
pub record PaysFor (bound : ℕ) (costs : TaskCosts) (delay : ℕ) (c : BoardCharge) (arisen : ℕ) (before behind : History) : Type 0 where
  pub bounds : c.measure ≡ Cycles → (n : ℕ) → n * bound + (delay + 100 * arisen) ≤ c.amount → n + length before.completed ≤ length behind.completed
  pub tasks : IsSpentOn costs (delay + 100 * arisen) c.amount before.completed behind.completed

-- a run from a board and a history on, each of whose charges pays for dones, but the one in which the board stops
pub data Progresses (marks : Marks) (bound : ℕ) (costs : TaskCosts) (delay : Inputs → ℕ) : List BoardCharge → BoardValue → History → RunOutcome → Type 0 where
  AllSpent : (b : BoardValue) (h : History) → Progresses marks bound costs delay [] b h (run_outcome [] Charges b)
  SpentOne : (c : BoardCharge) (cs : List BoardCharge) (b : BoardValue) (h : History) (ms : List Moment) (end : BoardValue) (rest : RunOutcome)
      → ChargeRun c.measure c.amount (powered b c.start) (run_outcome ms Charges end)
      → PaysFor bound costs (delay (outside_with (looks_in ms) (powered b c.start)).inputs) c (arisen_between b end) h
      (observed marks (power_up_of b c.start ∷ ms) h)
      → Progresses marks bound costs delay cs end (observed marks (power_up_of b c.start ∷ ms) h) rest
      → Progresses marks bound costs delay (c ∷ cs) b h (after_moments (power_up_of b c.start ∷ ms) rest)
  StoppedIn : (c : BoardCharge) (cs : List BoardCharge) (b : BoardValue) (h : History) (ms : List Moment) (stop : Stop) (end : BoardValue)
      → ChargeRun c.measure c.amount (powered b c.start) (run_outcome ms (Stopped stop) end)
      → Progresses marks bound costs delay (c ∷ cs) b h (run_outcome (power_up_of b c.start ∷ ms) (Stopped stop) end)

-- how many cycles or instructions charges have in all, and a power-up each
abbrev pub all_amounts : List BoardCharge → ℕ
all_amounts [] = 0
all_amounts (c ∷ cs) = 1 + c.amount + all_amounts cs

-- spans that follow one another, from a position up to another, and go forwards
abbrev pub AreInOrder : ℕ → ℕ → List Done → Type 0
AreInOrder from end [] = from ≡ end
AreInOrder from end (d ∷ ds) = (d.span_from ≡ from) × (from ≤ d.span_to) × AreInOrder d.span_to end ds

-- so those of all dones but the first
abbrev pub AreInOrderPast : ℕ → List Done → Type 0
AreInOrderPast end [] = Unit {0}
AreInOrderPast end (d ∷ ds) = AreInOrder 0 end ds
