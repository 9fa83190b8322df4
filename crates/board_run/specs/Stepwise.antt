-- A run that is made step by step, so that something may happen to the board between two of its steps.
-- A step is one instruction or one acceptance, with all power-ups before it that are needed: a charge that is spent, or pays for no step, gives way to
-- the next one. Where none is left, or the board stops, the run has ended, and its further steps do nothing.
use Rattle.std.specs.Prelude.{◌≡◌, ℕ, ◌+◌, ◌-◌, ◌^◌, ◌<◌, Bool, true, false, List, [], ◌∷◌, ◌++◌, All, replicate, drop, length, ◌≤◌, Option, Some}
use Rattle.std.specs.Prelude.{None, Result, Ok, Err}
use Rattle.alp_io.specs.Sink.{AppendsProperPrefix}
use Rattle.alp_io.specs.declared.sink.Failed.{Failed}
use Rattle.msp_step.specs.declared.machine.Stop.{Stop}
use Rattle.image_text.specs.image_map.declared.parts.RingPlaces.{RingPlaces}
use Rattle.image_text.specs.image_map.MapValue.{MapValue}
use Rattle.fram_board.specs.declared.board.NextStep.{NextStep}
use Rattle.fram_board.specs.declared.board.Stepped.{Stepped}
use Rattle.fram_board.specs.Board.{BoardValue, powered, performed, at_boundary}
use Rattle.fram_board.specs.Run.{Measure, Instructions, price, Moment, PowerUp, Execute, Action, Charges, Stopped, run_outcome, BoardCharge}
use Rattle.fram_board.specs.Run.{ChargeRun, power_up_of, moment_of}
use Rattle.board_run.specs.declared.stepwise.Advance.{Advance}
use Rattle.board_run.specs.declared.stepwise.StepwiseRun.{StepwiseRun}
use Rattle.board_run.specs.Charges.{measure_of, charge_of, charges_of}
use Rattle.board_run.specs.Report.{lines_from}
use Rattle.board_run.specs.Events.{PowersUp}
use Rattle.board_run.specs.History.{behind_power_up, word_in}
use Rattle.board_run.specs.Tally.{counted, tallied, words_of}
use Rattle.board_run.specs.Parts.{Known, IsMade, Wrote}
use Rattle.board_run.specs.State.{known_so, Follows}

-- where a run is between two of its steps
pub record RunState : Type 0 where
  pub board : BoardValue
  pub charges : List BoardCharge  -- those that haven't begun
  pub measure : Measure  -- what the charge is counted in that has
  pub left : ℕ  -- and what is left of it: nothing before the first one begins
  pub has_ended : Bool

-- the charge is spent, or pays for no step
abbrev pub IsSpentCharge : RunState → Type 0
IsSpentCharge s = ChargeRun s.measure s.left s.board (run_outcome [] Charges s.board)

-- behind a step
abbrev pub behind_step : RunState → NextStep → RunState
behind_step s n = record s { board = at_boundary (performed s.board n).board; left = s.left - price s.measure n }

-- behind a power-up, with the next charge
abbrev pub behind_power : RunState → BoardCharge → List BoardCharge → RunState
behind_power s c cs = record s { board = powered s.board c.start; charges = cs; measure = c.measure; left = c.amount }

-- the ring of a map, if it has one
abbrev pub ring_of : Option MapValue → Option RingPlaces
ring_of None = None
ring_of (Some m) = m.ring

-- the address of its ANS
abbrev pub answer_of_ring : Option RingPlaces → Option ℕ
answer_of_ring None = None
answer_of_ring (Some r) = Some r.answer

-- EC of a ring in a FRAM; 0 where there is no ring
abbrev pub events_in : Option RingPlaces → List ℕ → ℕ
events_in None fram = 0
events_in (Some r) fram = word_in fram r.event_count

-- with another board
abbrev pub with_board : RunState → BoardValue → RunState
with_board s b = record s { board = b }

-- before its first step
abbrev pub not_begun : BoardValue → List BoardCharge → RunState
not_begun b cs = record { board = b; charges = cs; measure = Instructions; left = 0; has_ended = false }

-- one step of a run, with its moments: power-ups, and then an instruction or an acceptance, unless the run ends
pub data StepsOn : RunState → List Moment → RunState → Type 0 where
  -- the run has ended
  Idle : (s : RunState) → s.has_ended ≡ true → StepsOn s [] s
  -- the charge pays for the step
  Makes : (s : RunState) (n : NextStep) (done : Stepped) → s.has_ended ≡ false
      → IsMade s.measure s.left s.board (at_boundary (performed s.board n).board) n done
      → StepsOn s (moment_of s.board n done ∷ []) (behind_step s n)
  -- the board stops
  Halts : (s : RunState) (stop : Stop) (after : BoardValue) → s.has_ended ≡ false
      → ChargeRun s.measure s.left s.board (run_outcome [] (Stopped stop) after) → StepsOn s [] (record s { board = after; has_ended = true })
  -- the last charge is spent
  Ends : (s : RunState) → s.has_ended ≡ false → IsSpentCharge s → s.charges ≡ [] → StepsOn s [] (record s { has_ended = true })
  -- the charge is spent, and power comes up with the next one
  Powers : (s : RunState) (c : BoardCharge) (cs : List BoardCharge) (ms : List Moment) (t : RunState) → s.has_ended ≡ false → IsSpentCharge s
      → s.charges ≡ c ∷ cs → StepsOn (behind_power s c cs) ms t → StepsOn s (power_up_of s.board c.start ∷ ms) t

-- the state of a run as it stands in memory
abbrev pub state_of : StepwiseRun → RunState
state_of r = record {
  board = r.board.now;
  charges = replicate r.again (charge_of r.charge) ++ charges_of (drop r.next r.charges.now);
  measure = measure_of r.charge.kind;
  left = r.left;
  has_ended = r.has_ended;
}

-- what is known of it
abbrev pub known_of : StepwiseRun → Known
known_of r = known_so r.watch.now

-- what is seen follows the board, and each charge comes at least once
pub record IsGoing (r : StepwiseRun) : Type 0 where
  pub next : r.next ≤ length r.charges.now
  pub follows : Follows r.watch.now r.board.now.fram
  pub repeats : All (λ c. 0 < c.times) r.charges.now

-- the counts have room for so many steps
pub record HasRoom (r : StepwiseRun) (n : ℕ) : Type 0 where
  pub accepted : r.board.now.receiver.accepted + n < 2 ^ 64
  pub repeats : r.board.now.receiver.repeats + n < 2 ^ 64
  pub words : words_of (counted r.watch.now.tally) + n < 2 ^ 64

-- what is kept beside the charges
pub record IsKept (r now : StepwiseRun) : Type 0 where
  pub going : IsGoing now
  pub room : (n : ℕ) → HasRoom r n → HasRoom now n

-- the next charge is the one that is spent from now on
pub record TakesCharge (r now : StepwiseRun) : Type 0 where
  pub next : (state_of r).charges ≡ charge_of now.charge ∷ (state_of now).charges
  pub board : now.board.now ≡ r.board.now
  pub known : known_of now ≡ known_of r
  pub has_ended : now.has_ended ≡ r.has_ended
  pub kept : IsKept r now

-- no charge is left
pub record HasNoCharge (r now : StepwiseRun) : Type 0 where
  pub none : (state_of r).charges ≡ []
  pub state : state_of now ≡ state_of r
  pub known : known_of now ≡ known_of r
  pub kept : IsKept r now

-- power came up with the next charge
pub record IsRenewed (r now : StepwiseRun) : Type 0 where
  pub charge : BoardCharge
  pub others : List BoardCharge
  pub next : (state_of r).charges ≡ charge ∷ others
  pub state : state_of now ≡ behind_power (state_of r) charge others
  pub history : (known_of now).history ≡ behind_power_up (known_of r).history.map (known_of r).history (state_of now).board
  pub tally : (known_of now).tally ≡ tallied PowersUp (known_of r).tally
  pub kept : IsKept r now

-- or the run has ended
pub record IsEnded (r now : StepwiseRun) : Type 0 where
  pub none : (state_of r).charges ≡ []
  pub state : state_of now ≡ record (state_of r) { has_ended = true }
  pub known : known_of now ≡ known_of r
  pub kept : IsKept r now

-- what an action did, if it is a step
abbrev pub done_by : Action → Option Stepped
done_by PowerUp = None
done_by (Execute kind done offered) = Some done

-- what the last of moments did
abbrev pub last_done : List Moment → Option Stepped
last_done [] = None
last_done (m ∷ []) = done_by m.action
last_done (m ∷ n ∷ ms) = last_done (n ∷ ms)

-- whether an action is a power-up
abbrev pub is_power_up : Action → Bool
is_power_up PowerUp = true
is_power_up (Execute kind done offered) = false

-- whether moments begin with one
abbrev pub powers_up : List Moment → Bool
powers_up [] = false
powers_up (m ∷ ms) = is_power_up m.action

-- a step of a run, with its lines
pub record Advances (s : RunState) (h : Known) (old new : Option (List ℕ)) (answer : Advance) (t : RunState) (now : Known) : Type 0 where
  pub moments : List Moment
  pub steps : StepsOn s moments t
  pub wrote : Wrote h moments old new now
  pub done : answer.done ≡ last_done moments
  pub powers : answer.powers_up ≡ powers_up moments

-- the same where its lines weren't written whole
pub record AdvancesPartly (s : RunState) (h : Known) (old new : Option (List ℕ)) : Type 0 where
  pub moments : List Moment
  pub behind : RunState
  pub steps : StepsOn s moments behind
  pub written : AppendsProperPrefix old new (lines_from h.history moments)

-- what is answered of a step
abbrev pub IsAdvance : RunState → Known → Option (List ℕ) → Option (List ℕ) → Result Advance Failed → RunState → Known → Type 0
IsAdvance s h old new (Ok answer) t now = Advances s h old new answer t now
IsAdvance s h old new (Err e) t now = AdvancesPartly s h old new
