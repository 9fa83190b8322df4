-- Parts of a run: one step, one charge, some charges.
use Rattle.std.specs.Prelude.{◌≡◌, ℕ, ◌+◌, ◌-◌, ◌<◌, ◌≤◌, List, [], ◌∷◌, ◌++◌, Option, Some, None, Result, Ok, Err}
use Rattle.std.specs.Io.KnownBytes.{Appends}
use Rattle.alp_io.specs.Sink.{AppendsProperPrefix}
use Rattle.alp_io.specs.declared.sink.Failed.{Failed}
use Rattle.msp_step.specs.declared.machine.Stop.{Stop}
use Rattle.fram_board.specs.declared.board.NextStep.{NextStep}
use Rattle.fram_board.specs.declared.board.Stepped.{Stepped}
use Rattle.fram_board.specs.Board.{BoardValue, performed, IsNextStep, at_boundary}
use Rattle.fram_board.specs.Run.{Measure, price, moment_of, Moment, End, Charges, Stopped, RunOutcome, run_outcome, after_moments, BoardCharge, ChargeRun, Run}
use Rattle.board_run.specs.declared.spend.Turn.{Turn}
use Rattle.board_run.specs.declared.spend.Turn.TheVariants as turn
use Rattle.energy_trace.specs.TraceValue.{Event}
use Rattle.board_run.specs.History.{History, moment_lines, noted}
use Rattle.board_run.specs.Events.{head_of}
use Rattle.board_run.specs.Tally.{TallyValue, tally_behind, tally_after, counts_at, words_of}
use Rattle.board_run.specs.Report.{lines_from, after_all, last_line, events_lines, IsCutInMoment}

-- what is known of a run while it is made: its history, and what became of events
pub record Known : Type 0 where
  pub history : History
  pub tally : TallyValue

-- the address of HEAD, if the map has a ring
abbrev pub known_head : Known → Option ℕ
known_head h = head_of h.history.map

-- at most so many words more were offered to the receiver
pub record FewMore (b after : BoardValue) (n : ℕ) : Type 0 where
  pub accepted : after.receiver.accepted ≤ b.receiver.accepted + n
  pub repeats : after.receiver.repeats ≤ b.receiver.repeats + n

-- a step that was made, for which a charge pays, up to the boundary behind it
pub record IsMade (m : Measure) (left : ℕ) (b after : BoardValue) (n : NextStep) (done : Stepped) : Type 0 where
  pub some : 0 < left
  pub next : IsNextStep b n
  pub paid : price m n ≤ left
  pub answer : (performed b n).answer ≡ Ok done
  pub board : after ≡ at_boundary (performed b n).board

-- this moment is that of a step that was made, and this is left of the charge behind it
pub record IsStepMade (m : Measure) (left : ℕ) (b : BoardValue) (moment : Moment) (rest : ℕ) (done : Stepped) (after : BoardValue) : Type 0 where
  pub step : NextStep
  pub is : moment ≡ moment_of b step done
  pub made : IsMade m left b after step done
  pub rest_is : rest ≡ left - price m step

-- this moment comes first in a charge, of which so much is left before and behind it
pub record ComesFirst (m : Measure) (left : ℕ) (b : BoardValue) (moment : Moment) (rest : ℕ) (after : BoardValue) : Type 0 where
  pub run : (r : RunOutcome) → ChargeRun m rest after r → ChargeRun m left b (after_moments (moment ∷ []) r)
  pub board : moment.after ≡ after
  pub few : FewMore b after 1

-- a step was made, and its lines written
pub record Turned (h : Known) (m : Measure) (left : ℕ) (b : BoardValue) (old new : Option (List ℕ)) (rest : ℕ) (done : Stepped) (after : BoardValue)
    (now : Known) : Type 0
  where
    pub moment : Moment
    pub step : IsStepMade m left b moment rest done after
    pub first : ComesFirst m left b moment rest after
    pub less : rest < left
    pub written : Appends old new (moment_lines h.history moment)
    pub history : now.history ≡ noted h.history moment
    pub tally : now.tally ≡ tally_behind (known_head h) moment h.tally
    pub words : words_of now.tally ≤ words_of h.tally + 1

-- a step was made, and its lines weren't written whole
pub record TurnedPartly (h : Known) (m : Measure) (left : ℕ) (b : BoardValue) (old new : Option (List ℕ)) (after : BoardValue) : Type 0 where
  pub moment : Moment
  pub rest : ℕ
  pub done : Stepped
  pub step : IsStepMade m left b moment rest done after
  pub first : ComesFirst m left b moment rest after
  pub written : AppendsProperPrefix old new (moment_lines h.history moment)

-- a turn of a charge: what it answers, with what was written and the board and history then
abbrev pub IsTurn : Known → Measure → ℕ → BoardValue → Option (List ℕ) → Option (List ℕ) → Result Turn Failed → BoardValue → Known → Type 0
IsTurn h m left b old new (Ok (turn.Left rest done)) after now = Turned h m left b old new rest done after now
IsTurn h m left b old new (Ok turn.Spent) after now = ChargeRun m left b (run_outcome [] Charges after) × FewMore b after 0 × Appends old new [] × (now ≡ h)
IsTurn h m left b old new (Ok (turn.Stopped stop)) after now = ChargeRun m left b (run_outcome [] (Stopped stop) after) × FewMore b after 0
    × Appends old new [] × (now ≡ h)
IsTurn h m left b old new (Err e) after now = TurnedPartly h m left b old new after

-- what is known behind moments, and the bytes
pub record Wrote (h : Known) (ms : List Moment) (old new : Option (List ℕ)) (now : Known) : Type 0 where
  pub written : Appends old new (lines_from h.history ms)
  pub history : now.history ≡ after_all h.history ms
  pub tally : now.tally ≡ tally_after (known_head h) ms h.tally

-- how a charge ended
abbrev pub ended : Option Stop → End
ended None = Charges
ended (Some stop) = Stopped stop

-- the rest of a charge, to its end
pub record SpentCharge (h : Known) (m : Measure) (left : ℕ) (b : BoardValue) (old new : Option (List ℕ)) (stop : Option Stop) (after : BoardValue)
    (now : Known) : Type 0 where
  pub moments : List Moment
  pub run : ChargeRun m left b (run_outcome moments (ended stop) after)
  pub wrote : Wrote h moments old new now
  pub few : FewMore b after left
  pub words : words_of now.tally ≤ words_of h.tally + left

-- the rest of a charge
abbrev pub IsSpent : Known → Measure → ℕ → BoardValue → Option (List ℕ) → Option (List ℕ) → Result (Option Stop) Failed → BoardValue → Known → Type 0
IsSpent h m left b old new (Ok stop) after now = SpentCharge h m left b old new stop after now
IsSpent h m left b old new (Err e) after now = (r : RunOutcome) × ChargeRun m left b r × IsCutInMoment h.history [] r.moments old new after

-- charges that come first, all of them spent
abbrev pub WentThrough : List BoardCharge → BoardValue → List Moment → BoardValue → Type 0
WentThrough cs b ms after = (more : List BoardCharge) (r : RunOutcome) → Run more after r → Run (cs ++ more) b (after_moments ms r)

-- charges that come first, in which the board stopped
abbrev pub StoppedIn : List BoardCharge → BoardValue → List Moment → Stop → BoardValue → Type 0
StoppedIn cs b ms stop after = (more : List BoardCharge) → Run (cs ++ more) b (run_outcome ms (Stopped stop) after)

-- charges that come first, to the end of the last or a stop
abbrev pub Went : List BoardCharge → BoardValue → List Moment → Option Stop → BoardValue → Type 0
Went cs b ms None after = WentThrough cs b ms after
Went cs b ms (Some stop) after = StoppedIn cs b ms stop after

pub record SpentCharges (h : Known) (cs : List BoardCharge) (b : BoardValue) (old new : Option (List ℕ)) (stop : Option Stop) (after : BoardValue)
    (now : Known) (n : ℕ) : Type 0 where
  pub moments : List Moment
  pub went : Went cs b moments stop after
  pub wrote : Wrote h moments old new now
  pub few : FewMore b after n
  pub words : words_of now.tally ≤ words_of h.tally + n

-- charges that come first, with at most so many instructions
abbrev pub AreSpent : Known → List BoardCharge → BoardValue → Option (List ℕ) → Option (List ℕ) → Result (Option Stop) Failed → BoardValue → Known → ℕ
    → Type 0
AreSpent h cs b old new (Ok stop) after now n = SpentCharges h cs b old new stop after now n
AreSpent h cs b old new (Err e) after now n = (more : List BoardCharge) → (r : RunOutcome) × Run (cs ++ more) b r
    × IsCutInMoment h.history [] r.moments old new after

-- the last lines of a run that ended so, by what is known then
abbrev pub known_lines : Known → List Event → End → BoardValue → List ℕ
known_lines h events end b = events_lines events (counts_at end b h.tally) ++ last_line h.history end b
