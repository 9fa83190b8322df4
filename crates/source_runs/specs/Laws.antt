-- A run of a compiled source is told by the source.
use Rattle.std.specs.Prelude.{ℕ, ◌<◌, ◌^◌, List, [], Some}
use Rattle.image_map.specs.MapValue.{MapValue}
use Rattle.energy_trace.specs.TraceValue.{TraceValue}
use Rattle.fram_board.specs.Board.{BoardValue}
use Rattle.fram_board.specs.Run.{BoardCharge, RunOutcome}
use Rattle.board_run.specs.Charges.{charges_of}
use Rattle.board_run.specs.History.{start_with}
use Rattle.board_run.specs.Report.{report_of}
use Rattle.source_values.specs.Runs.{CheckedProgram, State, Transition}
use Rattle.machine_effects.specs.World.{World}
use Rattle.crash_rules.specs.Model.{Model}
use Rattle.crash_rules.specs.Runs.{Program}
use Rattle.crash_rules.specs.Laws.{Resting, Pending}
use Rattle.run_charges.specs.Charges.{ArePowerStates}
use Rattle.run_charges.specs.Laws.{IsRunOfWords}
use Rattle.model_runs.specs.EventLaws.{StartsWith}
use Rattle.model_runs.specs.Runs.{all_amounts}
use Rattle.model_runs.specs.Bears.{BearsModel}
use Rattle.source_runs.specs.Traces.{IsTraceOfWords}
use Rattle.source_runs.specs.Tells.{IsToldBySource}
use Rattle.source_runs.specs.Transitions.{HasWordsOf}
use Rattle.source_runs.specs.Resumed.{IsToldFrom, IsToldBehind, HasTransition}
use Rattle.source_runs.specs.Sources.{IsOfSource, BeginsWithSource}

-- the report of each run of words under charges that have fewer than 2^64 cycles and instructions in all
abbrev pub RunsAreTold : Model State → Program → Type 0
RunsAreTold model c = (text : List ℕ) (program : CheckedProgram) (m : MapValue) (x : World) (cs : List BoardCharge) (b : BoardValue) (r : RunOutcome)
    → IsOfSource text program m model → BeginsWithSource program m model c x b → IsRunOfWords cs b r → all_amounts cs < 2 ^ 64
    → IsToldBySource text program m cs b r (report_of (start_with b.fram (Some m)) b.line.coming r)

-- and so is each from a state that the world has, and each that begins with a pending commit, told behind this
pub record ResumedRunIsTold (model : Model State) (c : Program) (text : List ℕ) (program : CheckedProgram) (m : MapValue) (x : World)
    (cs : List BoardCharge) (b : BoardValue) (r : RunOutcome) : Type 0 where
  pub resting : (s : State) → BearsModel model c b.readings (Resting s) x b → model.Undecided s x → HasWordsOf m x s
      → IsToldFrom text program m [] s cs b r (report_of (start_with b.fram (Some m)) b.line.coming r)
  pub pending : (s to : State) (t : Transition) → BearsModel model c b.readings (Pending to) x b → HasTransition m x s to t
      → IsToldBehind text program m t to cs b r (report_of (start_with b.fram (Some m)) b.line.coming r)

abbrev pub ResumedRunsAreTold : Model State → Program → Type 0
ResumedRunsAreTold model c = (text : List ℕ) (program : CheckedProgram) (m : MapValue) (x : World) (cs : List BoardCharge) (b : BoardValue)
    (r : RunOutcome) → IsOfSource text program m model → StartsWith b x → IsRunOfWords cs b r → all_amounts cs < 2 ^ 64
    → ResumedRunIsTold model c text program m x cs b r

-- the charges of a trace leave words at each power-up, and have fewer than 2^64 cycles and instructions in all
abbrev pub TracesAreFew : Type 0
TracesAreFew = (t : TraceValue) → IsTraceOfWords t → ArePowerStates (charges_of t.charges) × (all_amounts (charges_of t.charges) < 2 ^ 64)
