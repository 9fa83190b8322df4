-- The join of a run's lines and a source's.
use Rattle.std.specs.Prelude.{◌≡◌, ℕ, ◌+◌, ◌^◌, ◌<◌, List, length}
use Rattle.image_map.specs.MapValue.{MapValue}
use Rattle.source_values.specs.Runs.{CheckedProgram, State, Transition}
use Rattle.source_report.specs.SourceReport.{source_report}
use Rattle.machine_effects.specs.World.{World}
use Rattle.crash_rules.specs.History.{Done}
use Rattle.model_runs.specs.Events.{counted, dones_lines}
use Rattle.source_runs.specs.Naming.{IsMapOf}
use Rattle.source_runs.specs.Tells.{spans_in}
use Rattle.source_runs.specs.Transitions.{HasWordsOf, StandForTransitions, committed_by}

-- the lines of dones that stand for transitions are the source's lines of these on the dones' own committed readings
abbrev pub DonesAreTransitions : Type 0
DonesAreTransitions = (text : List ℕ) (program : CheckedProgram) (m : MapValue) → IsMapOf text program m
    → (k : ℕ) (x : World) (s : State) (ds : List Done) (ts : List Transition) → HasWordsOf m x s → StandForTransitions m s ds ts
    → k + length ds < 2 ^ 64
    → dones_lines m (counted k) x ds ≡ source_report text program (k + 1) (spans_in (committed_by ds)) ts
