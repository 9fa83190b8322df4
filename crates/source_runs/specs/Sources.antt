-- A model of the crash theorem that is a source's, and a board that begins with it.
use Rattle.std.specs.Prelude.{◌≡◌, ℕ, ◌<◌, false, List, All, Some, None}
use Rattle.image_map.specs.MapValue.{MapValue}
use Rattle.image_map.specs.Kept.{IsMap}
use Rattle.fram_board.specs.Board.{BoardValue}
use Rattle.fram_board.specs.Run.{RunOutcome}
use Rattle.source_values.specs.Statements.{short}
use Rattle.cost_bound.specs.Allowance.{uses_events}
use Rattle.source_values.specs.Runs.{CheckedProgram, State, Transition, TaskInputs, EmitsFit, first_state, state_after, transition_of, attempt_of}
use Rattle.machine_effects.specs.World.{World}
use Rattle.crash_rules.specs.Model.{Model, Given, nothing_given, Ends, Short, bound}
use Rattle.crash_rules.specs.History.{History, first_history}
use Rattle.crash_rules.specs.Runs.{Program}
use Rattle.crash_rules.specs.Laws.{Resting}
use Rattle.run_charges.specs.Charges.{observed}
use Rattle.model_runs.specs.Events.{marks_of, IsInFront}
use Rattle.model_runs.specs.EventLaws.{StartsWith}
use Rattle.source_runs.specs.Naming.{IsMapOf}
use Rattle.source_runs.specs.Tells.{cost_of}
use Rattle.source_runs.specs.Transitions.{HasWordsOf}
use Rattle.model_runs.specs.Runs.{no_delay}
use Rattle.model_runs.specs.Bears.{BearsModel}

-- what a task of the source is given, by what its model's is
abbrev pub inputs_of : Given → TaskInputs
inputs_of given = record { readings = given.readings; answers = given.answers }

-- a model whose tasks are a source's, with their costs, and whose commits nothing delays, and where GATE and the words of each state are as a map says
pub record IsOfSource (text : List ℕ) (program : CheckedProgram) (m : MapValue) (model : Model State) : Type 0 where
  pub is_map : IsMap m
  pub front : IsInFront m
  pub of_source : IsMapOf text program m
  pub ring : uses_events program ≡ false → m.ring ≡ None
  pub emits_fit : All (EmitsFit program) program.tasks
  pub marks : model.marks ≡ marks_of m
  pub task_number : (s : State) → model.task_number s ≡ s.task
  pub bound : bound model ≡ m.bound
  pub costs : model.task_cost ≡ cost_of program
  pub delay : model.delay ≡ no_delay
  pub transits : (s u : State) (given : Given) → model.task s given ≡ Ends u nothing_given
      → (t : Transition) × (transition_of program s (inputs_of given) ≡ Some t) × (u ≡ state_after s t)
  pub is_short : (s : State) (given : Given) → model.task_number s < model.tasks → model.task s given ≡ Short
      → attempt_of program s.task s.shared (inputs_of given) ≡ short
  pub rests : (s : State) (x : World) → model.Rests s x → HasWordsOf m x s

-- a board that begins with a compiled source at its first state
pub record BeginsWithSource (program : CheckedProgram) (m : MapValue) (model : Model State) (c : Program) (x : World) (b : BoardValue) : Type 0 where
  pub bears : BearsModel model c b.readings (Resting (first_state program)) x b
  pub starts : StartsWith b x
  pub undecided : model.Undecided (first_state program) x
  pub words : HasWordsOf m x (first_state program)

-- what is known of a run, by the events at GATE
abbrev pub events_of : MapValue → World → RunOutcome → History
events_of m x r = observed (marks_of m) r.moments (first_history (marks_of m) x)
