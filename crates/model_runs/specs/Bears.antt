-- A program that keeps what it owes to a model, standing on a board.
use Rattle.std.specs.Prelude.{ℕ, ◌-◌, List}
use Rattle.fram_board.specs.Board.{BoardValue}
use Rattle.machine_effects.specs.World.{World}
use Rattle.crash_rules.specs.Model.{Model, ModelLaws}
use Rattle.crash_rules.specs.History.{first_history}
use Rattle.crash_rules.specs.Runs.{Program, ProgramLaws}
use Rattle.crash_rules.specs.Laws.{Origin, Begins}
use Rattle.run_charges.specs.View.{outside_of}
use Rattle.run_charges.specs.Laws.{StandsIn}

-- a program that keeps what it owes to a model stands on a board, whose world then a run may begin with
pub record BearsModel {St : Type 0} (m : Model St) (c : Program) (readings : List ℕ) (origin : Origin St) (x : World) (b : BoardValue) : Type 0 where
  pub model : ModelLaws m
  pub program : ProgramLaws m c
  pub begins : Begins m readings origin x (outside_of b)
  pub stands : StandsIn c m.marks b (first_history m.marks x)
