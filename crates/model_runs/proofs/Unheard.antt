-- A run of a program that keeps what it owes to a model never reads EVENT where there is no ANS.
use Rattle.std.proofs.Common.{◌≡◌, refl, List, ℕ, None}
use Rattle.fram_board.specs.declared.events.Heard.TheVariants as heard
use Rattle.fram_board.specs.Board.{BoardValue}
use Rattle.fram_board.specs.Run.{BoardCharge, RunOutcome}
use Rattle.board_run.specs.Events.{heard_by, NeverReads}
use Rattle.machine_effects.specs.World.{World}
use Rattle.crash_rules.specs.Model.{Model}
use Rattle.crash_rules.specs.History.{first_history}
use Rattle.crash_rules.specs.Runs.{Program}
use Rattle.crash_rules.specs.Laws.{Origin}
use Rattle.run_charges.specs.Laws.{IsRunOfWords}
use Rattle.run_charges.proofs.Interface.{moments_hear_nothing, run_silent}
use Rattle.model_runs.specs.Bears.{BearsModel}
use Rattle.model_runs.proofs.Fronts.{stood, ready_at_first, runs_so, runs_alone}

pub never_reads : {St : Type 0} (m : Model St) (c : Program) (readings : List ℕ) (origin : Origin St) (x : World) (b : BoardValue)
    → BearsModel m c readings origin x b → m.marks.answer ≡ None → (cs : List BoardCharge) (r : RunOutcome) → IsRunOfWords cs b r
    → b.line.heard ≡ heard.Nothing → NeverReads r
never_reads m c readings origin x b bears none cs r run silent =
    let on = stood m c readings origin x b bears in
    let ready = ready_at_first m c readings origin x b bears run.whole run.words in
    record {
      moments = moments_hear_nothing heard_by refl (λ kind done offered. refl) b r.moments silent
          (runs_alone m c readings origin x b bears none cs r run) (runs_so m c readings origin x b bears cs r run).moments;
      stop = run_silent on cs b (first_history m.marks x) r ready silent run.starts run.run;
    }
