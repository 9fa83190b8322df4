-- A run that stops stops where the source is short.
use Rattle.std.proofs.Common.{◌≡◌, ◌<◌, ℕ, false, refl, sym, ap, ◌∙◌, subst, List, [], drop}
use Rattle.msp_step.specs.declared.machine.Stop.{Stop}
use Rattle.msp_step.specs.declared.machine.Stop.TheVariants as stop
use Rattle.fram_board.specs.Board.{BoardValue}
use Rattle.fram_board.specs.Run.{RunOutcome}
use Rattle.machine_effects.specs.World.{World}
use Rattle.machine_effects.specs.Going.{going}
use Rattle.crash_rules.specs.Model.{Model}
use Rattle.crash_rules.specs.History.{History, observe, behind_boot, first_history, given_since}
use Rattle.crash_rules.specs.Runs.{Program}
use Rattle.crash_rules.specs.Laws.{Origin, IsSettled, Reaches, Phase, UndecidedPhase, DecidedPhase, CommittingPhase, PowersUpBehind}
use Rattle.crash_rules.proofs.Interface.{stops_short}
use Rattle.run_charges.specs.View.{outside_of}
use Rattle.run_charges.proofs.Interface.{run_front, StopsBehind, run_halts}
use Rattle.model_runs.specs.Runs.{history_behind, IsShort}
use Rattle.model_runs.specs.Bears.{BearsModel}
use Rattle.model_runs.specs.Laws.{StopsWhereShort}
use Rattle.model_runs.proofs.Fronts.{stood, runs_so, at_front, powers_up}

module _ {St : Type 0} (m : Model St) (c : Program) (readings : List ℕ) (origin : Origin St) (x : World) (b : BoardValue)
    (bears : BearsModel m c readings origin x b) where
  abbrev first : History
  first = first_history m.marks x

  -- the state of the last done is that of a task, and nothing is pending
  phase_task : (k : History) (z : St) → k.decided ≡ false → Phase m readings origin z k → (m.task_number z < m.tasks) × IsSettled origin k.completed
  phase_task k z d (UndecidedPhase u settled w) = (bears.model.undecided_task z k.world w, settled)
  phase_task k z d (DecidedPhase next u t w) = absurd (cc (u, d))
  phase_task k z d (CommittingPhase u p n w) = absurd (cc (u, d))

  stopped : (r : RunOutcome) (e : Stop) → StopsBehind (stood m c readings origin x b bears) b first first r.moments e
      → (e ≡ stop.NoReading) × IsShort m readings origin (history_behind m x r.moments)
  stopped r e stops =
      let l = stops.halts in
      let up : PowersUpBehind m c readings origin l.start =
      powers_up m c readings origin x b bears l.at.charges l.at.end l.before l.at.charged l.start l.is_powered l.from in
      let s = stops_short m c bears.model bears.program readings origin l.start up l.steps l.price e l.halts in
      let st = s.1.0 in
      let behind = observe m.marks (going c.step l.steps l.start).effects (behind_boot l.before) in
      let task = phase_task behind st.state s.1.1 st.phase in
      let now = history_behind m x r.moments in
      let since = stops.same.since in
      let answers = stops.same.answers in
      let given : given_since m.marks readings now ≡ given_since m.marks readings behind =
      λ i. record { readings = drop (sym since i) readings; answers = sym answers i } in (
        s.0,
        record {
          state = st.state;
          settled = subst (IsSettled origin) stops.same.completed task.1;
          reached = subst (λ ds. Reaches m readings origin ds st.state) stops.same.completed st.reached;
          is_task = task.0;
          short = ap (m.task st.state) given ∙ s.1.2;
        },
      )

-- a run stops for want of a reading alone, and only where the source is short
pub stops_where_short : {St : Type 0} (m : Model St) (c : Program) → StopsWhereShort m c
stops_where_short m c readings origin x cs b r run bears e h =
    let first = first_history m.marks x in
    let at = at_front m c readings origin x b bears [] (run_front cs b r [] r.moments (runs_so m c readings origin x b bears cs r run) refl) in
    stopped m c readings origin x b bears r e (run_halts (stood m c readings origin x b bears) b first cs b first r run.starts run.run at e h)
