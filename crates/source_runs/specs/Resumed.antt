-- A run of the board that goes on from a saved state, as its source tells it.
use Rattle.std.specs.Prelude.{◌≡◌, ℕ, ◌+◌, ◌^◌, ◌≤◌, ◌<◌, Bool, true, false, List, [], ◌∷◌, ◌++◌, length, map, sum_by, Some}
use Rattle.alp_io.specs.declared.report.Reason.{Reason}
use Rattle.alp_io.specs.declared.report.Reason.TheVariants as reason
use Rattle.alp_io.specs.Report.{bound_line, end_line}
use Rattle.image_map.specs.MapValue.{MapValue}
use Rattle.fram_board.specs.Board.{BoardValue}
use Rattle.fram_board.specs.Run.{Charges, RunOutcome, BoardCharge}
use Rattle.board_run.specs.Events.{event_counts, none_accepted}
use Rattle.board_run.specs.Report.{after_all, events_lines}
use Rattle.source_values.specs.Runs.{CheckedProgram, State, Transition, state_after, state_behind, source_run, attempt_of}
use Rattle.source_report.specs.Apart.{AreApart}
use Rattle.source_report.specs.SourceReport.{source_report}
use Rattle.machine_effects.specs.World.{World}
use Rattle.cost_bound.specs.Allowance.{uses_events}
use Rattle.source_runs.specs.Tells.{CommittedAttempt, attempts_of, no_answers, spans_in, given_to, given_next, at_first, cost_of, cost_due, EachChargePays}
use Rattle.source_runs.specs.Tells.{IsEndOf, IsUninterrupted}
use Rattle.source_runs.specs.Transitions.{HasWordsOf}

-- the attempts of transitions whose commit was pending at the start: these have no readings and no answers of their own
abbrev pub unread : List Transition → List CommittedAttempt
unread ts = map (λ t. record { span = record { from = 0; to = 0 }; answers = [] }) ts

-- whether a commit was pending at the start
abbrev pub is_pending : List Transition → Bool
is_pending [] = false
is_pending (t ∷ ts) = true

-- the report of a run, as the source tells it from a state on, behind the transitions whose commit was pending at the start: none or one.
-- It is the source's report of these and of the source's transitions from there on, on the spans of the dones, each of which one task takes
-- exactly, given the answers that were stored to ANS; what became of the events that were to come, if any were; and how it ended, with
-- the number of all. All else is as of a run from the first state
pub record IsToldFrom (text : List ℕ) (program : CheckedProgram) (m : MapValue) (first : List Transition) (s : State) (cs : List BoardCharge)
    (b : BoardValue) (r : RunOutcome) (report : List ℕ) : Type 0 where
  pub attempts : List CommittedAttempt
  pub transitions : List Transition
  pub why : Reason
  pub attempts_are : unread first ++ attempts ≡ attempts_of m (at_first m b) no_answers r.moments
  pub source : source_run program s (map (given_to b.readings) attempts) ≡ Some transitions
  pub lines : report ≡ bound_line m.bound ++ (source_report text program 1 (spans_in (unread first ++ attempts)) (first ++ transitions)
      ++ (events_lines b.line.coming (event_counts (Some m) r)
      ++ end_line why (length first + length attempts) r.board.receiver.accepted r.board.receiver.repeats))
  pub silent : uses_events program ≡ false → event_counts (Some m) r ≡ none_accepted r.board
  pub ending : let t = state_behind s transitions in IsEndOf r.ending (attempt_of program t.task t.shared (given_next m b r)) why
  pub progress : EachChargePays m (cost_due m (cost_of program) (is_pending first)) cs b (at_first m b) r
  pub apart : AreApart 0 (length b.readings) (spans_in (unread first ++ attempts))
  pub words : sum_by (λ t. length t.emitted) (first ++ transitions) ≤ r.board.receiver.accepted
  pub heard : r.board.receiver.accepted + r.board.receiver.repeats < b.receiver.accepted + b.receiver.repeats + 2 ^ 64
  pub uninterrupted : length cs ≡ 1 → IsUninterrupted b.readings (after_all (at_first m b) r.moments).since (spans_in attempts)

-- a run in which the commit that was pending at the start isn't done: it ended with its charges, and its report has no transition
pub record IsToldUndone (program : CheckedProgram) (m : MapValue) (cs : List BoardCharge) (b : BoardValue) (r : RunOutcome) (report : List ℕ) : Type 0 where
  pub attempts_are : [] ≡ attempts_of m (at_first m b) no_answers r.moments
  pub lines : report ≡ bound_line m.bound ++ (events_lines b.line.coming (event_counts (Some m) r)
      ++ end_line reason.Charges 0 r.board.receiver.accepted r.board.receiver.repeats)
  pub silent : uses_events program ≡ false → event_counts (Some m) r ≡ none_accepted r.board
  pub ending : r.ending ≡ Charges
  pub progress : EachChargePays m (cost_due m (cost_of program) true) cs b (at_first m b) r
  pub heard : r.board.receiver.accepted + r.board.receiver.repeats < b.receiver.accepted + b.receiver.repeats + 2 ^ 64

-- a run that began with a pending commit, which makes a transition to a state: it isn't done, or the run is told from there on
pub data IsToldBehind (text : List ℕ) (program : CheckedProgram) (m : MapValue) (pending : Transition) (to : State) (cs : List BoardCharge)
    (b : BoardValue) (r : RunOutcome) (report : List ℕ) : Type 0 where
  CommitUndone : IsToldUndone program m cs b r report → IsToldBehind text program m pending to cs b r report
  CommitDone : IsToldFrom text program m (pending ∷ []) to cs b r report → IsToldBehind text program m pending to cs b r report

-- a world has the words of a state, from which a transition leads to another
pub record HasTransition (m : MapValue) (x : World) (s to : State) (t : Transition) : Type 0 where
  pub words : HasWordsOf m x s
  pub from : t.from ≡ s.task
  pub before : t.before ≡ s.shared
  pub few : length t.emitted ≤ 256
  pub leaves : state_after s t ≡ to
