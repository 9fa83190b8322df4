-- A run of the board as its source tells it.
use Rattle.std.specs.Prelude.{◌≡◌, ℕ, ◌+◌, ◌-◌, ◌*◌, ◌%◌, ◌^◌, ◌≤◌, ◌<◌, ◌==◌, ◌&&◌, Bool, false, if◌then◌else◌, List, [], ◌∷◌, ◌++◌, length, map, drop}
use Rattle.std.specs.Prelude.{sum_by, Option, Some, None}
use Rattle.alp_io.specs.declared.report.Reason.{Reason}
use Rattle.alp_io.specs.declared.report.Reason.TheVariants as reason
use Rattle.alp_io.specs.Report.{bound_line, end_line}
use Rattle.image_map.specs.declared.parts.RingPlaces.{RingPlaces}
use Rattle.image_map.specs.MapValue.{MapValue}
use Rattle.msp_step.specs.declared.machine.Stop.{Stop}
use Rattle.msp_step.specs.declared.machine.Stop.TheVariants as stop
use Rattle.fram_board.specs.Board.{BoardValue, powered}
use Rattle.fram_board.specs.Run.{Cycles, Action, PowerUp, Execute, Moment, End, Charges, Stopped, RunOutcome, run_outcome, after_moments}
use Rattle.fram_board.specs.Run.{BoardCharge, ChargeRun, power_up_of}
use Rattle.board_run.specs.History.{History, start_with, is_decide, is_done, word_in, noted}
use Rattle.board_run.specs.Events.{event_counts, none_accepted}
use Rattle.board_run.specs.Report.{after_all, events_lines}
use Rattle.source_values.specs.Statements.{Outcome, short}
use Rattle.cost_bound.specs.Summaries.{summaries}
use Rattle.cost_bound.specs.Allowance.{task_bound, uses_events, versions_of}
use Rattle.source_values.specs.Runs.{CheckedProgram, Transition, TaskInputs, first_state, state_behind, source_run, task_body, attempt_of}
use Rattle.source_report.specs.Apart.{AreApart}
use Rattle.source_report.specs.SourceReport.{Committed, IsConsecutive, position_after, readings_of, source_report}

-- The answers of `next_event()` by what a run's moments stored to ANS: those since the last power-up or done, and those of the last decide, which were
-- stored between the last power-up or done before it and the decide.
pub record Answers : Type 0 where
  pub since : List ℕ
  pub decided : List ℕ

-- there were none yet
abbrev pub no_answers : Answers
no_answers = record { since = []; decided = [] }

-- the word that a write left at a place of the FRAM, if it wrote there
abbrev pub written_at : ℕ → Option ℕ → List ℕ → List ℕ
written_at place None fram = []
written_at place (Some a) fram = if a - a % 2 == place then word_in fram place ∷ [] else []

-- the answer that a write was, if it wrote to ANS, which there is where a map has a ring
abbrev pub answer_by : Option RingPlaces → Option ℕ → List ℕ → List ℕ
answer_by None wrote fram = []
answer_by (Some ring) wrote fram = written_at ring.answer wrote fram

-- the answers behind a change of GATE from one word to another, where these were stored since the last power-up or done
abbrev pub answers_gated : ℕ → ℕ → List ℕ → Answers → Answers
answers_gated was now since a =
    if is_done was now then record a { since = [] } else record { since = since; decided = if is_decide was now then since else a.decided }

-- the answers behind an action that left this board
abbrev pub answers_behind : MapValue → History → Action → BoardValue → Answers → Answers
answers_behind m h PowerUp b a = record a { since = [] }
answers_behind m h (Execute kind done offered) b a =
    answers_gated h.gate (word_in b.fram m.words.gate) (a.since ++ answer_by m.ring done.wrote b.fram) a

-- and behind moments
abbrev pub answers_after : MapValue → History → Answers → List Moment → Answers
answers_after m h a [] = a
answers_after m h a (x ∷ xs) = answers_after m (noted h x) (answers_behind m h x.action x.after a) xs

-- a committed attempt: the span of its readings, and its answers
pub record CommittedAttempt : Type 0 where
  pub span : Committed
  pub answers : List ℕ

-- the attempt that an action completed, where it left this board and GATE tells of one, or none
abbrev pub attempts_by : MapValue → History → Answers → Action → BoardValue → List CommittedAttempt
attempts_by m h a PowerUp b = []
attempts_by m h a (Execute kind done offered) b =
    if is_done h.gate (word_in b.fram m.words.gate) then record { span = record { from = h.span_from; to = h.span_to }; answers = a.decided } ∷ [] else []

-- the attempts that are completed in these moments, in order
abbrev pub attempts_of : MapValue → History → Answers → List Moment → List CommittedAttempt
attempts_of m h a [] = []
attempts_of m h a (x ∷ xs) = attempts_by m h a x.action x.after ++ attempts_of m (noted h x) (answers_behind m h x.action x.after a) xs

-- their spans
abbrev pub spans_in : List CommittedAttempt → List Committed
spans_in attempts = map (λ a. a.span) attempts

-- what the task of an attempt was given
abbrev pub given_to : List ℕ → CommittedAttempt → TaskInputs
given_to readings a = record { readings = readings_of readings a.span; answers = a.answers }

-- what is known of a run before its first moment
abbrev pub at_first : MapValue → BoardValue → History
at_first m b = start_with b.fram (Some m)

-- the cycles that a task takes at most, by its number: from a boot or from the end of a commit on, up to the end of its own commit
abbrev pub cost_of : CheckedProgram → ℕ → ℕ
cost_of p t = task_bound (summaries p) (uses_events p) (versions_of p) p.shared (task_body p t)

-- what the transition to come costs at most, by what is known of a run: that of its task, which CUR names since the last done. A commit that was
-- pending at the start costs the bound
abbrev pub cost_due : MapValue → (ℕ → ℕ) → Bool → History → ℕ
cost_due m cost pending h = if pending && (h.completed == 0) then m.bound else cost h.task

-- what the transition costs that an action completed, where it left this board and GATE tells of one
abbrev pub costs_by : (History → ℕ) → MapValue → History → Action → BoardValue → ℕ
costs_by due m h PowerUp b = 0
costs_by due m h (Execute kind done offered) b = if is_done h.gate (word_in b.fram m.words.gate) then due h else 0

-- what the transitions cost together that are completed in these moments, and the one that is to come behind them
abbrev pub costs_in : (History → ℕ) → MapValue → History → List Moment → ℕ
costs_in due m h [] = due h
costs_in due m h (x ∷ xs) = costs_by due m h x.action x.after + costs_in due m (noted h x) xs

-- What a charge that was spent completed, in which so many events arose. Each event may take 100 of what it has. One of cycles has a transition at
-- least for each bound that it has beside these. And each, of cycles or of instructions, is less than these and what its transitions cost together
-- with the one that was to come then: so one that holds the costs of the next n tasks, whatever the charge before left, has n transitions
pub record PaysFor (m : MapValue) (due : History → ℕ) (c : BoardCharge) (arisen : ℕ) (h : History) (ms : List Moment) : Type 0 where
  pub bounds : c.measure ≡ Cycles → (n : ℕ) → n * m.bound + 100 * arisen ≤ c.amount → n ≤ length (attempts_of m h no_answers ms)
  pub tasks : c.amount < costs_in due m h ms + 100 * arisen

-- a run from a board and a history on, each of whose charges that is spent pays for its transitions
pub data EachChargePays (m : MapValue) (due : History → ℕ) : List BoardCharge → BoardValue → History → RunOutcome → Type 0 where
  AllSpent : (b : BoardValue) (h : History) → EachChargePays m due [] b h (run_outcome [] Charges b)
  SpentOne : (c : BoardCharge) (cs : List BoardCharge) (b : BoardValue) (h : History) (ms : List Moment) (end : BoardValue) (rest : RunOutcome)
      → ChargeRun c.measure c.amount (powered b c.start) (run_outcome ms Charges end)
      → PaysFor m due c (end.line.arisen - b.line.arisen) h (power_up_of b c.start ∷ ms)
      → EachChargePays m due cs end (after_all h (power_up_of b c.start ∷ ms)) rest
      → EachChargePays m due (c ∷ cs) b h (after_moments (power_up_of b c.start ∷ ms) rest)
  StoppedIn : (c : BoardCharge) (cs : List BoardCharge) (b : BoardValue) (h : History) (ms : List Moment) (stop : Stop) (end : BoardValue)
      → ChargeRun c.measure c.amount (powered b c.start) (run_outcome ms (Stopped stop) end)
      → EachChargePays m due (c ∷ cs) b h (run_outcome (power_up_of b c.start ∷ ms) (Stopped stop) end)

-- what the next attempt is given behind a run: the readings that are left from the last power-up or done on, and the answers since
abbrev pub given_next : MapValue → BoardValue → RunOutcome → TaskInputs
given_next m b r = record {
  readings = drop (after_all (at_first m b) r.moments).since b.readings;
  answers = (answers_after m (at_first m b) no_answers r.moments).since;
}

-- why a run ended, where this is what the next attempt would come to on what it is given
abbrev pub IsEndOf : End → Outcome → Reason → Type 0
IsEndOf Charges next why = why ≡ reason.Charges
IsEndOf (Stopped stop.NoReading) next why = (why ≡ reason.Readings) × (next ≡ short)
IsEndOf (Stopped stop.Off) next why = ⊥
IsEndOf (Stopped (stop.Illegal pc word)) next why = ⊥
IsEndOf (Stopped (stop.Bus pc address)) next why = ⊥

-- what a run under one charge alone has: its spans follow one another from the first reading on, up to the last done
pub record IsUninterrupted (readings : List ℕ) (since : ℕ) (spans : List Committed) : Type 0 where
  pub consecutive : IsConsecutive 0 (length readings) spans
  pub at_last : position_after 0 spans ≡ since

-- the report of a run, as the source tells it: behind the bound the source's report of the transitions on the spans of the dones, each of which one
-- task takes exactly, given the answers that were stored to ANS; what became of the events that were to come, if any were; and how it ended, with
-- the number of transitions. Of a source that takes no events none is accepted. The spans are in order and apart, whatever was cut off between
-- them; the receiver accepted the words that the transitions emitted, at least, and heard fewer than 2^64
pub record IsToldBySource (text : List ℕ) (program : CheckedProgram) (m : MapValue) (cs : List BoardCharge) (b : BoardValue) (r : RunOutcome)
    (report : List ℕ) : Type 0 where
  pub attempts : List CommittedAttempt
  pub transitions : List Transition
  pub why : Reason
  pub attempts_are : attempts ≡ attempts_of m (at_first m b) no_answers r.moments
  pub source : source_run program (first_state program) (map (given_to b.readings) attempts) ≡ Some transitions
  pub lines : report ≡ bound_line m.bound ++ (source_report text program 1 (spans_in attempts) transitions
      ++ (events_lines b.line.coming (event_counts (Some m) r) ++ end_line why (length attempts) r.board.receiver.accepted r.board.receiver.repeats))
  pub silent : uses_events program ≡ false → event_counts (Some m) r ≡ none_accepted r.board
  pub ending : let s = state_behind (first_state program) transitions in
      IsEndOf r.ending (attempt_of program s.task s.shared (given_next m b r)) why
  pub progress : EachChargePays m (λ h. cost_of program h.task) cs b (at_first m b) r
  pub apart : AreApart 0 (length b.readings) (spans_in attempts)
  pub words : sum_by (λ t. length t.emitted) transitions ≤ r.board.receiver.accepted
  pub heard : r.board.receiver.accepted + r.board.receiver.repeats < b.receiver.accepted + b.receiver.repeats + 2 ^ 64
  pub uninterrupted : length cs ≡ 1 → IsUninterrupted b.readings (after_all (at_first m b) r.moments).since (spans_in attempts)
