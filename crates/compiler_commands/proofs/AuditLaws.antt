-- What `try` or `undo` prints is a report that its source could have told.
use Rattle.std.proofs.Common.{◌≡◌, ◌∙◌, ℕ, Bool, true, false, List, [], ◌∷◌, ◌++◌, length, map, All, Option, Some, None, arith, refl, sym, ap, ap₂, subst, inr}
use Rattle.std.specs.Prelude.{if◌then◌else◌}
use Rattle.std.proofs.lemmas.List.{length-map}
use Rattle.std.proofs.lemmas.List.Elements.{All-nil, All-cons, All-append, All-head, All-tail}
use Rattle.image_map.specs.declared.parts.RingPlaces.{RingPlaces}
use Rattle.image_map.specs.MapValue.{MapValue}
use Rattle.plain_commands.specs.alp_io.declared.report.Reason.{Reason}
use Rattle.plain_commands.specs.alp_io.declared.report.Reason.TheVariants as reason
use Rattle.plain_commands.specs.alp_io.Report.{bound_line, end_line}
use Rattle.plain_commands.specs.fram_board.msp_step.declared.machine.Stop.TheVariants as stop
use Rattle.plain_commands.specs.energy_trace.TraceValue.{Event}
use Rattle.plain_commands.specs.image_text.ImageValue.{ImageValue}
use Rattle.plain_commands.specs.fram_board.Board.{BoardValue, fresh}
use Rattle.plain_commands.specs.fram_board.Run.{Action, PowerUp, Execute, Moment, End, Charges, Stopped}
use Rattle.plain_commands.specs.board_run.History.{History, is_decide, is_done, noted, word_in}
use Rattle.plain_commands.specs.board_run.Events.{event_counts}
use Rattle.plain_commands.specs.board_run.Report.{events_lines}
use Rattle.plain_commands.specs.cost_bound.declared.allowance.Allow.{Allow}
use Rattle.plain_commands.specs.cost_bound.Allowance.{uses_events}
use Rattle.plain_commands.specs.source_values.Statements.{Outcome}
use Rattle.plain_commands.specs.source_values.Runs.{CheckedProgram, TaskInputs, first_state, source_run}
use Rattle.plain_commands.specs.source_report.SourceReport.{given_of, readings_of, source_report}
use Rattle.source_runs.specs.Tells.{Answers, no_answers, answer_by, answers_behind, CommittedAttempt, attempts_by, attempts_of, spans_in, given_to}
use Rattle.source_runs.specs.Tells.{at_first, IsEndOf}
use Rattle.source_maps.specs.Maps.{event_ring, map_of}
use Rattle.memory_map.specs.declared.runtime.Logging.{Logging}
use Rattle.compiler_commands.specs.Built.{IsBuiltFor}
use Rattle.compiler_commands.specs.Audited.{TriedReportsAreGood, TriedReportsAreAnsweredYes}
use Rattle.plain_commands.proofs.Interface.{of_same}

-- a run that its source tells ends with the charges or the readings
never_off : (end : End) (next : Outcome) (why : Reason) → IsEndOf end next why → why ≡ reason.Off → ⊥
never_off Charges next why ends off = cc (ends, off)
never_off (Stopped stop.NoReading) next why ends off = let is = ends.0 in cc (is, off)
never_off (Stopped stop.Off) next why ends off = ends
never_off (Stopped (stop.Illegal pc word)) next why ends off = ends
never_off (Stopped (stop.Bus pc address)) next why ends off = ends

-- an attempt without answers
abbrev IsUnanswered : CommittedAttempt → Type 0
IsUnanswered a = a.answers ≡ []

one_or_none : (c : Bool) (a : CommittedAttempt) → IsUnanswered a → All IsUnanswered (if c then a ∷ [] else [])
one_or_none true a none = All-cons IsUnanswered a [] none (All-nil IsUnanswered)
one_or_none false a none = All-nil IsUnanswered

-- no answers are known
record HasNone (a : Answers) : Type 0 where
  pub since : a.since ≡ []
  pub decided : a.decided ≡ []

gated_none : (c d : Bool) (since : List ℕ) (a : Answers) → since ≡ [] → HasNone a
    → HasNone (if c then record a { since = [] } else record { since = since; decided = if d then since else a.decided })
gated_none true d since a none h = record { since = refl; decided = h.decided }
gated_none false true since a none h = record { since = none; decided = none }
gated_none false false since a none h = record { since = none; decided = h.decided }

module _ (m : MapValue) (ring : m.ring ≡ None) where
  behind_none : (h : History) (action : Action) (b : BoardValue) (a : Answers) → HasNone a → HasNone (answers_behind m h action b a)
  behind_none h PowerUp b a none = record { since = refl; decided = none.decided }
  behind_none h (Execute kind done offered) b a none =
      let now = word_in b.fram m.words.gate in
      let nothing : a.since ++ answer_by m.ring done.wrote b.fram ≡ [] =
      ap₂ (λ (since : List ℕ) (r : Option RingPlaces). since ++ answer_by r done.wrote b.fram) none.since ring in
      gated_none (is_done h.gate now) (is_decide h.gate now) (a.since ++ answer_by m.ring done.wrote b.fram) a nothing none

  by_none : (h : History) (action : Action) (b : BoardValue) (a : Answers) → HasNone a → All IsUnanswered (attempts_by m h a action b)
  by_none h PowerUp b a none = All-nil IsUnanswered
  by_none h (Execute kind done offered) b a none =
      one_or_none (is_done h.gate (word_in b.fram m.words.gate)) (record { span = record { from = h.span_from; to = h.span_to }; answers = a.decided })
      none.decided

  -- where a map has no ring no attempt has answers
  none_answered : (h : History) (a : Answers) → HasNone a → (ms : List Moment) → All IsUnanswered (attempts_of m h a ms)
  none_answered h a none [] = All-nil IsUnanswered
  none_answered h a none (x ∷ xs) =
      All-append IsUnanswered (attempts_by m h a x.action x.after) (attempts_of m (noted h x) (answers_behind m h x.action x.after a) xs)
      (by_none h x.action x.after a none) (none_answered (noted h x) (answers_behind m h x.action x.after a) (behind_none h x.action x.after a none) xs)

-- the tasks of such attempts are given what a report tells
same_given : (readings : List ℕ) (ws : List CommittedAttempt) → All IsUnanswered ws → map (given_to readings) ws ≡ map (given_of readings) (spans_in ws)
same_given readings [] none = refl
same_given readings (a ∷ ws) none =
    let head : given_to readings a ≡ given_of readings a.span =
    ap (λ (answers : List ℕ). record { readings = readings_of readings a.span; answers = answers }) (All-head IsUnanswered a ws none) in
    ap₂ (λ (g : TaskInputs) (gs : List TaskInputs). g ∷ gs) head (same_given readings ws (All-tail IsUnanswered a ws none))

-- a source that takes no events has no ring
no_ring : (events : Bool) → events ≡ false → (if events then Some event_ring else None) ≡ None
no_ring true off = absurd (cc off)
no_ring false off = refl

ringless : {logging : Logging} (source file : List ℕ) (p : CheckedProgram) (allow : Allow) (image : ImageValue)
    (built : IsBuiltFor logging source p allow image file) → uses_events p ≡ false → built.map.ring ≡ None
ringless source file p allow image built off =
    let c = built.compiled in
    let both : Some built.map ≡ Some (map_of source p c.layout allow) = sym built.mapped ∙ c.map in
    let same : built.map ≡ map_of source p c.layout allow = cc both in
    ap (λ (k : MapValue). k.ring) same ∙ no_ring c.layout.runtime.events (ap (λ r. r.events) c.is_layout.runtime ∙ off)

pub tried_reports_are_good : TriedReportsAreGood
tried_reports_are_good logging source trace file output t no_event none =
    let r = t.report.outcome in
    let heard = t.told.heard in
    let spans = spans_in t.told.attempts in
    let ring = ringless source file t.program t.allow t.image t.built no_event in
    let unanswered : All IsUnanswered t.told.attempts = subst (All IsUnanswered) (sym t.told.attempts_are)
    (none_answered t.built.map ring (at_first t.built.map (fresh t.image.words t.charges.readings t.charges.events)) no_answers
    (record { since = refl; decided = refl }) r.moments) in
    let end = end_line t.told.why (length t.told.attempts) r.board.receiver.accepted r.board.receiver.repeats in
    let lines_of : List Event → ℕ → List ℕ = λ events bound. bound_line bound ++ (source_report source t.program 1 spans t.told.transitions
    ++ (events_lines events (event_counts (Some t.built.map) r) ++ end)) in (
      length t.told.attempts,
      record {
        head = bound_line t.allow.cycles;
        spans = spans;
        transitions = t.told.transitions;
        reason = t.told.why;
        accepted = r.board.receiver.accepted;
        repeats = r.board.receiver.repeats;
        bounded = inr refl;
        apart = t.told.apart;
        run = ap (source_run t.program (first_state t.program)) (sym (same_given t.charges.readings t.told.attempts unanswered)) ∙ t.told.source;
        count = length-map t.told.attempts (λ (a : CommittedAttempt). a.span);
        on_board = never_off r.ending _ t.told.why t.told.ending;
        words = t.told.words;
        few_accepted = omega (arith, heard);
        few_repeats = omega (arith, heard);
        lines = t.told.lines ∙ ap₂ lines_of none t.built.bound;
      },
    )

pub tried_reports_are_answered_yes : TriedReportsAreAnsweredYes
tried_reports_are_answered_yes logging source trace file output t no_event none ending line a =
    let good = tried_reports_are_good logging source trace file output t no_event none in
    of_same source trace output t.program t.allow t.charges good.0 good.1 t.trace_said ending line a (a.only t.program t.allow t.accepted)
