-- The report of a run is the source's, on the committed readings of its dones.
use Rattle.std.proofs.Common.{◌≡◌, ℕ, ◌+◌, ◌-◌, ◌<◌, ◌≤◌, ◌^◌, Bool, true, refl, sym, ap, ap₂, ◌∙◌, subst, arith, List, [], ◌∷◌, ◌++◌, length, drop, append-nil}
use Rattle.std.proofs.Common.{length-append, false, Some, None}
use Rattle.std.proofs.lemmas.List.{length-map, map-append}
use Rattle.alp_io.specs.declared.report.Reason.{Reason}
use Rattle.alp_io.specs.declared.report.Reason.TheVariants as reason
use Rattle.alp_io.specs.Report.{bound_line, end_line}
use Rattle.image_map.specs.MapValue.{MapValue}
use Rattle.msp_step.specs.declared.machine.Stop.{Stop}
use Rattle.msp_step.specs.declared.machine.Stop.TheVariants.{NoReading}
use Rattle.fram_board.specs.Board.{BoardValue}
use Rattle.fram_board.specs.Run.{End, Charges, Stopped, BoardCharge, RunOutcome}
use Rattle.board_run.specs.History.{start_with}
use Rattle.board_run.specs.History as board
use Rattle.board_run.specs.Events.{event_counts, none_accepted}
use Rattle.board_run.proofs.Interface.{silent_runs_accept_nothing}
use Rattle.board_run.specs.Report.{events_lines, report_of, last_line}
use Rattle.source_values.specs.Statements.{Outcome, short}
use Rattle.cost_bound.specs.Allowance.{uses_events}
use Rattle.source_values.specs.Runs.{CheckedProgram, State, Transition, TaskInputs, first_state, state_after, state_behind, attempt_of}
use Rattle.source_report.specs.Apart.{AreApart}
use Rattle.source_report.specs.SourceReport.{IsConsecutive, position_after, source_report}
use Rattle.machine_effects.specs.World.{World}
use Rattle.crash_rules.specs.Model.{Model, Marks, Inputs, answers_in, bound}
use Rattle.crash_rules.specs.History.{Done, History, first_history, given_since}
use Rattle.crash_rules.specs.Runs.{Program}
use Rattle.crash_rules.specs.Laws.{Origin, Resting, Pending, IsSettled, Reaches, IsLawful, SourceRun, IsTaskWithin, IsFirstWithin, CoversTasks}
use Rattle.run_charges.specs.Charges.{observed}
use Rattle.run_charges.specs.Laws.{IsRunOfWords, IsProgramRun}
use Rattle.model_runs.specs.Events.{answer_in, marks_of, counted, dones_lines}
use Rattle.model_runs.specs.EventLaws.{StartsWith}
use Rattle.model_runs.proofs.Interface.{report_is_of_dones, fronts_are_lawful, stops_where_short, makes_progress, dones_are_few, takes_what_is_there}
use Rattle.model_runs.proofs.Interface.{runs_so, never_reads, spans_are_in_order, spans_past_are_in_order}
use Rattle.source_runs.specs.Transitions.{HasWordsOf, StandForTransitions, committed_by}
use Rattle.source_runs.proofs.Lines.{dones_are_transitions, counted_below}
use Rattle.model_runs.specs.Runs.{history_behind, IsShort, Progresses, all_amounts, AreInOrder, AreInOrderPast}
use Rattle.model_runs.specs.Bears.{BearsModel}
use Rattle.source_runs.specs.Tells.{CommittedAttempt, spans_in, no_answers, answers_after, given_next, cost_of, cost_due, EachChargePays, IsEndOf}
use Rattle.source_runs.specs.Tells.{IsUninterrupted, at_first}
use Rattle.source_runs.specs.Resumed.{unread, is_pending, IsToldFrom, IsToldUndone, IsToldBehind, CommitUndone, CommitDone, HasTransition}
use Rattle.source_runs.specs.Sources.{IsOfSource, inputs_of, events_of}
use Rattle.source_runs.specs.Laws.{RunsAreTold, ResumedRunsAreTold}
use Rattle.source_runs.proofs.Apart.{spans_are_apart}
use Rattle.source_runs.proofs.Received.{words_are_received, run_hears}
use Rattle.source_runs.proofs.Transitions.{Tells, tells}
use Rattle.source_runs.proofs.Spans.{IsReadOff, read_off}
use Rattle.source_runs.proofs.Costs.{task_costs}

-- spans of dones as a source's report has them
consecutive : (from to end : ℕ) (ds : List Done) → AreInOrder from to ds → to ≤ end
    → IsConsecutive from end (spans_in (committed_by ds)) × (position_after from (spans_in (committed_by ds)) ≡ to)
consecutive from to end [] h l = (omega (arith, h, l), h)
consecutive from to end (d ∷ ds) h l = let k = consecutive d.span_to to end ds h.2 l in ((h.0, h.1, k.0), k.1)

-- transitions behind transitions
stand_both : (m : MapValue) (s : State) (ds es : List Done) (ts us : List Transition) → StandForTransitions m s ds ts
    → StandForTransitions m (state_behind s ts) es us → StandForTransitions m s (ds ++ es) (ts ++ us)
stand_both m s [] es [] us h k = k
stand_both m s [] es (t ∷ ts) us h k = absurd h
stand_both m s (d ∷ ds) es [] us h k = absurd h
stand_both m s (d ∷ ds) es (t ∷ ts) us h k = (h.0, stand_both m (state_after s t) ds es ts us h.1 k)

-- a task costs no more than what the world says that has a state's words
pub state_within : (text : List ℕ) (program : CheckedProgram) (m : MapValue) (model : Model State) → IsOfSource text program m model → (s : State) (x : World)
    → HasWordsOf m x s → IsTaskWithin model s (cost_of program (x.fram m.words.current_task))
state_within text program m model is s x here below =
    let same : model.task_cost (model.task_number s) ≡ cost_of program (x.fram m.words.current_task) =
    ap (λ f. f (model.task_number s)) is.costs ∙ ap (cost_of program) (is.task_number s ∙ sym here.task) in
    omega (arith, same)

-- each charge pays for its transitions, where the first one costs no more than its world says
pub charges_pay : (text : List ℕ) (program : CheckedProgram) (m : MapValue) (model : Model State) (c : Program) (x : World) (cs : List BoardCharge)
    (b : BoardValue) (r : RunOutcome) (is : IsOfSource text program m model) (origin : Origin State) (bears : BearsModel model c b.readings origin x b)
    (starts : StartsWith b x) (run : IsRunOfWords cs b r) (pending : Bool) → IsFirstWithin model origin (task_costs m (cost_of program) pending x).first
    → EachChargePays m (cost_due m (cost_of program) pending) cs b (at_first m b) r
charges_pay text program m model c x cs b r is origin bears starts run pending first =
    let costs = task_costs m (cost_of program) pending x in
    let covers : CoversTasks model origin costs = record {
      first = first;
      behind = λ s y rests. state_within text program m model is s y (is.rests s y rests);
    } in
    let P : Marks → Type 0 = λ g. Progresses g (bound model) costs model.delay cs b (first_history g x) r in
    let Q : ℕ → Type 0 = λ n. Progresses (marks_of m) n costs model.delay cs b (first_history (marks_of m) x) r in
    let R : (Inputs → ℕ) → Type 0 = λ d. Progresses (marks_of m) m.bound costs d cs b (first_history (marks_of m) x) r in
    let made = makes_progress model c b.readings origin x cs b r run bears costs covers in
    (read_off m x cs b r is.is_map is.front starts (runs_so model c b.readings origin x b bears cs r run)).pays x (cost_of program) pending
    (subst R is.delay (subst Q is.bound (subst P is.marks made))) starts

module _ (text : List ℕ) (program : CheckedProgram) (m : MapValue) (model : Model State) (c : Program) (x : World) (cs : List BoardCharge) (b : BoardValue)
    (r : RunOutcome) (is : IsOfSource text program m model) (origin : Origin State) (bears : BearsModel model c b.readings origin x b)
    (starts : StartsWith b x) (run : IsRunOfWords cs b r) (few : all_amounts cs < 2 ^ 64) where
  abbrev h : History
  h = events_of m x r

  -- by the model's marks or by the map's
  same : history_behind model x r.moments ≡ h
  same = ap (λ g. observed g r.moments (first_history g x)) is.marks

  lawful : IsLawful model b.readings origin h
  lawful = subst (IsLawful model b.readings origin) same
      (fronts_are_lawful model c b.readings origin x cs b r run bears r.moments [] (sym (append-nil r.moments))).0

  -- each moment is the program's, or the handler's
  plain : IsProgramRun cs b r
  plain = runs_so model c b.readings origin x b bears cs r run

  few_dones : length h.completed < 2 ^ 64
  few_dones = let l = dones_are_few cs b r plain (marks_of m) (first_history (marks_of m) x) in omega (arith, l, few)

  off : IsReadOff m cs b r h
  off = read_off m x cs b r is.is_map is.front starts plain

  progress : (pending : Bool) → IsFirstWithin model origin (task_costs m (cost_of program) pending x).first
      → EachChargePays m (cost_due m (cost_of program) pending) cs b (at_first m b) r
  progress pending first = charges_pay text program m model c x cs b r is origin bears starts run pending first

  in_readings : h.since ≤ length b.readings
  in_readings = takes_what_is_there cs b r plain (marks_of m) (first_history (marks_of m) x) (sym starts.taken) (omega arith)

  heard : r.board.receiver.accepted + r.board.receiver.repeats < b.receiver.accepted + b.receiver.repeats + 2 ^ 64
  heard = let all = run_hears cs b r run.run in omega (arith, all, few)

  -- a stop is for want of a reading, where the source is short
  short_there : (stop : Stop) → r.ending ≡ Stopped stop → (stop ≡ NoReading) × IsShort model b.readings origin h
  short_there stop e =
      let k = stops_where_short model c b.readings origin x cs b r run bears stop e in (k.0, subst (IsShort model b.readings origin) same k.1)

  -- a history of which the last line tells how many transitions were completed
  abbrev last : board.History
  last = record (start_with b.fram (Some m)) { completed = counted (length h.completed) }

  -- the line of events, if any were to come
  abbrev events : List ℕ
  events = events_lines b.line.coming (event_counts (Some m) r)

  -- a source that takes none accepts none
  silent : uses_events program ≡ false → event_counts (Some m) r ≡ none_accepted r.board
  silent none =
      let no_answer : model.marks.answer ≡ None = ap (λ (g : Marks). g.answer) is.marks ∙ ap answer_in (is.ring none) in
      silent_runs_accept_nothing (Some m) r (never_reads model c b.readings origin x b bears no_answer cs r run starts.heard)

  -- what the next attempt is given, by the model and by the moments
  given_left : inputs_of (given_since model.marks b.readings h) ≡ given_next m b r
  given_left =
      let since = off.since in
      let answers : answers_in model.marks h.effects ≡ (answers_after m (at_first m b) no_answers r.moments).since =
      ap (λ (g : Marks). answers_in g h.effects) is.marks ∙ off.answers in
      λ i. record { readings = drop (since i) b.readings; answers = answers i }

  report_is : report_of (start_with b.fram (Some m)) b.line.coming r
      ≡ bound_line m.bound ++ (dones_lines m 0 x h.completed ++ (events ++ last_line last r.ending r.board))
  report_is =
      report_is_of_dones cs b r plain m x is.is_map is.front starts last refl

  -- The world has a state's words; the first dones stand for some transitions from it; and from there on the source runs
  module _ (s0 s : State) (here : HasWordsOf m x s0) (done : List Done) (first : List Transition) (stand : StandForTransitions m s0 done first)
      (at : s ≡ state_behind s0 first) (spans : committed_by done ≡ unread first) (ds : List Done) (split : h.completed ≡ done ++ ds)
      (onward : (z : State) → Reaches model b.readings origin h.completed z → SourceRun model b.readings s ds z)
      (alone : length cs ≡ 1 → AreInOrder 0 h.since ds)
      (dear : IsFirstWithin model origin (task_costs m (cost_of program) (is_pending first) x).first) where
    all : Tells text program m model is b.readings s ds lawful.stands.state
    all = tells text program m model is b.readings s lawful.stands.state ds (onward lawful.stands.state lawful.stands.reached)

    -- all transitions stand for all dones
    stand_all : StandForTransitions m s0 h.completed (first ++ all.transitions)
    stand_all =
        let P : State → Type 0 = λ y. StandForTransitions m y ds all.transitions in
        subst (λ es. StandForTransitions m s0 es (first ++ all.transitions)) (sym split)
        (stand_both m s0 done ds first all.transitions stand (subst P at all.stand))

    spans_are : committed_by h.completed ≡ unread first ++ committed_by ds
    spans_are =
        let both : committed_by (done ++ ds) ≡ committed_by done ++ committed_by ds = map-append _ done ds in
        ap committed_by split ∙ both ∙ ap (λ l. l ++ committed_by ds) spans

    number : counted (length h.completed) ≡ length first + length (committed_by ds)
    number =
        let a = ap length spans_are in
        let n : length (committed_by h.completed) ≡ length h.completed = length-map h.completed _ in
        let k : length (unread first) ≡ length first = length-map first _ in
        let both = length-append (unread first) (committed_by ds) in
        counted_below (length h.completed) (2 ^ 64 - 1) refl (omega (arith, few_dones)) ∙ omega (arith, a, n, k, both)

    -- the end
    abbrev next : TaskInputs → State → Outcome
    next given s = attempt_of program s.task s.shared given

    -- how it ended, by its end
    record EndsSo (end : End) : Type 0 where
      pub why : Reason
      pub line : last_line last end r.board ≡ end_line why (length first + length (committed_by ds)) r.board.receiver.accepted r.board.receiver.repeats
      pub ending : IsEndOf end (next (given_next m b r) (state_behind s all.transitions)) why

    counts : (why : Reason) → end_line why (counted (length h.completed)) r.board.receiver.accepted r.board.receiver.repeats
        ≡ end_line why (length first + length (committed_by ds)) r.board.receiver.accepted r.board.receiver.repeats
    counts why = ap (λ n. end_line why n r.board.receiver.accepted r.board.receiver.repeats) number

    -- the state at which the source is short is that behind the transitions
    same_end : (z : State) → SourceRun model b.readings s ds z → z ≡ state_behind s all.transitions
    same_end z reached =
        let other = tells text program m model is b.readings s z ds reached in
        let one : Some other.transitions ≡ Some all.transitions = sym other.source ∙ all.source in
        let same_list : other.transitions ≡ all.transitions = cc one in
        other.end ∙ ap (state_behind s) same_list

    short_next : IsShort model b.readings origin h → next (given_next m b r) (state_behind s all.transitions) ≡ short
    short_next q =
        let given = given_since model.marks b.readings h in
        ap (λ g. next g (state_behind s all.transitions)) (sym given_left)
        ∙ ap (next (inputs_of given)) (sym (same_end q.state (onward q.state q.reached)))
        ∙ is.is_short q.state given q.is_task q.short

    by_end : (end : End) → r.ending ≡ end → EndsSo end
    by_end Charges e = record { why = reason.Charges; line = counts reason.Charges; ending = refl }
    by_end (Stopped stop) e =
        let k = short_there stop e in
        let P : Stop → Type 0 = λ y. EndsSo (Stopped y) in
        subst P (sym k.0) (record { why = reason.Readings; line = counts reason.Readings; ending = (refl, short_next k.1) })

    ends_so : EndsSo r.ending
    ends_so = by_end r.ending refl

    lines : report_of (start_with b.fram (Some m)) b.line.coming r
        ≡ bound_line m.bound ++ (source_report text program 1 (spans_in (unread first ++ committed_by ds)) (first ++ all.transitions)
        ++ (events ++ end_line ends_so.why (length first + length (committed_by ds)) r.board.receiver.accepted r.board.receiver.repeats))
    lines =
        let shown : dones_lines m 0 x h.completed ≡ source_report text program 1 (spans_in (committed_by h.completed)) (first ++ all.transitions) =
        dones_are_transitions text program m is.of_source 0 x s0 h.completed (first ++ all.transitions) here stand_all (omega (arith, few_dones)) in
        report_is
        ∙ ap₂ (λ p q. bound_line m.bound ++ (p ++ (events ++ q)))
        (shown ∙ ap (λ l. source_report text program 1 (spans_in l) (first ++ all.transitions)) spans_are) ends_so.line

    pub told_from : IsToldFrom text program m first s cs b r (report_of (start_with b.fram (Some m)) b.line.coming r)
    told_from =
        let es = ends_so in
        let Alone : ℕ → Type 0 = λ n. length cs ≡ 1 → IsUninterrupted b.readings n (spans_in (committed_by ds)) in
        let Apart : List CommittedAttempt → Type 0 = λ l. AreApart 0 (length b.readings) (spans_in l) in
        record {
          attempts = committed_by ds;
          transitions = all.transitions;
          why = es.why;
          attempts_are = sym spans_are ∙ off.attempts;
          source = all.source;
          lines = lines;
          silent = silent;
          ending = es.ending;
          progress = progress (is_pending first) dear;
          apart = subst Apart spans_are (spans_are_apart (marks_of m) x r.moments (length b.readings) in_readings);
          words = words_are_received m x cs b r s0 (first ++ all.transitions) is.is_map is.front starts plain here stand_all;
          heard = heard;
          uninterrupted = subst Alone off.since (λ one. let k = consecutive 0 h.since (length b.readings) ds (alone one) in_readings in
              record { consecutive = k.0; at_last = k.1 });
        }

module _ (text : List ℕ) (program : CheckedProgram) (m : MapValue) (model : Model State) (c : Program) (x : World) (b : BoardValue)
    (r : RunOutcome) (is : IsOfSource text program m model) where
  -- in one charge
  by_map : (P : History → Type 0) → P (history_behind model x r.moments) → P (events_of m x r)
  by_map P h = subst P (ap (λ g. observed g r.moments (first_history g x)) is.marks) h

  one_charge : (s : State) → BearsModel model c b.readings (Resting s) x b → model.Undecided s x → (cs : List BoardCharge) → IsRunOfWords cs b r
      → length cs ≡ 1 → AreInOrder 0 (events_of m x r).since (events_of m x r).completed
  one_charge s bears here [] run e = absurd (cc e)
  one_charge s bears here (d ∷ []) run e =
      by_map (λ k. AreInOrder 0 k.since k.completed) (spans_are_in_order model c b.readings s x d b r run bears here)
  one_charge s bears here (d ∷ f ∷ cs) run e = absurd (omega (arith, e))

  one_charge_past : (to : State) → BearsModel model c b.readings (Pending to) x b → (cs : List BoardCharge) → IsRunOfWords cs b r
      → length cs ≡ 1 → AreInOrderPast (events_of m x r).since (events_of m x r).completed
  one_charge_past to bears [] run e = absurd (cc e)
  one_charge_past to bears (d ∷ []) run e =
      by_map (λ k. AreInOrderPast k.since k.completed) (spans_past_are_in_order model c b.readings to x d b r run bears)
  one_charge_past to bears (d ∷ f ∷ cs) run e = absurd (omega (arith, e))

  module _ (cs : List BoardCharge) (starts : StartsWith b x) (run : IsRunOfWords cs b r) (few : all_amounts cs < 2 ^ 64) where
    -- from a state on
    pub told_resting : (s : State) → BearsModel model c b.readings (Resting s) x b → model.Undecided s x → HasWordsOf m x s
        → IsToldFrom text program m [] s cs b r (report_of (start_with b.fram (Some m)) b.line.coming r)
    told_resting s bears undecided here =
        told_from text program m model c x cs b r is (Resting s) bears starts run few s s here [] [] tt refl refl (events_of m x r).completed refl
        (λ z reached. reached) (one_charge s bears undecided cs run) (state_within text program m model is s x here)

    -- a commit that was pending at the start costs the bound
    bound_within : (to : State) → IsFirstWithin model (Pending to) m.bound
    bound_within to = let same = is.bound in omega (arith, same)

    -- a commit that isn't done
    told_undone : (to : State) → BearsModel model c b.readings (Pending to) x b → (events_of m x r).completed ≡ []
        → IsToldUndone program m cs b r (report_of (start_with b.fram (Some m)) b.line.coming r)
    told_undone to bears none =
        record {
          attempts_are = ap committed_by (sym none) ∙ (off text program m model c x cs b r is (Pending to) bears starts run few).attempts;
          lines = report_is text program m model c x cs b r is (Pending to) bears starts run few
              ∙ ap₂ (λ ds q. bound_line m.bound ++ (dones_lines m 0 x ds ++ (events_lines b.line.coming (event_counts (Some m) r) ++ q))) none
              (last_is r.ending (by_charges r.ending refl));
          silent = silent text program m model c x cs b r is (Pending to) bears starts run few;
          ending = by_charges r.ending refl;
          progress = progress text program m model c x cs b r is (Pending to) bears starts run few true (bound_within to);
          heard = heard text program m model c x cs b r is (Pending to) bears starts run few;
        }
      where
        by_charges : (end : End) → r.ending ≡ end → r.ending ≡ Charges
        by_charges Charges e = e
        by_charges (Stopped stop) e =
            let q = short_there text program m model c x cs b r is (Pending to) bears starts run few stop e in
            absurd (subst (IsSettled (Pending to)) none q.1.settled)

        last_is : (end : End) → end ≡ Charges → last_line (last text program m model c x cs b r is (Pending to) bears starts run few) end r.board
            ≡ end_line reason.Charges 0 r.board.receiver.accepted r.board.receiver.repeats
        last_is end e =
            ap (λ z. last_line (last text program m model c x cs b r is (Pending to) bears starts run few) z r.board) e
            ∙ ap (λ ds. end_line reason.Charges (counted (length ds)) r.board.receiver.accepted r.board.receiver.repeats) none

    -- one that is done, and what the run comes to behind it
    told_done : (s to : State) (t : Transition) → BearsModel model c b.readings (Pending to) x b → HasTransition m x s to t → (d : Done) (ds : List Done)
        → (events_of m x r).completed ≡ d ∷ ds → IsToldFrom text program m (t ∷ []) to cs b r (report_of (start_with b.fram (Some m)) b.line.coming r)
    told_done s to t bears has d ds e =
        let law = lawful text program m model c x cs b r is (Pending to) bears starts run few in
        let reached = subst (λ l. Reaches model b.readings (Pending to) l law.stands.state) e law.stands.reached in
        let behind : HasWordsOf m d.world (state_after s t) = subst (HasWordsOf m d.world) (sym has.leaves) (is.rests to d.world reached.1) in
        let stand : StandForTransitions m s (d ∷ []) (t ∷ []) = (record { from = has.from; before = has.before; few = has.few; behind = behind }, tt) in
        let none = reached.0 in
        let unread_span : committed_by (d ∷ []) ≡ unread (t ∷ []) =
        λ i. record { span = record { from = none.0 i; to = none.1 i }; answers = none.2 i } ∷ [] in
        told_from text program m model c x cs b r is (Pending to) bears starts run few s to has.words (d ∷ []) (t ∷ []) stand (sym has.leaves)
        unread_span ds e (λ z q. (subst (λ l. Reaches model b.readings (Pending to) l z) e q).2)
        (λ one. subst (λ l. AreInOrderPast (events_of m x r).since l) e (one_charge_past to bears cs run one)) (bound_within to)

    -- behind a pending commit
    told_pending : (s to : State) (t : Transition) → BearsModel model c b.readings (Pending to) x b → HasTransition m x s to t
        → IsToldBehind text program m t to cs b r (report_of (start_with b.fram (Some m)) b.line.coming r)
    told_pending s to t bears has = by_dones (events_of m x r).completed refl
      where
        by_dones : (ds : List Done) → (events_of m x r).completed ≡ ds
            → IsToldBehind text program m t to cs b r (report_of (start_with b.fram (Some m)) b.line.coming r)
        by_dones [] e = CommitUndone (told_undone to bears e)
        by_dones (d ∷ ds) e = CommitDone (told_done s to t bears has d ds e)

-- the report of a run that goes on
pub resumed_runs_are_told : (model : Model State) (c : Program) → ResumedRunsAreTold model c
resumed_runs_are_told model c text program m x cs b r is starts run few = record {
  resting = told_resting text program m model c x b r is cs starts run few;
  pending = told_pending text program m model c x b r is cs starts run few;
}

-- and of one that begins with the source
pub runs_are_told : (model : Model State) (c : Program) → RunsAreTold model c
runs_are_told model c text program m x cs b r is begins run few =
    let t = told_resting text program m model c x b r is cs begins.starts run few (first_state program) begins.bears begins.undecided begins.words in
    let count : 0 + length t.attempts ≡ length t.attempts = omega arith in
    record {
      attempts = t.attempts;
      transitions = t.transitions;
      why = t.why;
      attempts_are = t.attempts_are;
      source = t.source;
      lines = t.lines ∙ ap (λ n. bound_line m.bound ++ (source_report text program 1 (spans_in t.attempts) t.transitions
          ++ (events_lines b.line.coming (event_counts (Some m) r) ++ end_line t.why n r.board.receiver.accepted r.board.receiver.repeats))) count;
      silent = t.silent;
      ending = t.ending;
      progress = t.progress;
      apart = t.apart;
      heard = t.heard;
      words = t.words;
      uninterrupted = t.uninterrupted;
    }
