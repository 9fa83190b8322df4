-- A good report is one that its first state may be followed by, behind the bound or without it.
use Rattle.std.proofs.Common.{◌≡◌, ◌≤◌, ◌<◌, ◌^◌, ℕ, ◌+◌, ◌⊎◌, List, [], ◌∷◌, ◌++◌, length, map, arith, refl, ap, ap₂, sym, ◌∙◌, subst, append_assoc}
use Rattle.std.proofs.Common.{Option, Some, None}
use Rattle.std.proofs.lemmas.List.Sums.{sum_by-cons}
use Rattle.alp_io.specs.declared.report.Reason.{Reason}
use Rattle.alp_io.specs.declared.report.Reason.TheVariants.{Off}
use Rattle.alp_io.specs.Report.{bound_line, end_line}
use Rattle.source_values.specs.Values.{◌>>?◌}
use Rattle.source_values.specs.Runs.{CheckedProgram, Completion, State, Transition, first_state, state_after, exactly, attempt_of, completion_of}
use Rattle.source_values.specs.Runs.{TaskInputs, transition_of, source_run}
use Rattle.source_report.specs.SourceReport.{Committed, given_of, words_in, transition_lines, source_report}
use Rattle.source_report.specs.Apart.{AreApart}
use Rattle.report_audit.specs.Good.{IsGoodReport}
use Rattle.report_audit.specs.Fronts.{IsRest, Ended, More}

-- a state without the words that were emitted so far
abbrev pub plain : ℕ → List (List ℕ) → State
plain task shared = record { shared = shared; task = task; emitted = [] }

-- these don't matter to a transition
exactly_plain : (s : State) (c : Completion) → exactly s c ≡ exactly (plain s.task s.shared) c
exactly_plain s c = by_left c.left c.answers
  where
    by_left : (left answers : List ℕ) → exactly s (record c { left = left; answers = answers })
        ≡ exactly (plain s.task s.shared) (record c { left = left; answers = answers })
    by_left [] [] = refl
    by_left [] (a ∷ answers) = refl
    by_left (w ∷ ws) answers = refl

pub transition_plain : (program : CheckedProgram) (s : State) (given : TaskInputs)
    → transition_of program s given ≡ transition_of program (plain s.task s.shared) given
transition_plain program s given = by_completion (completion_of (attempt_of program s.task s.shared given))
  where
    by_completion : (o : Option Completion) → (o >>? exactly s) ≡ (o >>? exactly (plain s.task s.shared))
    by_completion None = refl
    by_completion (Some c) = exactly_plain s c

-- a run of one transition and more
pub record IsRunOn (program : CheckedProgram) (s : State) (given : TaskInputs) (more : List TaskInputs) (ts : List Transition) : Type 0 where
  pub one : Transition
  pub others : List Transition
  pub made : transition_of program s given ≡ Some one
  pub run : source_run program (state_after s one) more ≡ Some others
  pub are : ts ≡ one ∷ others

pub run_on : (program : CheckedProgram) (s : State) (given : TaskInputs) (more : List TaskInputs) (ts : List Transition)
    → source_run program s (given ∷ more) ≡ Some ts → IsRunOn program s given more ts
run_on program s given more ts e = by_one (transition_of program s given) refl
  where
    by_others : (t : Transition) (o : Option (List Transition)) → transition_of program s given ≡ Some t → source_run program (state_after s t) more ≡ o
        → IsRunOn program s given more ts
    by_others t None made is =
        let none : source_run program s (given ∷ more) ≡ None
        = ap (λ p. p >>? λ y. source_run program (state_after s y) more >>? λ ys. Some (y ∷ ys)) made ∙ ap (λ p. p >>? λ ys. Some (t ∷ ys)) is in
        absurd (cc (e, none))
    by_others t (Some ys) made is =
        let all : source_run program s (given ∷ more) ≡ Some (t ∷ ys)
        = ap (λ p. p >>? λ y. source_run program (state_after s y) more >>? λ ys. Some (y ∷ ys)) made ∙ ap (λ p. p >>? λ ys. Some (t ∷ ys)) is in
        record { one = t; others = ys; made = made; run = is; are = cc (e, all) }

    by_one : (o : Option Transition) → transition_of program s given ≡ o → IsRunOn program s given more ts
    by_one None is =
        let none : source_run program s (given ∷ more) ≡ None
        = ap (λ p. p >>? λ y. source_run program (state_after s y) more >>? λ ys. Some (y ∷ ys)) is in
        absurd (cc (e, none))
    by_one (Some t) is = by_others t (source_run program (state_after s t) more) is refl

-- the end of a report, and its counts
pub record HasEnd (reason : Reason) (accepted repeats : ℕ) : Type 0 where
  pub on_board : reason ≡ Off → ⊥
  pub few_accepted : accepted < 2 ^ 64
  pub few_repeats : repeats < 2 ^ 64

module _ (source : List ℕ) (program : CheckedProgram) (readings : List ℕ) where
  -- transitions on spans, and the end, are what may stand there
  rest_of : (t k words position : ℕ) (s : State) (spans : List Committed) (ts : List Transition) (reason : Reason) (accepted repeats : ℕ)
      → HasEnd reason accepted repeats → AreApart position (length readings) spans
      → source_run program s (map (given_of readings) spans) ≡ Some ts → k + length spans ≡ t → words + words_in ts ≤ accepted
      → IsRest source program readings t k words position s.task s.shared (source_report source program (k + 1) spans ts ++ end_line reason t accepted repeats)
  unfolding source_report
  rest_of t k words position s [] ts reason accepted repeats end apart run count enough =
      let all : k ≡ t = omega (arith, count) in
      Ended k words position s.task s.shared _ all (record {
        reason = reason;
        accepted = accepted;
        repeats = repeats;
        on_board = end.on_board;
        enough = omega (arith, enough);
        few_accepted = end.few_accepted;
        few_repeats = end.few_repeats;
        line = ap (λ n. end_line reason n accepted repeats) (sym all);
      })
  rest_of t k words position s (span ∷ spans) ts reason accepted repeats end apart run count enough =
      let r = run_on program s (given_of readings span) (map (given_of readings) spans) ts run in
      let sum : words_in ts ≡ length r.one.emitted + words_in r.others = ap words_in r.are ∙ sum_by-cons (λ x. length x.emitted) r.one r.others in
      let P : List Transition → Type 0 = λ ys. IsRest source program readings t k words position s.task s.shared
      (source_report source program (k + 1) (span ∷ spans) ys ++ end_line reason t accepted repeats) in
      let behind = source_report source program (k + 1 + 1) spans r.others ++ end_line reason t accepted repeats in
      subst P (sym r.are) (More k words position s.task s.shared _ (record {
        span = span;
        transition = r.one;
        is_made = record { behind = apart.0; onward = apart.1; inside = apart.2; made = sym (transition_plain program s (given_of readings span)) ∙ r.made };
        rest = behind;
        lines = append_assoc (transition_lines source program (k + 1) span r.one) (source_report source program (k + 1 + 1) spans r.others) _;
      }) (rest_of t (k + 1) (words + length r.one.emitted) span.to (state_after s r.one) spans r.others reason accepted repeats end apart.3 r.run
      (omega (arith, count)) (omega (arith, enough, sum))))

  -- and what may stand there is such
  record IsMadeOf (t k words position : ℕ) (s : State) (text : List ℕ) : Type 0 where
    spans : List Committed
    transitions : List Transition
    reason : Reason
    accepted : ℕ
    repeats : ℕ
    end : HasEnd reason accepted repeats
    apart : AreApart position (length readings) spans
    run : source_run program s (map (given_of readings) spans) ≡ Some transitions
    count : k + length spans ≡ t
    enough : words + words_in transitions ≤ accepted
    lines : text ≡ source_report source program (k + 1) spans transitions ++ end_line reason t accepted repeats

  made_of : (t k words position task : ℕ) (shared : List (List ℕ)) (text : List ℕ) → IsRest source program readings t k words position task shared text
      → (s : State) → s.task ≡ task → s.shared ≡ shared → IsMadeOf t k words position s text
  unfolding source_report
  made_of t k words position task shared text (Ended _ _ _ _ _ _ all e) s same_task same_shared =
      let enough = e.enough in
      record {
        spans = [];
        transitions = [];
        reason = e.reason;
        accepted = e.accepted;
        repeats = e.repeats;
        end = record { on_board = e.on_board; few_accepted = e.few_accepted; few_repeats = e.few_repeats };
        apart = tt;
        run = refl;
        count = omega (arith, all);
        enough = omega (arith, enough);
        lines = e.line ∙ ap (λ n. end_line e.reason n e.accepted e.repeats) all;
      }
  made_of t k words position task shared text (More _ _ _ _ _ _ g more) s same_task same_shared =
      let u = g.transition in
      let rest = made_of t (k + 1) (words + length u.emitted) g.span.to u.next u.after g.rest more (state_after s u) refl refl in
      let here : transition_of program s (given_of readings g.span) ≡ Some u =
      transition_plain program s (given_of readings g.span)
      ∙ ap₂ (λ a b. transition_of program (plain a b) (given_of readings g.span)) same_task same_shared ∙ g.is_made.made in
      let sum : words_in (u ∷ rest.transitions) ≡ length u.emitted + words_in rest.transitions = sum_by-cons (λ x. length x.emitted) u rest.transitions in
      let enough = rest.enough in
      let counted = rest.count in
      record {
        spans = g.span ∷ rest.spans;
        transitions = u ∷ rest.transitions;
        reason = rest.reason;
        accepted = rest.accepted;
        repeats = rest.repeats;
        end = rest.end;
        apart = (g.is_made.behind, g.is_made.onward, g.is_made.inside, rest.apart);
        run = ap (λ p. p >>? λ y. source_run program (state_after s y) (map (given_of readings) rest.spans) >>? λ ys. Some (y ∷ ys)) here
            ∙ ap (λ p. p >>? λ ys. Some (u ∷ ys)) rest.run;
        count = omega (arith, counted);
        enough = omega (arith, enough, sum);
        lines = g.lines ∙ ap (λ x. transition_lines source program (k + 1) g.span u ++ x) rest.lines
            ∙ sym (append_assoc (transition_lines source program (k + 1) g.span u) (source_report source program (k + 1 + 1) rest.spans rest.transitions) _);
      }

  abbrev first : State
  first = first_state program

  -- the report behind its head
  pub good_behind : (bound t : ℕ) (head text : List ℕ) → (head ≡ []) ⊎ (head ≡ bound_line bound)
      → IsRest source program readings t 0 0 0 first.task first.shared text → IsGoodReport source program bound readings (head ++ text) t
  good_behind bound t head text bounded rest =
      let m = made_of t 0 0 0 first.task first.shared text rest first refl refl in
      let count = m.count in
      let enough = m.enough in
      record {
        head = head;
        spans = m.spans;
        transitions = m.transitions;
        reason = m.reason;
        accepted = m.accepted;
        repeats = m.repeats;
        bounded = bounded;
        apart = m.apart;
        run = m.run;
        count = omega (arith, count);
        on_board = m.end.on_board;
        words = omega (arith, enough);
        few_accepted = m.end.few_accepted;
        few_repeats = m.end.few_repeats;
        lines = ap (λ x. head ++ x) m.lines;
      }

  -- a good report is a head and what may stand behind it
  pub record IsHeaded (bound t : ℕ) (report : List ℕ) : Type 0 where
    pub head : List ℕ
    pub text : List ℕ
    pub bounded : (head ≡ []) ⊎ (head ≡ bound_line bound)
    pub report_is : report ≡ head ++ text
    pub rest : IsRest source program readings t 0 0 0 first.task first.shared text

  pub headed : (bound t : ℕ) (report : List ℕ) → IsGoodReport source program bound readings report t → IsHeaded bound t report
  headed bound t report g =
      let count = g.count in
      let words = g.words in
      record {
        head = g.head;
        text = source_report source program 1 g.spans g.transitions ++ end_line g.reason t g.accepted g.repeats;
        bounded = g.bounded;
        report_is = g.lines;
        rest = rest_of t 0 0 0 first g.spans g.transitions g.reason g.accepted g.repeats
            (record { on_board = g.on_board; few_accepted = g.few_accepted; few_repeats = g.few_repeats })
            g.apart g.run (omega (arith, count)) (omega (arith, words));
      }
