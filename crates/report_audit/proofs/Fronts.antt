-- Where a report begins, how it goes on, and where it stops being good.
use Rattle.std.proofs.Common.{◌≡◌, ◌≤◌, ◌<◌, ◌^◌, ℕ, ◌+◌, ◌-◌, ◌⊎◌, List, [], ◌∷◌, ◌++◌, length, take, drop, arith, refl, ap, sym, ◌∙◌, subst, append_assoc}
use Rattle.std.proofs.Common.{append-nil, codes, decimal, inl, inr, Some, None, slice_get, length-drop}
use Rattle.std.proofs.lemmas.List.{take-append-drop, take-take}
use Rattle.std.proofs.Math.Seq.{take-append_seam}
use Rattle.alp_io.specs.declared.report.Reason.{Reason}
use Rattle.alp_io.specs.declared.report.Reason.TheVariants.{Charges}
use Rattle.alp_io.specs.Report.{bound_line, end_line}
use Rattle.text_parts.specs.Fields.{fields}
use Rattle.text_parts.specs.Printed.{spaced}
use Rattle.text_parts.proofs.Interface.{AreWords, decimal_word}
use Rattle.source_values.specs.Runs.{State, Transition, first_state}
use Rattle.source_report.specs.SourceReport.{Committed, transition_lines}
use Rattle.source_maps.specs.Names.{HasNames}
use Rattle.report_audit.specs.declared.front.Front.{Front}
use Rattle.report_audit.specs.declared.entry.Entry.TheVariants as entry
use Rattle.report_audit.specs.Entry.{entry_of}
use Rattle.report_audit.specs.Fronts.{Inputs, IsGood, first_line, IsMadeOn, GoesOn, IsRest, Ended, More, Shares, first_front, IsFront, IsStop, StandsUpTo}
use Rattle.report_audit.specs.Fronts.{DiffersAt}
use Rattle.report_audit.proofs.Lists.{cancel, shares_first_line, split_first, byte_behind}
use Rattle.report_audit.proofs.Printed.{fed, words_of, bound_is, fields_are, first_line_is, transition_is}
use Rattle.report_audit.proofs.Rests.{HasEnd, good_behind, IsHeaded, headed}
use Rattle.report_audit.proofs.Forced.{says, IsStep, step_forced, IsLast, end_forced, none_forced}

-- what stands behind a place where another byte would be expected
byte_there : (report : List ℕ) (place byte : ℕ) (rest : List ℕ) → report ≡ take place report ++ byte ∷ rest → slice_get report place ≡ Some byte
byte_there report place byte rest e =
    byte_behind report place byte rest (cancel (take place report) (drop place report) (byte ∷ rest) (take-append-drop place report ∙ e))

-- a text that differs from what stands there doesn't stand there
not_there : (report : List ℕ) (at : ℕ) (text : List ℕ) (place : ℕ) (behind : List ℕ) → DiffersAt report at text place
    → report ≡ take at report ++ (text ++ behind) → ⊥
not_there report at text place behind d e =
    d.other (byte_there report place d.byte (d.more ++ behind)
    (e ∙ sym (append_assoc (take at report) text behind) ∙ ap (λ x. x ++ behind) d.same ∙ append_assoc (take place report) (d.byte ∷ d.more) behind))

-- a place behind another
mid_is : (report : List ℕ) (at place : ℕ) → at ≤ place → place ≤ length report → take place report ≡ take at report ++ drop at (take place report)
mid_is report at place h l =
    sym (take-append-drop at (take place report)) ∙ ap (λ x. x ++ drop at (take place report)) (take-take at place report h)

-- what stands from a place on, up to another and behind that
from_there : (report : List ℕ) (at place : ℕ) → at ≤ place → place ≤ length report → drop at report ≡ drop at (take place report) ++ drop place report
from_there report at place h l =
    cancel (take at report) (drop at report) (drop at (take place report) ++ drop place report)
    (take-append-drop at report ∙ sym (take-append-drop place report) ∙ ap (λ x. x ++ drop place report) (mid_is report at place h l)
    ∙ append_assoc (take at report) (drop at (take place report)) (drop place report))

-- a text that stands there, and what stands behind it
behind_it : (report : List ℕ) (at to : ℕ) (text : List ℕ) → StandsUpTo report at text to → drop at report ≡ text ++ drop to report
behind_it report at to text s =
    cancel (take at report) (drop at report) (text ++ drop to report)
    (take-append-drop at report ∙ sym (take-append-drop to report) ∙ ap (λ x. x ++ drop to report) s.same
    ∙ append_assoc (take at report) text (drop to report))

-- the names of the source are words of a line, and there are few readings and few bytes
pub record AreFit (i : Inputs) : Type 0 where
  pub names : HasNames i.source i.program
  pub few_readings : length i.readings < 2 ^ 64
  pub few_bytes : length i.report < 2 ^ 32

module _ (i : Inputs) (fit : AreFit i) where
  abbrev first : State
  first = first_state i.program

  -- at the beginning
  module _ (few_bound : i.bound < 2 ^ 64) where
    abbrev bound_words : List (List ℕ)
    bound_words = codes "bound" ∷ decimal i.bound ∷ []

    are_words : AreWords bound_words
    are_words = (omega arith, (omega arith, (omega arith, (omega arith, (omega arith, tt)))), decimal_word i.bound [] few_bound tt)

    bound_says : (rest : List ℕ) → says (bound_line i.bound ++ rest) ≡ None
    bound_says rest = ap says (bound_is i.bound rest) ∙ ap entry_of (fields_are bound_words rest are_words)

    -- a report that begins as one with a bound does, up to a line feed, begins with the bound
    shares_bound : (text behind : List ℕ) → Shares text i.report → text ≡ bound_line i.bound ++ behind
        → (rest : List ℕ) × (i.report ≡ bound_line i.bound ++ rest)
    shares_bound text behind (inl same) e = (behind, sym same ∙ e)
    shares_bound text behind (inr s) e =
        let split = split_first s.front s.behind_b in
        let line : first_line i.report ≡ first_line (bound_line i.bound ++ behind) = sym (shares_first_line text i.report (inr s)) ∙ ap first_line e in
        let words : first_line (bound_line i.bound ++ behind) ≡ first_line (fed bound_words behind) = ap first_line (bound_is i.bound behind) in (
          split.0,
          s.b_is ∙ split.1 ∙ ap (λ x. first_line x ++ 10 ∷ split.0) (sym s.b_is)
              ∙ ap (λ x. x ++ 10 ∷ split.0) (line ∙ words ∙ first_line_is bound_words behind are_words) ∙ sym (bound_is i.bound split.0),
        )

    pub begins_bare : (place : ℕ) → DiffersAt i.report 0 (bound_line i.bound) place → IsFront i (first_front 0) first.task first.shared
    begins_bare place d = record {
      inside = omega arith;
      few = omega arith;
      few_words = omega arith;
      good = λ t text rest. good_behind i.source i.program i.readings i.bound t [] text (inl refl) rest;
      forced = λ t text shares g. bare t text shares (headed i.source i.program i.readings i.bound t text g);
    }
      where
        bare : (t : ℕ) (text : List ℕ) → Shares text i.report → IsHeaded i.source i.program i.readings i.bound t text
            → IsRest i.source i.program i.readings t 0 0 0 first.task first.shared text
        bare t text shares h = by_head h.bounded
          where
            by_head : (h.head ≡ []) ⊎ (h.head ≡ bound_line i.bound) → IsRest i.source i.program i.readings t 0 0 0 first.task first.shared text
            by_head (inl none) =
                let same : h.text ≡ text = sym (h.report_is ∙ ap (λ x. x ++ h.text) none) in
                let P : List ℕ → Type 0 = λ x. IsRest i.source i.program i.readings t 0 0 0 first.task first.shared x in
                subst P same h.rest
            by_head (inr there) =
                let b = shares_bound text h.text shares (h.report_is ∙ ap (λ x. x ++ h.text) there) in
                absurd (not_there i.report 0 (bound_line i.bound) place b.0 d b.1)

    pub begins_bound : (at : ℕ) → StandsUpTo i.report 0 (bound_line i.bound) at → IsFront i (first_front at) first.task first.shared
    begins_bound at s = record {
      inside = s.inside;
      few = omega arith;
      few_words = omega arith;
      good = λ t text rest.
          let P : List ℕ → Type 0 = λ x. IsGood i (x ++ text) t in
          subst P (sym s.same) (good_behind i.source i.program i.readings i.bound t (bound_line i.bound) text (inr refl) rest);
      forced = λ t text shares g.
          let P : List ℕ → Type 0 = λ x. IsGood i (x ++ text) t in
          bounded t text (headed i.source i.program i.readings i.bound t (bound_line i.bound ++ text) (subst P s.same g));
    }
      where
        bounded : (t : ℕ) (text : List ℕ) → IsHeaded i.source i.program i.readings i.bound t (bound_line i.bound ++ text)
            → IsRest i.source i.program i.readings t 0 0 0 first.task first.shared text
        bounded t text h = by_head h.bounded
          where
            by_head : (h.head ≡ []) ⊎ (h.head ≡ bound_line i.bound) → IsRest i.source i.program i.readings t 0 0 0 first.task first.shared text
            by_head (inl none) =
                let same : h.text ≡ bound_line i.bound ++ text = sym (h.report_is ∙ ap (λ x. x ++ h.text) none) in
                absurd (none_forced i.source i.program i.readings fit.names fit.few_readings t 0 0 0 first.task first.shared h.text (omega arith)
                (ap says same ∙ bound_says text) h.rest)
            by_head (inr there) =
                let same : text ≡ h.text = cancel (bound_line i.bound) text h.text (h.report_is ∙ ap (λ x. x ++ h.text) there) in
                let P : List ℕ → Type 0 = λ x. IsRest i.source i.program i.readings t 0 0 0 first.task first.shared x in
                subst P (sym same) h.rest

  -- behind some transitions
  module _ (front : Front) (task : ℕ) (shared : List (List ℕ)) (f : IsFront i front task shared) where
    abbrev k : ℕ
    k = front.transitions

    abbrev words : ℕ
    words = front.words

    abbrev position : ℕ
    position = front.position

    -- what is good, and what is left
    abbrev done : List ℕ
    done = take front.at i.report

    abbrev left : List ℕ
    left = drop front.at i.report

    abbrev Rest : ℕ → List ℕ → Type 0
    Rest t text = IsRest i.source i.program i.readings t k words position task shared text

    few_next : k + 1 < 2 ^ 64
    few_next = let few = f.few in let inside = f.inside in let bytes = fit.few_bytes in omega (arith, few, inside, bytes)

    few_words : words + 256 < 2 ^ 64
    few_words = let most = f.few_words in let next = few_next in omega (arith, most, next)

    -- the end that may always stand there
    pub ends_here : Rest k (end_line Charges k words 0)
    ends_here = Ended k words position task shared _ refl (record {
      reason = Charges;
      accepted = words;
      repeats = 0;
      on_board = λ e. cc e;
      enough = omega arith;
      few_accepted = omega arith;
      few_repeats = omega arith;
      line = refl;
    })

    rest_is : i.report ≡ done ++ left
    rest_is = sym (take-append-drop front.at i.report)

    -- where no text that begins as the report goes on may stand there, the report stops being good there
    pub stops_here : ((t : ℕ) (text : List ℕ) → says text ≡ says (left) → Rest t text → ⊥) → IsStop i front.at
    stops_here never = record {
      inside = f.inside;
      rest = end_line Charges k words 0;
      t = k;
      begins = f.good k _ ends_here;
      differs = λ u line behind more e g.
          let shares : Shares (line ++ 10 ∷ more) (left) =
          inr (record { front = line; behind_a = more; behind_b = behind; a_is = refl; b_is = e }) in
          never u (line ++ 10 ∷ more) (ap (λ l. entry_of (fields l)) (shares_first_line _ _ shares)) (f.forced u _ shares g);
      not_good = λ u g.
          let P : List ℕ → Type 0 = λ x. IsGood i x u in
          never u (left) refl (f.forced u (left) (inl refl) (subst P rest_is g));
    }

    -- where each of these begins with the same lines, and these lines don't stand there, it stops where they differ
    pub stops_within : (lines behind : List ℕ) (t place : ℕ) → DiffersAt i.report front.at lines place → Rest t (lines ++ behind)
        → ((u : ℕ) (text : List ℕ) → says text ≡ says (left) → Rest u text → (rest : List ℕ) × (text ≡ lines ++ rest))
        → IsStop i place
    stops_within lines behind t place d there forced = record {
      inside = d.inside;
      rest = d.byte ∷ (d.more ++ behind);
      t = t;
      begins =
          let P : List ℕ → Type 0 = λ x. IsGood i x t in
          subst P (joined behind) (f.good t (lines ++ behind) there);
      differs = λ u line after more e g. goes_on u line after more e g;
      not_good = λ u g.
          let P : List ℕ → Type 0 = λ x. IsGood i x u in
          let r = forced u (left) refl (f.forced u (left) (inl refl) (subst P rest_is g)) in
          not_there i.report front.at lines place r.0 d (rest_is ∙ ap (λ x. done ++ x) r.1);
    }
      where
        joined : (x : List ℕ) → done ++ (lines ++ x) ≡ take place i.report ++ d.byte ∷ (d.more ++ x)
        joined x = sym (append_assoc (done) lines x) ∙ ap (λ y. y ++ x) d.same ∙ append_assoc (take place i.report) (d.byte ∷ d.more) x

        -- the byte that is expected stands there, as the first of a line or as its line feed
        other_byte : (line after more rest : List ℕ) → drop place i.report ≡ line ++ 10 ∷ after → line ++ 10 ∷ more ≡ d.byte ∷ rest → ⊥
        other_byte [] after more rest e same =
            let is : 10 ≡ d.byte = cc same in
            d.other (byte_behind i.report place d.byte after (e ∙ ap (λ b. b ∷ after) is))
        other_byte (b ∷ line) after more rest e same =
            let is : b ≡ d.byte = cc same in
            d.other (byte_behind i.report place d.byte (line ++ 10 ∷ after) (e ∙ ap (λ c. c ∷ (line ++ 10 ∷ after)) is))

        goes_on : (u : ℕ) (line after more : List ℕ) → drop place i.report ≡ line ++ 10 ∷ after → IsGood i (take place i.report ++ (line ++ 10 ∷ more)) u → ⊥
        goes_on u line after more e g =
            let mid = drop front.at (take place i.report) in
            let own : take place i.report ++ (line ++ 10 ∷ more) ≡ done ++ (mid ++ (line ++ 10 ∷ more))
            = ap (λ x. x ++ (line ++ 10 ∷ more)) (mid_is i.report front.at place d.onward d.inside) ∙ append_assoc (done) mid (line ++ 10 ∷ more) in
            let shares : Shares (mid ++ (line ++ 10 ∷ more)) (left) = inr (record {
              front = mid ++ line;
              behind_a = more;
              behind_b = after;
              a_is = sym (append_assoc mid line (10 ∷ more));
              b_is = from_there i.report front.at place d.onward d.inside ∙ ap (λ x. mid ++ x) e ∙ sym (append_assoc mid line (10 ∷ after));
            }) in
            let P : List ℕ → Type 0 = λ x. IsGood i x u in
            let r = forced u _ (ap (λ l. entry_of (fields l)) (shares_first_line _ _ shares)) (f.forced u _ shares (subst P own g)) in
            other_byte line after more (d.more ++ r.0) e
            (cancel (take place i.report) _ _ (own ∙ ap (λ x. done ++ x) r.1 ∙ joined r.0))

    -- a line that begins a transition is followed by that transition's
    forced_step : (span : Committed) → says left ≡ Some (entry.Transition span.from span.to) → (u : ℕ) (text : List ℕ) → says text ≡ says left → Rest u text
        → IsStep i.source i.program i.readings fit.names fit.few_readings u k words position task shared text span
    forced_step span entry_is u text same rest =
        step_forced i.source i.program i.readings fit.names fit.few_readings u k words position task shared text span.from span.to few_next
        (same ∙ entry_is) rest

    -- a transition whose lines stand there leads on
    module _ (span : Committed) (t : Transition) (made : IsMadeOn i.program i.readings position task shared span t) (few_emitted : length t.emitted ≤ 256)
        (entry_is : says (left) ≡ Some (entry.Transition span.from span.to)) where
      abbrev lines : List ℕ
      lines = transition_lines i.source i.program (k + 1) span t

      -- what may stand behind such a transition
      abbrev Behind : ℕ → Transition → List ℕ → Type 0
      Behind u y text = IsRest i.source i.program i.readings u (k + 1) (words + length y.emitted) span.to y.next y.after text

      -- the transition is forced
      same_step : (u : ℕ) (text : List ℕ) → says text ≡ says (left) → Rest u text
          → (rest : List ℕ) × (text ≡ lines ++ rest) × Behind u t rest
      same_step u text same rest =
          let step = forced_step span entry_is u text same rest in
          let one = step.is_made.made in
          let other = made.made in
          let is : step.transition ≡ t = cc (one, other) in
          let P : Transition → Type 0 = λ y. (x : List ℕ) × (text ≡ transition_lines i.source i.program (k + 1) span y ++ x) × Behind u y x in
          subst P is (step.rest, step.lines, step.more)

      some_bytes : 0 < length lines
      some_bytes = let all = ap length (sym (append-nil lines) ∙ transition_is i.source i.program fit.names (k + 1) span t []) in omega (arith, all)

      pub leads_on : (to : ℕ) → StandsUpTo i.report front.at lines to
          → IsFront i (record { at = to; transitions = k + 1; words = words + length t.emitted; position = span.to }) t.next t.after
      leads_on to s = record {
        inside = s.inside;
        few = let few = f.few in let len = s.length_is in let some = some_bytes in omega (arith, few, len, some);
        few_words = let most = f.few_words in omega (arith, most, few_emitted);
        good = λ u text rest.
            let step : GoesOn i.source i.program i.readings k position task shared (lines ++ text) =
            record { span = span; transition = t; is_made = made; rest = text; lines = refl } in
            let P : List ℕ → Type 0 = λ x. IsGood i x u in
            subst P (sym (joined text)) (f.good u (lines ++ text) (More k words position task shared (lines ++ text) step rest));
        forced = λ u text shares g.
            let P : List ℕ → Type 0 = λ x. IsGood i x u in
            let here = shares_lines text in
            let r = same_step u (lines ++ text) (ap (λ l. entry_of (fields l)) (shares_first_line _ _ here))
            (f.forced u (lines ++ text) here (subst P (joined text) g)) in
            subst (Behind u t) (sym (cancel lines text r.0 r.1)) r.2;
      }
        where
          joined : (x : List ℕ) → take to i.report ++ x ≡ done ++ (lines ++ x)
          joined x = ap (λ y. y ++ x) s.same ∙ append_assoc (done) lines x

          shares_lines : (text : List ℕ) → Shares (lines ++ text) (left)
          shares_lines text = inr (record {
            front = spaced (words_of i.source i.program fit.names (k + 1) span t);
            behind_a = _;
            behind_b = _;
            a_is = transition_is i.source i.program fit.names (k + 1) span t text;
            b_is = behind_it i.report front.at to lines s ∙ transition_is i.source i.program fit.names (k + 1) span t (drop to i.report);
          })

      pub leads_further : (to : ℕ) → StandsUpTo i.report front.at lines to → front.at < to
      leads_further to s = let len = s.length_is in let some = some_bytes in omega (arith, len, some)

      pub stops_in_transition : (place : ℕ) → DiffersAt i.report front.at lines place → IsStop i place
      stops_in_transition place d =
          let words_now : ℕ = words + length t.emitted in
          let ends : Behind (k + 1) t (end_line Charges (k + 1) words_now 0) =
          Ended (k + 1) words_now span.to t.next t.after _ refl (record {
            reason = Charges;
            accepted = words_now;
            repeats = 0;
            on_board = λ e. cc e;
            enough = omega arith;
            few_accepted = let most = few_words in omega (arith, few_emitted, most);
            few_repeats = omega arith;
            line = refl;
          }) in
          let step : GoesOn i.source i.program i.readings k position task shared (lines ++ end_line Charges (k + 1) words_now 0) =
          record { span = span; transition = t; is_made = made; rest = end_line Charges (k + 1) words_now 0; lines = refl } in
          stops_within lines (end_line Charges (k + 1) words_now 0) (k + 1) place d
          (More k words position task shared _ step ends) (λ u text same rest. let r = same_step u text same rest in (r.0, r.1))

    -- a task that makes no transition on the span stops there
    pub stops_unmade : (span : Committed) → says (left) ≡ Some (entry.Transition span.from span.to)
        → ((t : Transition) → IsMadeOn i.program i.readings position task shared span t → ⊥) → IsStop i front.at
    stops_unmade span entry_is never = stops_here (λ u text same rest.
        let step = forced_step span entry_is u text same rest in never step.transition step.is_made)

    -- another line stops there
    pub stops_at_none : says (left) ≡ None → IsStop i front.at
    stops_at_none none = stops_here (λ u text same rest.
        none_forced i.source i.program i.readings fit.names fit.few_readings u k words position task shared text few_next (same ∙ none) rest)

    -- the last line
    module _ (reason : Reason) (accepted repeats : ℕ) (entry_is : says (left) ≡ Some (entry.End reason accepted repeats)) where
      abbrev last : List ℕ
      last = end_line reason k accepted repeats

      same_end : (u : ℕ) (text : List ℕ) → says text ≡ says (left) → Rest u text
          → IsLast i.source i.program i.readings fit.names fit.few_readings u k words text reason accepted repeats
      same_end u text same rest =
          end_forced i.source i.program i.readings fit.names fit.few_readings u k words position task shared text reason accepted repeats few_next
          (same ∙ entry_is) rest

      pub stops_at_words : accepted < words → IsStop i front.at
      stops_at_words less = stops_here (λ u text same rest. let e = same_end u text same rest in let enough = e.enough in omega (arith, less, enough))

      module _ (end : HasEnd reason accepted repeats) (enough : words ≤ accepted) where
        ends_so : Rest k last
        ends_so = Ended k words position task shared last refl (record {
          reason = reason;
          accepted = accepted;
          repeats = repeats;
          on_board = end.on_board;
          enough = enough;
          few_accepted = end.few_accepted;
          few_repeats = end.few_repeats;
          line = refl;
        })

        pub stops_in_end : (place : ℕ) → DiffersAt i.report front.at last place → IsStop i place
        stops_in_end place d =
            let P : List ℕ → Type 0 = λ x. Rest k x in
            stops_within last [] k place d (subst P (sym (append-nil last)) ends_so)
            (λ u text same rest. ([], (same_end u text same rest).line ∙ sym (append-nil last)))

        pub is_whole : (to : ℕ) → StandsUpTo i.report front.at last to → to ≡ length i.report → IsGood i i.report k
        is_whole to s all =
            let P : List ℕ → Type 0 = λ x. IsGood i x k in
            let whole : done ++ last ≡ i.report =
            sym s.same ∙ ap (λ n. take n i.report) all ∙ ap (λ x. take (length i.report) x) (sym (append-nil i.report)) ∙ take-append_seam i.report [] in
            subst P whole (f.good k last ends_so)

        pub stops_behind_end : (to : ℕ) → StandsUpTo i.report front.at last to → (to ≡ length i.report → ⊥) → IsStop i to
        stops_behind_end to s more_there = record {
          inside = s.inside;
          rest = [];
          t = k;
          begins =
              let P : List ℕ → Type 0 = λ x. IsGood i x k in
              subst P (sym (append-nil (take to i.report) ∙ s.same)) (f.good k last ends_so);
          differs = λ u line behind more e g.
              let P : List ℕ → Type 0 = λ x. IsGood i x u in
              let own : take to i.report ++ (line ++ 10 ∷ more) ≡ done ++ (last ++ (line ++ 10 ∷ more)) =
              ap (λ x. x ++ (line ++ 10 ∷ more)) s.same ∙ append_assoc (done) last (line ++ 10 ∷ more) in
              let shares : Shares (last ++ (line ++ 10 ∷ more)) (left) = inr (record {
                front = last ++ line;
                behind_a = more;
                behind_b = behind;
                a_is = sym (append_assoc last line (10 ∷ more));
                b_is = behind_it i.report front.at to last s ∙ ap (λ x. last ++ x) e ∙ sym (append_assoc last line (10 ∷ behind));
              }) in
              let last_is = same_end u _ (ap (λ l. entry_of (fields l)) (shares_first_line _ _ shares))
              (f.forced u _ shares (subst P own g)) in
              none_behind line more (cancel last (line ++ 10 ∷ more) [] (last_is.line ∙ sym (append-nil last)));
          not_good = λ u g.
              let P : List ℕ → Type 0 = λ x. IsGood i x u in
              let last_is = same_end u (left) refl (f.forced u (left) (inl refl) (subst P rest_is g)) in
              let none : drop to i.report ≡ [] = cancel last (drop to i.report) []
              (sym (behind_it i.report front.at to last s) ∙ last_is.line ∙ sym (append-nil last)) in
              let len = ap length none in
              let inside = s.inside in
              more_there (omega (arith, len, inside, length-drop to i.report));
        }
          where
            none_behind : (line more : List ℕ) → line ++ 10 ∷ more ≡ [] → ⊥
            none_behind [] more e = cc e
            none_behind (b ∷ line) more e = cc e
