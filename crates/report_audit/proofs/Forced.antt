-- What stands behind some transitions is forced by its first line: the span that the line says, the transition that a task makes on it.
use Rattle.std.proofs.Common.{◌≡◌, ◌≤◌, ◌<◌, ◌^◌, ℕ, ◌+◌, List, [], ◌++◌, length, arith, ap, ap₂, sym, ◌∙◌, subst, append-nil, Option, Some, None}
use Rattle.alp_io.specs.declared.report.Reason.{Reason}
use Rattle.alp_io.specs.Report.{end_line}
use Rattle.text_parts.specs.Fields.{fields}
use Rattle.source_values.specs.Runs.{CheckedProgram, Transition}
use Rattle.source_report.specs.SourceReport.{Committed, transition_lines}
use Rattle.source_maps.specs.Names.{HasNames}
use Rattle.report_audit.specs.Entry.{entry_of}
use Rattle.report_audit.specs.declared.entry.Entry.{Entry}
use Rattle.report_audit.specs.declared.entry.Entry.TheVariants as entry
use Rattle.report_audit.specs.Fronts.{first_line, EndsAt, IsMadeOn, GoesOn, IsRest, Ended, More}
use Rattle.report_audit.proofs.Printed.{transition_says, end_says}

-- what a text says by its first line
abbrev pub says : List ℕ → Option Entry
says text = entry_of (fields (first_line text))

module _ (source : List ℕ) (program : CheckedProgram) (readings : List ℕ) (names : HasNames source program) (few_readings : length readings < 2 ^ 64) where
  ending_says : (k words : ℕ) (text : List ℕ) → k < 2 ^ 64 → (e : EndsAt k words text) → says text ≡ Some (entry.End e.reason e.accepted e.repeats)
  ending_says k words text few e =
      ap says (e.line ∙ sym (append-nil (end_line e.reason k e.accepted e.repeats)))
      ∙ end_says e.reason k e.accepted e.repeats [] e.on_board few e.few_accepted e.few_repeats

  step_says : (k position task : ℕ) (shared : List (List ℕ)) (text : List ℕ) → k + 1 < 2 ^ 64 → (g : GoesOn source program readings k position task shared text)
      → says text ≡ Some (entry.Transition g.span.from g.span.to)
  step_says k position task shared text few g =
      let onward = g.is_made.onward in
      let inside = g.is_made.inside in
      ap says g.lines ∙ transition_says source program names (k + 1) g.span g.transition g.rest few (omega arith) (omega arith)

  -- a transition on a span, and what may stand behind it
  pub record IsStep (t k words position task : ℕ) (shared : List (List ℕ)) (text : List ℕ) (span : Committed) : Type 0 where
    pub transition : Transition
    pub is_made : IsMadeOn program readings position task shared span transition
    pub rest : List ℕ
    pub lines : text ≡ transition_lines source program (k + 1) span transition ++ rest
    pub more : IsRest source program readings t (k + 1) (words + length transition.emitted) span.to transition.next transition.after rest

  -- a line that begins a transition is followed by that transition's
  pub step_forced : (t k words position task : ℕ) (shared : List (List ℕ)) (text : List ℕ) (from to : ℕ) → k + 1 < 2 ^ 64
      → says text ≡ Some (entry.Transition from to) → IsRest source program readings t k words position task shared text
      → IsStep t k words position task shared text (record { from = from; to = to })
  step_forced t k words position task shared text from to few s (Ended _ _ _ _ _ _ is e) =
      let other = ending_says k words text (omega arith) e in absurd (cc (s, other))
  step_forced t k words position task shared text from to few s (More _ _ _ _ _ _ g more) =
      let own = step_says k position task shared text few g in
      let same_from : g.span.from ≡ from = cc (s, own) in
      let same_to : g.span.to ≡ to = cc (s, own) in
      let span : ℕ → ℕ → Committed = λ a b. record { from = a; to = b } in
      let P : Committed → Type 0 = λ x. IsStep t k words position task shared text x in
      subst P (ap₂ span same_from same_to)
      (record { transition = g.transition; is_made = g.is_made; rest = g.rest; lines = g.lines; more = more })

  -- the last line is the last
  pub record IsLast (t k words : ℕ) (text : List ℕ) (reason : Reason) (accepted repeats : ℕ) : Type 0 where
    pub all : k ≡ t
    pub enough : words ≤ accepted
    pub line : text ≡ end_line reason k accepted repeats

  pub end_forced : (t k words position task : ℕ) (shared : List (List ℕ)) (text : List ℕ) (reason : Reason) (accepted repeats : ℕ) → k + 1 < 2 ^ 64
      → says text ≡ Some (entry.End reason accepted repeats) → IsRest source program readings t k words position task shared text
      → IsLast t k words text reason accepted repeats
  end_forced t k words position task shared text reason accepted repeats few s (Ended _ _ _ _ _ _ is e) =
      let own = ending_says k words text (omega arith) e in
      let same_reason : e.reason ≡ reason = cc (s, own) in
      let same_accepted : e.accepted ≡ accepted = cc (s, own) in
      let same_repeats : e.repeats ≡ repeats = cc (s, own) in
      let enough = e.enough in
      record {
        all = is;
        enough = rw same_accepted at enough;
        line = e.line ∙ cc (same_reason, same_accepted, same_repeats);
      }
  end_forced t k words position task shared text reason accepted repeats few s (More _ _ _ _ _ _ g more) =
      let own = step_says k position task shared text few g in absurd (cc (s, own))

  -- another line stands nowhere
  pub none_forced : (t k words position task : ℕ) (shared : List (List ℕ)) (text : List ℕ) → k + 1 < 2 ^ 64
      → says text ≡ None → IsRest source program readings t k words position task shared text → ⊥
  none_forced t k words position task shared text few s (Ended _ _ _ _ _ _ is e) =
      let own = ending_says k words text (omega arith) e in cc (s, own)
  none_forced t k words position task shared text few s (More _ _ _ _ _ _ g more) =
      let own = step_says k position task shared text few g in cc (s, own)
