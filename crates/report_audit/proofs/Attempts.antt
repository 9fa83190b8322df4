-- An attempt that takes exactly its readings makes a transition on them, and no other does.
use Rattle.std.proofs.Common.{◌≡◌, ◌≤◌, ◌<◌, ℕ, List, [], ◌∷◌, length, drop, length-drop, arith, ap, sym, ◌∙◌, Some, None}
use Rattle.std.proofs.lemmas.List.{drop_all}
use Rattle.source_values.specs.Values.{◌>>?◌}
use Rattle.source_values.specs.Statements.{short}
use Rattle.source_report.specs.SourceReport.{Committed, readings_of}
use Rattle.source_values.specs.Runs.{CheckedProgram, Completion, Transition, without_answers, attempt_of, completion_of, exactly, transition_of}
use Rattle.report_audit.specs.Fronts.{IsMadeOn}
use Rattle.report_audit.proofs.Rests.{plain}

module _ (program : CheckedProgram) (task : ℕ) (shared : List (List ℕ)) (given : List ℕ) where
  -- the completion with these readings left, and no answers
  abbrev pub completed : ℕ → List (List ℕ) → List ℕ → List ℕ → Completion
  completed next after emitted left = record { next = next; shared = after; emitted = emitted; left = left; answers = [] }

  pub made_exactly : (next : ℕ) (after : List (List ℕ)) (emitted left : List ℕ)
      → completion_of (attempt_of program task shared (without_answers given)) ≡ Some (completed next after emitted left) → left ≡ []
      → transition_of program (plain task shared) (without_answers given)
      ≡ Some (record { from = task; next = next; before = shared; after = after; emitted = emitted })
  made_exactly next after emitted left done none =
      ap (λ o. o >>? exactly (plain task shared)) done
      ∙ ap (λ ws. exactly (plain task shared) (completed next after emitted ws)) none

  left_over : (next : ℕ) (after : List (List ℕ)) (emitted left : List ℕ) (t : Transition) → 0 < length left
      → exactly (plain task shared) (completed next after emitted left) ≡ Some t → ⊥
  left_over next after emitted [] t some e = omega (arith, some)
  left_over next after emitted (w ∷ ws) t some e = cc e

  pub not_exactly : (next : ℕ) (after : List (List ℕ)) (emitted left : List ℕ) (t : Transition)
      → completion_of (attempt_of program task shared (without_answers given)) ≡ Some (completed next after emitted left) → 0 < length left
      → transition_of program (plain task shared) (without_answers given) ≡ Some t → ⊥
  not_exactly next after emitted left t done some e =
      left_over next after emitted left t some (sym (ap (λ o. o >>? exactly (plain task shared)) done) ∙ e)

  pub none_short : (t : Transition) → attempt_of program task shared (without_answers given) ≡ short
      → transition_of program (plain task shared) (without_answers given) ≡ Some t → ⊥
  none_short t is e =
      let none : transition_of program (plain task shared) (without_answers given) ≡ None = ap (λ o. completion_of o >>? exactly (plain task shared)) is in
      cc (none, e)

-- the same of a span of the readings, behind a position
module _ (program : CheckedProgram) (readings : List ℕ) (position from to task : ℕ) (shared : List (List ℕ)) where
  abbrev pub span : Committed
  span = record { from = from; to = to }

  abbrev given : List ℕ
  given = readings_of readings span

  pub made_on : (next : ℕ) (after : List (List ℕ)) (emitted : List ℕ) (used : ℕ) → position ≤ from → from ≤ to → to ≤ length readings
      → completion_of (attempt_of program task shared (without_answers given)) ≡ Some (completed program task shared given next after emitted (drop used given))
      → used ≡ length given
      → IsMadeOn program readings position task shared span (record { from = task; next = next; before = shared; after = after; emitted = emitted })
  made_on next after emitted used behind onward inside done all = record {
    behind = behind;
    onward = onward;
    inside = inside;
    made = made_exactly program task shared given next after emitted (drop used given) done (drop_all used given (omega (arith, all)));
  }

  pub not_made_on : (next : ℕ) (after : List (List ℕ)) (emitted : List ℕ) (used : ℕ)
      → completion_of (attempt_of program task shared (without_answers given)) ≡ Some (completed program task shared given next after emitted (drop used given))
      → used ≤ length given → (used ≡ length given → ⊥) → (t : Transition) → IsMadeOn program readings position task shared span t → ⊥
  not_made_on next after emitted used done less not_all t m =
      not_exactly program task shared given next after emitted (drop used given) t done (omega (arith, less, not_all, length-drop used given)) m.made

  pub short_on : attempt_of program task shared (without_answers given) ≡ short → (t : Transition) → IsMadeOn program readings position task shared span t → ⊥
  short_on is t m = none_short program task shared given t is m.made
