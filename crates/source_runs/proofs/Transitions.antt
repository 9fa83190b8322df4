-- Dones of a run as the source's transitions on their committed readings.
use Rattle.std.proofs.Common.{◌≡◌, ℕ, ◌≤◌, refl, ap, ◌∙◌, subst, arith, All, List, [], ◌∷◌, length, map, Option, Some, None}
use Rattle.std.proofs.lemmas.List.Elements.{All-get_or}
use Rattle.std.proofs.lemmas.Option.{slice_get_within, get_or_from_slice_get}
use Rattle.std.specs.Prelude.{slice_get}
use Rattle.task_ast.specs.Paths.{CheckedTask}
use Rattle.image_map.specs.MapValue.{MapValue}
use Rattle.source_values.specs.Values.{◌>>?◌}
use Rattle.source_values.specs.Statements.{Outcome, goes_on, to_task, returns, short, block_emits, emit_counts}
use Rattle.source_values.specs.Runs.{CheckedProgram, State, Transition, Completion, EmitsFit, body_of, task_body, fresh_attempt, attempt_of}
use Rattle.source_values.specs.Runs.{TaskInputs, completion_of}
use Rattle.source_values.specs.Runs.{exactly, transition_of, source_run, state_after, state_behind}
use Rattle.source_values.proofs.Interface.{EmitsUpTo, attempt_up_to}
use Rattle.crash_rules.specs.Model.{Model}
use Rattle.crash_rules.specs.History.{Done, done_given}
use Rattle.crash_rules.specs.Laws.{SourceRun}
use Rattle.source_runs.specs.Tells.{given_to}
use Rattle.source_runs.specs.Transitions.{StandForTransitions, committed_by}
use Rattle.source_runs.specs.Sources.{IsOfSource, inputs_of}

-- what holds of a transition by the task that makes it
pub record IsMadeBy (s : State) (t : Transition) : Type 0 where
  pub from : t.from ≡ s.task
  pub before : t.before ≡ s.shared
  pub few : length t.emitted ≤ 256

exact_made : (s : State) (c : Completion) (t : Transition) → length c.emitted ≤ 256 → exactly s c ≡ Some t → IsMadeBy s t
exact_made s c t few e = by_left c.left c.answers e
  where
    by_left : (left answers : List ℕ) → exactly s (record c { left = left; answers = answers }) ≡ Some t → IsMadeBy s t
    by_left [] [] e =
        let same : record { from = s.task; next = c.next; before = s.shared; after = c.shared; emitted = c.emitted } ≡ t = cc e in
        let Q : Transition → Type 0 = λ y. IsMadeBy s y in
        subst Q same (record { from = refl; before = refl; few = few })
    by_left [] (a ∷ answers) e = absurd (cc e)
    by_left (w ∷ ws) answers e = absurd (cc e)

outcome_made : (s : State) (o : Outcome) (t : Transition) → EmitsUpTo 256 o → (completion_of o >>? exactly s) ≡ Some t → IsMadeBy s t
outcome_made s (goes_on m) t few e = absurd (cc e)
outcome_made s (to_task next m) t few e =
    exact_made s (record { next = next; shared = m.variables.shared; emitted = m.emitted; left = m.left; answers = m.answers }) t few e
outcome_made s (returns w m) t few e = absurd (cc e)
outcome_made s short t few e = absurd (cc e)

body_fits : (p : CheckedProgram) (o : Option CheckedTask) → ((task : CheckedTask) → o ≡ Some task → EmitsFit p task)
    → block_emits (emit_counts p) (body_of o) ≤ 256
body_fits p None h = omega arith
body_fits p (Some task) h = h task refl

-- in a source whose tasks emit at most 256 words
module _ (program : CheckedProgram) (fit : All (EmitsFit program) program.tasks) where
  fits : (task : ℕ) → block_emits (emit_counts program) (task_body program task) ≤ 256
  fits task = body_fits program (slice_get program.tasks task) (λ t e. subst (EmitsFit program) (get_or_from_slice_get program.tasks task t t e)
      (All-get_or (EmitsFit program) program.tasks task t (slice_get_within program.tasks task t e) fit))

  pub made : (s : State) (given : TaskInputs) (t : Transition) → transition_of program s given ≡ Some t → IsMadeBy s t
  made s given t e =
      outcome_made s (attempt_of program s.task s.shared given) t
      (attempt_up_to program (task_body program s.task) (fresh_attempt s.shared given) 256 (let f = fits s.task in omega (arith, f))) e

module _ (text : List ℕ) (program : CheckedProgram) (m : MapValue) (model : Model State) (is : IsOfSource text program m model) where
  -- dones of a run from a state to a state, as transitions
  pub record Tells (readings : List ℕ) (s : State) (ds : List Done) (u : State) : Type 0 where
    pub transitions : List Transition
    pub source : source_run program s (map (given_to readings) (committed_by ds)) ≡ Some transitions
    pub stand : StandForTransitions m s ds transitions
    pub end : u ≡ state_behind s transitions

  pub tells : (readings : List ℕ) (s u : State) (ds : List Done) → SourceRun model readings s ds u → Tells readings s ds u
  tells readings s u [] run = record { transitions = []; source = refl; stand = tt; end = run }
  tells readings s u (d ∷ ds) run =
      let next = run.0 in
      let k = is.transits s next (done_given readings d) run.1 in
      let t = k.0 in
      let P : State → Type 0 = λ y. SourceRun model readings y ds u in
      let Q : State → Type 0 = λ y. model.Rests y d.world in
      let more = tells readings (state_after s t) u ds (subst P k.2 run.3) in
      let by = made program is.emits_fit s (inputs_of (done_given readings d)) t k.1 in
      record {
        transitions = t ∷ more.transitions;
        source = ap (λ p. p >>? λ y. source_run program (state_after s y) (map (given_to readings) (committed_by ds)) >>? λ ys. Some (y ∷ ys)) k.1
            ∙ ap (λ q. q >>? λ ys. Some (t ∷ ys)) more.source;
        stand = (
          record { from = by.from; before = by.before; few = by.few; behind = is.rests (state_after s t) d.world (subst Q k.2 run.2) },
          more.stand,
        );
        end = more.end;
      }
