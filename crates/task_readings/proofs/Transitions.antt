-- What an attempt takes and what a transition sends is within the task's text.
use Rattle.std.proofs.Common.{◌≡◌, ℕ, ◌+◌, ◌≤◌, List, [], ◌∷◌, length, refl, sym, subst, arith, Option, Some, None, slice_get, All}
use Rattle.std.proofs.lemmas.Option.{get_or_from_slice_get, slice_get_within}
use Rattle.std.proofs.lemmas.List.Elements.{All-get_or}
use Rattle.task_ast.specs.Calls.{BlockCallsBelow}
use Rattle.task_ast.specs.Paths.{CheckedTask}
use Rattle.source_values.specs.Values.{◌>>?◌}
use Rattle.source_values.specs.Statements.{Outcome, goes_on, to_task, returns, short, meanings, block_emits, emit_counts}
use Rattle.source_values.specs.Runs.{CheckedProgram, State, Transition, TaskInputs, Completion, completion_of, exactly}
use Rattle.source_values.specs.Runs.{body_of, fresh_attempt, attempt_of, task_body}
use Rattle.source_values.proofs.Interface.{EmitsUpTo, attempt_up_to}
use Rattle.task_readings.specs.Readings.{block_readings, reading_counts}
use Rattle.task_readings.specs.Laws.{TakesUpTo, FunctionsReturn, AttemptsTakeFew, IsWithinText, TransitionsTakeFew}
use Rattle.task_readings.proofs.Attempts.{block_takes}
use Rattle.task_readings.proofs.Functions.{meanings_take, all_known}

-- a task calls functions of its source
calls_of : (o : Option CheckedTask) (n : ℕ) → ((task : CheckedTask) → o ≡ Some task → BlockCallsBelow n task.body) → BlockCallsBelow n (body_of o)
calls_of None n h = tt
calls_of (Some task) n h = h task refl

task_at : (n : ℕ) (tasks : List CheckedTask) (k : ℕ) → All (λ (t : CheckedTask). BlockCallsBelow n t.body) tasks
    → (task : CheckedTask) → slice_get tasks k ≡ Some task → BlockCallsBelow n task.body
task_at n tasks k all task is =
    subst (λ (t : CheckedTask). BlockCallsBelow n t.body) (get_or_from_slice_get tasks k task task is)
    (All-get_or (λ (t : CheckedTask). BlockCallsBelow n t.body) tasks k task (slice_get_within tasks k task is) all)

task_calls : (p : CheckedProgram) → FunctionsReturn p → (task : ℕ) → BlockCallsBelow (length (meanings p)) (task_body p task)
task_calls p h k =
    subst (λ n. BlockCallsBelow n (task_body p k)) (sym (all_known p h))
    (calls_of (slice_get p.tasks k) (length p.functions) (task_at (length p.functions) p.tasks k h.calls.tasks))

pub attempts_take_few : AttemptsTakeFew
attempts_take_few p h task shared given =
    block_takes (meanings p) (reading_counts p) (meanings_take p h) (task_body p task) (task_calls p h task) (fresh_attempt shared given)

-- with no readings left over, all that were given were taken
exact_within : (p : CheckedProgram) (s : State) (given : TaskInputs) (c : Completion) (t : Transition)
    → length given.readings ≤ length c.left + block_readings (reading_counts p) (task_body p s.task)
    → length c.emitted ≤ block_emits (emit_counts p) (task_body p s.task)
    → exactly s c ≡ Some t → IsWithinText p s.task given t
exact_within p s given c t taken few e = by_left c.left c.answers taken e
  where
    by_left : (left answers : List ℕ) → length given.readings ≤ length left + block_readings (reading_counts p) (task_body p s.task)
        → exactly s (record c { left = left; answers = answers }) ≡ Some t → IsWithinText p s.task given t
    by_left [] [] h e =
        let same : record { from = s.task; next = c.next; before = s.shared; after = c.shared; emitted = c.emitted } ≡ t = cc e in
        subst (IsWithinText p s.task given) same (record { readings = omega (arith, h); words = few })
    by_left [] (a ∷ answers) h e = absurd (cc e)
    by_left (w ∷ ws) answers h e = absurd (cc e)

within : (p : CheckedProgram) (s : State) (given : TaskInputs) (t : Transition) (o : Outcome)
    → TakesUpTo (length given.readings) (block_readings (reading_counts p) (task_body p s.task)) o
    → EmitsUpTo (block_emits (emit_counts p) (task_body p s.task)) o
    → (completion_of o >>? exactly s) ≡ Some t → IsWithinText p s.task given t
within p s given t (goes_on m) h k e = absurd (cc e)
within p s given t (to_task task m) h k e =
    exact_within p s given (record { next = task; shared = m.variables.shared; emitted = m.emitted; left = m.left; answers = m.answers }) t h k e
within p s given t (returns w m) h k e = absurd (cc e)
within p s given t short h k e = absurd (cc e)

pub transitions_take_few : TransitionsTakeFew
transitions_take_few p h s given t e =
    let attempt = fresh_attempt s.shared given in
    within p s given t (attempt_of p s.task s.shared given) (attempts_take_few p h s.task s.shared given)
    (attempt_up_to p (task_body p s.task) attempt (block_emits (emit_counts p) (task_body p s.task)) (omega arith)) e
