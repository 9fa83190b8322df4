-- Whole tasks, and the readings and the answers that they take.
use Rattle.std.proofs.Common.{◌≡◌, ℕ, ◌++◌, ap, sym, ◌∙◌, subst, Some}
use Rattle.source_values.specs.Statements.{Attempt, Outcome, goes_on, to_task, returns, short, meanings}
use Rattle.source_values.specs.Runs.{attempt_of, fresh_attempt, task_body, Completion, completion_of}
use Rattle.source_values.specs.Values.{AreTaken}
use Rattle.source_values.specs.Laws.{ReadingsLeftOver, AnswersLeftOver}
use Rattle.source_values.proofs.Uses.{block_uses, meanings_take}

-- what outlives a task at a transition
abbrev completed : ℕ → Attempt → Completion
completed t s = record { next = t; shared = s.variables.shared; emitted = s.emitted; left = s.left; answers = s.answers }

-- an outcome that completes goes to a task
pub record ToTask (o : Outcome) (c : Completion) : Type 0 where
  pub state : Attempt
  pub is : o ≡ to_task c.next state
  pub completion : completed c.next state ≡ c

pub to_task_of : (o : Outcome) (c : Completion) → completion_of o ≡ Some c → ToTask o c
to_task_of (goes_on s) c e = absurd (cc)
to_task_of (returns w s) c e = absurd (cc)
to_task_of short c e = absurd (cc)
to_task_of (to_task t s) c e =
    let n : t ≡ c.next = cc in
    let h : completed t s ≡ c = cc in
    record {
      state = s;
      is = ap (λ t. to_task t s) n;
      completion = ap (λ t. completed t s) (sym n) ∙ h;
    }

-- a completion is the same with any readings behind those that it took
pub readings_left_over_lem : ReadingsLeftOver
readings_left_over_lem program task shared given c e =
    let t = to_task_of (attempt_of program task shared given) c e in
    let uses = block_uses (meanings program) (meanings_take program) (task_body program task) (fresh_attempt shared given) (to_task c.next t.state) t.is tt in (
      uses.used,
      uses.front ∙ ap (λ c. uses.used ++ c.left) t.completion,
      λ others. ap completion_of (uses.same others)
          ∙ ap (λ (c : Completion). Some (record c { left = others })) t.completion,
      λ none. ap (λ (c : Completion). c.answers) (sym t.completion) ∙ uses.no_answers none,
    )

-- and with any answers
pub answers_left_over_lem : AnswersLeftOver
answers_left_over_lem program task shared given c e =
    let t = to_task_of (attempt_of program task shared given) c e in
    let uses = block_uses (meanings program) (meanings_take program) (task_body program task) (fresh_attempt shared given) (to_task c.next t.state) t.is tt in (
      uses.answered,
      subst (λ (d : Completion). AreTaken given.answers uses.answered d.answers) t.completion uses.answers,
      λ others. ap completion_of (uses.same_answered others)
          ∙ ap (λ (c : Completion). Some (record c { answers = others })) t.completion,
    )
