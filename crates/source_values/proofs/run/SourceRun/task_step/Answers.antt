use Rattle.std.proofs.Common.{◌∙◌, ap, sym}
use Rattle.task_ast.specs.View.{program_of}
use Rattle.source_values.specs.Statements.{meanings, run_block}
use Rattle.source_values.specs.Runs.{task_body, completion_of}
use Rattle.source_values.specs.View.{attempt_in}
use Rattle.source_values.proofs.Tasks.{attempt_is, task_leaves, same_completion}
use Rattle.source_values.proofs.Uses.{meanings_take}
use Rattle.source_values.proofs.run.SourceRun.task_step.Goals as goal

pub returns-in-Some-clause-done : goal.returns-in-Some-clause-done
returns-in-Some-clause-done c =
    let p = program_of c.args.source.now in
    let h = ap (λ r. r.task) c.self.view_is in
    let fresh = attempt_is c.restart.new.scratch c.args.self.now.shared c.args.readings.now (record {
      rows = ap (λ t. t.rows) c.restart.ensures.shared ∙ c.self.invariant.1 ∙ ap (λ r. r.shared) c.self.view_is;
      locals = c.restart.ensures.locals;
      emitted = c.restart.ensures.emitted;
    }) in
    let done = ap (run_block (meanings p) (task_body p c.args.self.now.task)) fresh
    ∙ ap (λ i. run_block (meanings p) (task_body p i) (attempt_in c.restart.new.scratch c.args.readings.now)) (sym h) ∙ c.in-Some.ensures.done in
    let rest = (task_leaves (meanings p) (meanings_take p) (task_body p c.self.inside.task) (attempt_in c.restart.new.scratch c.args.readings.now)
    c.in-Some.next (attempt_in c.run_task.new.scratch c.in-Some.left.now) c.in-Some.ensures.done).rest in
    ap completion_of done ∙ same_completion c.in-Some.next (ap (λ t. t.base) (sym c.settle.ensures.value))
    (ap (λ v. v.items) (sym c.swap.ensures.x_after)) (sym rest)
