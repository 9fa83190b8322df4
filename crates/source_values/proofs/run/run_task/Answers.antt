use Rattle.std.proofs.Common.{◌≡◌, ◌∙◌, ap, arith, length}
use Rattle.task_ast.specs.View.{program_of}
use Rattle.source_values.specs.Statements.{meanings, run_block, to_task}
use Rattle.source_values.specs.Runs.{task_body}
use Rattle.source_values.specs.View.{attempt_in, ended}
use Rattle.source_values.proofs.Tasks.{ReachesTask, task_runs, task_emits, task_ends, task_leaves, not_without_task, task_inside, ends_at_task}
use Rattle.source_values.proofs.Uses.{meanings_take}
use Rattle.source_values.proofs.run.run_task.Goals as goal

pub run_block-requires-clause-emits : goal.run_block-requires-clause-emits
run_block-requires-clause-emits c =
    let reached : ReachesTask c.args.source.now c.deref.result.now c.args.task c.index.result.now c.deref-2.result.now =
    record { functions_are = c.deref.ensures.value; inside = c.requires.task; is = c.index.ensures; of_task = c.deref-2.ensures.value } in
    let emits = task_emits c.args.source.now c.deref.result.now c.args.task c.index.result.now c.deref-2.result.now reached c.requires.runnable in
    let none = ap length c.requires.fresh in
    omega (arith, emits, none)

pub returns-in_err-ran-clause-short : goal.returns-in_err-ran-clause-short
returns-in_err-ran-clause-short c =
    let reached : ReachesTask c.args.source.now c.deref.result.now c.args.task c.index.result.now c.deref-2.result.now =
    record { functions_are = c.deref.ensures.value; inside = c.requires.task; is = c.index.ensures; of_task = c.deref-2.ensures.value } in
    rw c.from_residual.ensures (task_runs c.args.source.now c.deref.result.now c.args.task c.index.result.now c.deref-2.result.now reached
    (attempt_in c.args.scratch.now c.args.readings.now) ∙ c.in_err-ran.ensures.outcome)

pub returns-in_err-next-clause-short : goal.returns-in_err-next-clause-short
returns-in_err-next-clause-short c =
    let reached : ReachesTask c.args.source.now c.deref.result.now c.args.task c.index.result.now c.deref-2.result.now =
    record { functions_are = c.deref.ensures.value; inside = c.requires.task; is = c.index.ensures; of_task = c.deref-2.ensures.value } in
    let behind = attempt_in c.run_block.new.scratch c.in_ok-ran.ran.left.now in
    let ends = task_ends c.args.source.now c.deref.result.now c.args.task c.index.result.now c.deref-2.result.now reached c.requires.runnable
    (attempt_in c.args.scratch.now c.args.readings.now) (ended c.in_ok-ran.ran.end behind) c.in_ok-ran.ensures.outcome in
    absurd (not_without_task _ c.in_ok-ran.ran.end behind ends c.in_err-next.ensures)

pub overflow_cast-result : goal.overflow_cast-result
overflow_cast-result c =
    let reached : ReachesTask c.args.source.now c.deref.result.now c.args.task c.index.result.now c.deref-2.result.now =
    record { functions_are = c.deref.ensures.value; inside = c.requires.task; is = c.index.ensures; of_task = c.deref-2.ensures.value } in
    let behind = attempt_in c.run_block.new.scratch c.in_ok-ran.ran.left.now in
    let ends = task_ends c.args.source.now c.deref.result.now c.args.task c.index.result.now c.deref-2.result.now reached c.requires.runnable
    (attempt_in c.args.scratch.now c.args.readings.now) (ended c.in_ok-ran.ran.end behind) c.in_ok-ran.ensures.outcome in
    let next = task_inside _ c.in_ok-next.next c.in_ok-ran.ran.end behind ends c.in_ok-next.ensures in
    omega (arith, next, c.requires.runnable.few_tasks)

pub returns-clause-done : goal.returns-clause-done
returns-clause-done c =
    let reached : ReachesTask c.args.source.now c.deref.result.now c.args.task c.index.result.now c.deref-2.result.now =
    record { functions_are = c.deref.ensures.value; inside = c.requires.task; is = c.index.ensures; of_task = c.deref-2.ensures.value } in
    task_runs c.args.source.now c.deref.result.now c.args.task c.index.result.now c.deref-2.result.now reached
    (attempt_in c.args.scratch.now c.args.readings.now) ∙ c.in_ok-ran.ensures.outcome
    ∙ ends_at_task c.in_ok-next.next c.in_ok-ran.ran.end (attempt_in c.run_block.new.scratch c.in_ok-ran.ran.left.now) c.in_ok-next.ensures

pub returns-clause-next : goal.returns-clause-next
returns-clause-next c =
    let reached : ReachesTask c.args.source.now c.deref.result.now c.args.task c.index.result.now c.deref-2.result.now =
    record { functions_are = c.deref.ensures.value; inside = c.requires.task; is = c.index.ensures; of_task = c.deref-2.ensures.value } in
    let behind = attempt_in c.run_block.new.scratch c.in_ok-ran.ran.left.now in
    let ends = task_ends c.args.source.now c.deref.result.now c.args.task c.index.result.now c.deref-2.result.now reached c.requires.runnable
    (attempt_in c.args.scratch.now c.args.readings.now) (ended c.in_ok-ran.ran.end behind) c.in_ok-ran.ensures.outcome in
    task_inside _ c.in_ok-next.next c.in_ok-ran.ran.end behind ends c.in_ok-next.ensures

pub returns-clause-left : goal.returns-clause-left
returns-clause-left c =
    let reached : ReachesTask c.args.source.now c.deref.result.now c.args.task c.index.result.now c.deref-2.result.now =
    record { functions_are = c.deref.ensures.value; inside = c.requires.task; is = c.index.ensures; of_task = c.deref-2.ensures.value } in
    let p = program_of c.args.source.now in
    let start = attempt_in c.args.scratch.now c.args.readings.now in
    let behind = attempt_in c.run_block.new.scratch c.in_ok-ran.ran.left.now in
    let done : run_block (meanings p) (task_body p c.args.task) start ≡ to_task c.in_ok-next.next behind =
    task_runs c.args.source.now c.deref.result.now c.args.task c.index.result.now c.deref-2.result.now reached start ∙ c.in_ok-ran.ensures.outcome
    ∙ ends_at_task c.in_ok-next.next c.in_ok-ran.ran.end behind c.in_ok-next.ensures in
    (task_leaves (meanings p) (meanings_take p) (task_body p c.args.task) start c.in_ok-next.next behind done).fewer

pub returns-clause-few_emitted : goal.returns-clause-few_emitted
returns-clause-few_emitted c =
    let reached : ReachesTask c.args.source.now c.deref.result.now c.args.task c.index.result.now c.deref-2.result.now =
    record { functions_are = c.deref.ensures.value; inside = c.requires.task; is = c.index.ensures; of_task = c.deref-2.ensures.value } in
    let emits = task_emits c.args.source.now c.deref.result.now c.args.task c.index.result.now c.deref-2.result.now reached c.requires.runnable in
    let none = ap length c.requires.fresh in
    omega (arith, emits, none, c.in_ok-ran.ensures.emitted)
