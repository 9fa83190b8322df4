use Rattle.std.proofs.Common.{◌∙◌, ◌++◌, ap, sym}
use Rattle.std.proofs.Math.ListN.{drop_of_length-le}
use Rattle.text_parts.specs.Printed.{printed}
use Rattle.image_map.specs.Named.{AreTaskNames}
use Rattle.image_map.specs.Text.{tasks_fields}
use Rattle.image_map.proofs.Printed.{task_written, no_tasks_written, one_more}
use Rattle.image_map.proofs.print.push_tasks.Goals as goal

pub loop-task-preserved : goal.loop-task-preserved
loop-task-preserved c = record {
  text = task_written c.args.tasks.now _ c.loop-task.task-index _ _ c.loop-task-test.true c.task-item.is c.in_ok-push_task.ensures.text
      ∙ c.loop-task.invariant.text;
  names = one_more AreTaskNames c.args.tasks.now c.task-item.result c.loop-task.task-index c.loop-task-test.true c.task-item.is
      c.in_ok-push_task.ensures.names c.loop-task.invariant.names;
}

pub returns-clause-text : goal.returns-clause-text
returns-clause-text c =
    sym (ap (λ ts. c.loop-task.out.items ++ printed (tasks_fields ts)) (drop_of_length-le c.args.tasks.now c.loop-task-test.false)
    ∙ no_tasks_written c.loop-task.out.items)
    ∙ c.loop-task.invariant.text
