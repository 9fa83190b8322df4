use Rattle.std.proofs.Common.{◌∙◌, ◌++◌, ap, sym, map}
use Rattle.std.proofs.Math.ListN.{drop_of_length-le}
use Rattle.text_parts.specs.Printed.{printed}
use Rattle.need_lines.specs.Rows.{row_of}
use Rattle.need_lines.specs.Lines.{rows_fields, way_fields}
use Rattle.need_lines.proofs.Written.{task_written, no_tasks_written}
use Rattle.need_lines.proofs.lines.push_tasks.Goals as goal

pub loop-task-preserved : goal.loop-task-preserved
loop-task-preserved c =
    let ways = c.in_ok-push_ways.ensures ∙ ap (λ ws. c.push_parts.new.out.items ++ printed (map way_fields ws)) c.deref.ensures.value in
    task_written c.args.tasks.now c.loop-task.task-index _ _ _ _ _ _ c.loop-task-test.true c.task-item.is c.in_ok-push_task.ensures
    c.in_ok-push_parts.ensures ways c.in_ok-push_undo.ensures
    ∙ c.loop-task.invariant

pub returns : goal.returns
returns c =
    sym (ap (λ ts. c.loop-task.out.items ++ printed (rows_fields (map row_of ts))) (drop_of_length-le c.args.tasks.now c.loop-task-test.false)
    ∙ no_tasks_written c.loop-task.out.items)
    ∙ c.loop-task.invariant
