use Rattle.std.proofs.Common.{◌≡◌, ◌++◌, drop, map}
use Rattle.text_parts.specs.Printed.{printed}
use Rattle.need_lines.specs.Rows.{row_of}
use Rattle.need_lines.specs.Lines.{rows_fields}
use Rattle.need_lines.proofs.lines.push_tasks.Given as goal

abbrev pub invariant-loop-task : goal.invariant-loop-task
invariant-loop-task l =
    l.out.items ++ printed (rows_fields (map row_of (drop l.task-index l.tasks))) ≡ l.fn.out.items ++ printed (rows_fields (map row_of l.tasks))
