use Rattle.std.proofs.Common.{◌≡◌, ◌++◌, drop, map}
use Rattle.task_ast.specs.View.{program_of}
use Rattle.need_lines.specs.Rows.{row_of}
use Rattle.source_needs.specs.Needs.{rows_from}
use Rattle.source_needs.proofs.needs.tasks_need.Given as goal

-- the tasks so far, and those that are left, with the lines that are left
abbrev pub invariant-loop-i : goal.invariant-loop-i
invariant-loop-i l =
    let p = program_of l.fn.accepted.checked.source in
    let text = l.fn.accepted.text.items in
    map row_of l.needs.items ++ rows_from text p l.fn.layout l.left l.i (drop l.i p.tasks) ≡ rows_from text p l.fn.layout l.fn.lines 0 p.tasks
