use Rattle.alp_io.proofs.Interface.{writes_then, writes_err, part_of_first, part_of_second}
use Rattle.source_report.specs.SourceReport.{transition_lines}
use Rattle.source_report.proofs.report.write_transition.Goals as goal

pub returns-in_err-step-clause-bytes : goal.returns-in_err-step-clause-bytes
unfolding transition_lines
returns-in_err-step-clause-bytes g c =
    let step = rw (c.task_name-task.ensures, c.task_name-next.ensures) at c.in_err-step.ensures.bytes.part in
    writes_err _ _ _ _ c.from_residual.ensures.0 (part_of_first _ _ _ _ step)

pub returns-in_err-write_emitted-clause-bytes : goal.returns-in_err-write_emitted-clause-bytes
unfolding transition_lines
returns-in_err-write_emitted-clause-bytes g c =
    let step = rw (c.task_name-task.ensures, c.task_name-next.ensures) at c.in_ok-step.ensures.bytes.whole in
    let words = rw c.emitted.ensures at c.in_err-write_emitted.ensures.bytes.part in
    writes_err _ _ _ _ c.from_residual-in_err-write_emitted.ensures.0 (part_of_second _ _ _ _ _ step (part_of_first _ _ _ _ words))

pub returns-clause-bytes : goal.returns-clause-bytes
unfolding transition_lines
returns-clause-bytes g c =
    let step = rw (c.task_name-task.ensures, c.task_name-next.ensures) at c.in_ok-step.ensures.bytes.whole in
    let words = rw c.emitted.ensures at c.in_ok-write_emitted.ensures.bytes.whole in
    let changes = rw c.deref.ensures.value at c.write_changes.ensures.bytes in
    writes_then _ _ _ _ _ _ step (writes_then _ _ _ _ _ _ words changes)
