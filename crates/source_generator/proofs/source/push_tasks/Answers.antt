use Rattle.std.proofs.Common.{arith}
use Rattle.source_generator.proofs.Pieces.{written_more, all_written}
use Rattle.source_generator.proofs.Steps.{tasks_left, no_tasks}
use Rattle.source_generator.proofs.source.push_tasks.Goals as goal

pub loop-number-preserved : goal.loop-number-preserved
loop-number-preserved c = written_more _ _ _ _ _ _ c.loop-number.invariant c.in_ok-push_task.ensures.text
    (tasks_left 16 c.loop-number.number c.loop-number.generator.state _ (omega arith) c.in_ok-push_task.ensures.state)

pub returns : goal.returns
returns c = all_written _ _ _ c.loop-number.invariant (no_tasks 16 c.loop-number.number c.loop-number.generator.state (omega arith))
