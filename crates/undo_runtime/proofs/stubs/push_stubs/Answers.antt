use Rattle.undo_runtime.proofs.Writing.{next_written}
use Rattle.undo_runtime.proofs.stubs.push_stubs.Goals as goal

pub loop-task-preserved : goal.loop-task-preserved
loop-task-preserved c =
    next_written c.args.layout.now c.loop-task.code.items c.push_stub.new.code.items _ c.args.tasks.now c.task-item.result c.loop-task.task-index
    c.task-item.is c.loop-task-test.true c.in_ok-push_stub.ensures c.loop-task.invariant
