use Rattle.task_attempts.proofs.laws.tasks_leave_for_the_commit.Goals as goal
use Rattle.task_attempts.proofs.Theorems.{tasks_leave}

pub returns : goal.returns
returns c = tasks_leave
