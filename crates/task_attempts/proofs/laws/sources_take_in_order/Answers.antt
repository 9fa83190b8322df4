use Rattle.task_attempts.proofs.laws.sources_take_in_order.Goals as goal
use Rattle.task_attempts.proofs.Theorems.{scripts_in_order}

pub returns : goal.returns
returns c = scripts_in_order
