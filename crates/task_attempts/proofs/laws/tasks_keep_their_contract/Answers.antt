use Rattle.task_attempts.proofs.laws.tasks_keep_their_contract.Goals as goal
use Rattle.task_attempts.proofs.Theorems.{tasks_contract}

pub returns : goal.returns
returns c = tasks_contract
