use Rattle.task_attempts.proofs.laws.attempts_store_below_code.Goals as goal
use Rattle.task_attempts.proofs.Theorems.{stores_below_code}

pub returns : goal.returns
returns c = stores_below_code
