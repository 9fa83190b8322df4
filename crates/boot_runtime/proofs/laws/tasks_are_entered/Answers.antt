use Rattle.boot_runtime.proofs.Entered.{tasks_are_entered}
use Rattle.boot_runtime.proofs.laws.tasks_are_entered.Goals as goal

pub returns : goal.returns
returns c = tasks_are_entered
