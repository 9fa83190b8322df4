use Rattle.task_needs.proofs.laws.attempts_are_counted.Goals as goal
use Rattle.task_needs.proofs.Counted.{attempts_are_counted}

pub returns : goal.returns
returns c = attempts_are_counted
