use Rattle.task_readings.proofs.laws.attempts_take_few.Goals as goal
use Rattle.task_readings.proofs.Transitions.{attempts_take_few}

pub returns : goal.returns
returns c = attempts_take_few
