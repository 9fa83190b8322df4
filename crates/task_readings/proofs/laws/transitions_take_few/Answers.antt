use Rattle.task_readings.proofs.laws.transitions_take_few.Goals as goal
use Rattle.task_readings.proofs.Transitions.{transitions_take_few}

pub returns : goal.returns
returns c = transitions_take_few
