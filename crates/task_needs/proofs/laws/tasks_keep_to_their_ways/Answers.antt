use Rattle.task_needs.proofs.laws.tasks_keep_to_their_ways.Goals as goal
use Rattle.task_needs.proofs.Bodies.{tasks_keep_to_their_ways}

pub returns : goal.returns
returns c = tasks_keep_to_their_ways
