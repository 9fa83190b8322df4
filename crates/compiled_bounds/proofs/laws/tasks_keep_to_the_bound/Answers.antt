use Rattle.compiled_bounds.proofs.laws.tasks_keep_to_the_bound.Goals as goal
use Rattle.compiled_bounds.proofs.Costs.{tasks_keep_to_the_bound}

pub returns : goal.returns
returns c = tasks_keep_to_the_bound
