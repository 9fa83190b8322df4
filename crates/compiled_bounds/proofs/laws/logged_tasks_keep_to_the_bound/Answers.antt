use Rattle.compiled_bounds.proofs.laws.logged_tasks_keep_to_the_bound.Goals as goal
use Rattle.compiled_bounds.proofs.Costs.{logged_tasks_keep_to_the_bound}

pub returns : goal.returns
returns c = logged_tasks_keep_to_the_bound
