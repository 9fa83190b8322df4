use Rattle.compiled_bounds.proofs.laws.needs_keep_to_the_bound.Goals as goal
use Rattle.compiled_bounds.proofs.Needs.{needs_keep_to_the_bound}

pub returns : goal.returns
returns c = needs_keep_to_the_bound
