use Rattle.compiled_bounds.proofs.laws.bound_is_the_sources.Goals as goal
use Rattle.compiled_bounds.proofs.Bounds.{bound_is_the_sources}

pub returns : goal.returns
returns c = bound_is_the_sources
