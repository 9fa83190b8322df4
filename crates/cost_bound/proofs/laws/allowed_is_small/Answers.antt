use Rattle.cost_bound.proofs.Unique.{is_small}
use Rattle.cost_bound.proofs.laws.allowed_is_small.Goals as goal

pub returns : goal.returns
returns c = is_small
