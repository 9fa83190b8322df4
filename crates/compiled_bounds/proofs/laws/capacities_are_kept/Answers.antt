use Rattle.compiled_bounds.proofs.laws.capacities_are_kept.Goals as goal
use Rattle.compiled_bounds.proofs.Capacities.{capacities_are_kept}

pub returns : goal.returns
returns g c = capacities_are_kept g.S.Coded.program
