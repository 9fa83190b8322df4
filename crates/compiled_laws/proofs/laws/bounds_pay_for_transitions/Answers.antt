use Rattle.compiled_laws.proofs.laws.bounds_pay_for_transitions.Goals as goal
use Rattle.compiled_laws.proofs.Theorems.{bounds_pay}

pub returns : goal.returns
returns c = bounds_pay
