use Rattle.charge_limits.proofs.laws.readings_are_few.Goals as goal
use Rattle.charge_limits.proofs.Both.{readings_are_few}

pub returns : goal.returns
returns c = readings_are_few
