use Rattle.charge_limits.proofs.laws.words_are_few.Goals as goal
use Rattle.charge_limits.proofs.Both.{words_are_few}

pub returns : goal.returns
returns c = words_are_few
