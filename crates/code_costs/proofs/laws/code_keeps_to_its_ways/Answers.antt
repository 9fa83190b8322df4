use Rattle.code_costs.proofs.Ways.{code_keeps_to_its_ways}
use Rattle.code_costs.proofs.laws.code_keeps_to_its_ways.Goals as goal

pub returns : goal.returns
returns c = code_keeps_to_its_ways
