use Rattle.function_locals.proofs.Depths.{reaches_go_on}
use Rattle.function_locals.proofs.laws.reaches_go_on.Goals as goal

pub returns : goal.returns
returns c = reaches_go_on
