use Rattle.function_locals.proofs.Depths.{depths_stand}
use Rattle.function_locals.proofs.laws.depths_stand.Goals as goal

pub returns : goal.returns
returns c = depths_stand
