use Rattle.pair_laws.proofs.Actions.{actions_keep_joined}
use Rattle.pair_laws.proofs.laws.actions_keep_joined.Goals as goal

pub returns : goal.returns
returns c = actions_keep_joined
