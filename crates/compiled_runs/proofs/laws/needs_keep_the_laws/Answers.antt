use Rattle.compiled_runs.proofs.laws.needs_keep_the_laws.Goals as goal
use Rattle.compiled_runs.proofs.NeedsModel.{needs_keep_the_laws}

pub returns : goal.returns
returns c = needs_keep_the_laws
