use Rattle.compiled_laws.proofs.laws.sources_keep_the_laws.Goals as goal
use Rattle.compiled_laws.proofs.Theorems.{sources_keep_the_laws}

pub returns : goal.returns
returns c = sources_keep_the_laws
