use Rattle.compiled_laws.proofs.laws.sources_are_ready.Goals as goal
use Rattle.compiled_laws.proofs.Ready.{sources_are_ready}

pub returns : goal.returns
returns c = sources_are_ready
