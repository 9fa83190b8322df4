use Rattle.task_attempts.proofs.laws.compiled_sources_keep_the_laws.Goals as goal
use Rattle.task_attempts.proofs.Theorems.{compiled_laws}

pub returns : goal.returns
returns c = compiled_laws
