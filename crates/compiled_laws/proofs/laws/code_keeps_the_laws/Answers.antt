use Rattle.compiled_laws.proofs.laws.code_keeps_the_laws.Goals as goal
use Rattle.compiled_laws.proofs.Theorems.{code_keeps}

pub returns : goal.returns
returns c = code_keeps
