use Rattle.compiled_laws.proofs.laws.code_stays.Goals as goal
use Rattle.compiled_laws.proofs.Theorems.{code_stays}

pub returns : goal.returns
returns c = code_stays
