use Rattle.compiled_laws.proofs.laws.runs_stand_for_the_source.Goals as goal
use Rattle.compiled_laws.proofs.Theorems.{runs_stand}

pub returns : goal.returns
returns c = runs_stand
