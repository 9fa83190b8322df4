use Rattle.compiled_laws.proofs.laws.runs_stop_where_the_source_is_short.Goals as goal
use Rattle.compiled_laws.proofs.Theorems.{runs_stop}

pub returns : goal.returns
returns c = runs_stop
