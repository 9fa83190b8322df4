use Rattle.model_runs.proofs.Ends.{stops_where_short}
use Rattle.model_runs.proofs.laws.runs_stop_where_the_source_is_short.Goals as goal

pub returns : goal.returns
returns g c = stops_where_short g.S.Compiled.model g.S.Compiled.program
