use Rattle.source_runs.proofs.Told.{resumed_runs_are_told}
use Rattle.source_runs.proofs.laws.resumed_run_is_told_by_its_source.Goals as goal

pub returns : goal.returns
returns g c = resumed_runs_are_told g.S.Told.model g.S.Told.program
