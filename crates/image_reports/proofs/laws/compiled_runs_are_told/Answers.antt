use Rattle.image_reports.proofs.laws.compiled_runs_are_told.Goals as goal
use Rattle.image_reports.proofs.CompiledTold.{compiled_runs_are_told}

pub returns : goal.returns
returns g c = compiled_runs_are_told g.S.Coded.program
