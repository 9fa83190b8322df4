use Rattle.path_runs.proofs.GoesOn.{runs_go_on_along_paths}
use Rattle.path_runs.proofs.laws.runs_go_on_along_paths.Goals as goal

pub returns : goal.returns
returns c = runs_go_on_along_paths
