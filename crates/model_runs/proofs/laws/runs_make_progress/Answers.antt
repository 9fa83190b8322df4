use Rattle.model_runs.proofs.Progress.{makes_progress}
use Rattle.model_runs.proofs.laws.runs_make_progress.Goals as goal

pub returns : goal.returns
returns g c = makes_progress g.S.Compiled.model g.S.Compiled.program
