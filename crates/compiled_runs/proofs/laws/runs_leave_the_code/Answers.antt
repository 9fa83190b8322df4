use Rattle.compiled_runs.proofs.laws.runs_leave_the_code.Goals as goal
use Rattle.compiled_runs.proofs.Leaves.{runs_leave_the_code}

pub returns : goal.returns
returns c = runs_leave_the_code
