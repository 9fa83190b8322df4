use Rattle.compiled_runs.proofs.laws.code_is_placed.Goals as goal
use Rattle.compiled_runs.proofs.Leaves.{code_is_placed}

pub returns : goal.returns
returns c = code_is_placed
