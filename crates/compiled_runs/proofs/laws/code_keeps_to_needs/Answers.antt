use Rattle.compiled_runs.proofs.laws.code_keeps_to_needs.Goals as goal
use Rattle.compiled_runs.proofs.Needs.{code_keeps_to_needs}

pub returns : goal.returns
returns c = code_keeps_to_needs
