use Rattle.compiled_runs.proofs.laws.power_ups_raise_version.Goals as goal
use Rattle.compiled_runs.proofs.Raises.{power_ups_raise_version}

pub returns : goal.returns
returns c = power_ups_raise_version
