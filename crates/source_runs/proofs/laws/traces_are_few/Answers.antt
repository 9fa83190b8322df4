use Rattle.source_runs.proofs.Traces.{traces_are_few}
use Rattle.source_runs.proofs.laws.traces_are_few.Goals as goal

pub returns : goal.returns
returns c = traces_are_few
