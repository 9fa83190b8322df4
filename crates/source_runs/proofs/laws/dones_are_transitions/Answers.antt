use Rattle.source_runs.proofs.Lines.{dones_are_transitions}
use Rattle.source_runs.proofs.laws.dones_are_transitions.Goals as goal

pub returns : goal.returns
returns c = dones_are_transitions
