use Rattle.model_runs.proofs.Counts.{dones_are_few, takes_what_is_there}
use Rattle.model_runs.proofs.laws.dones_are_few.Goals as goal

pub returns-clause-dones : goal.returns-clause-dones
returns-clause-dones c = dones_are_few

pub returns-clause-readings : goal.returns-clause-readings
returns-clause-readings c = takes_what_is_there
