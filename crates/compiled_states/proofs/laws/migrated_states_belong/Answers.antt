use Rattle.compiled_states.proofs.laws.migrated_states_belong.Goals as goal
use Rattle.compiled_states.proofs.Migrated.{migrated_states_belong}

pub returns : goal.returns
returns c = migrated_states_belong
