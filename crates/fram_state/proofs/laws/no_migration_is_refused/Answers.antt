use Rattle.fram_state.proofs.Answered.{not_refused}
use Rattle.fram_state.proofs.laws.no_migration_is_refused.Goals as goal

pub returns : goal.returns
returns c = not_refused
