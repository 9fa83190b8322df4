use Rattle.fram_state.proofs.Taken.{belonging_taken}
use Rattle.fram_state.proofs.laws.belonging_states_are_taken.Goals as goal

pub returns : goal.returns
returns c = belonging_taken
