use Rattle.fram_state.proofs.Taken.{answers_are_one}
use Rattle.fram_state.proofs.laws.answers_are_one.Goals as goal

pub returns : goal.returns
returns c = answers_are_one
