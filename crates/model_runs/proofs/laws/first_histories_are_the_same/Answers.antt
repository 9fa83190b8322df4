use Rattle.model_runs.proofs.Histories.{first_histories_are_the_same}
use Rattle.model_runs.proofs.laws.first_histories_are_the_same.Goals as goal

pub returns : goal.returns
returns c = first_histories_are_the_same
