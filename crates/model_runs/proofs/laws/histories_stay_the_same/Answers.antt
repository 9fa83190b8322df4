use Rattle.model_runs.proofs.Histories.{histories_stay_the_same}
use Rattle.model_runs.proofs.laws.histories_stay_the_same.Goals as goal

pub returns : goal.returns
returns c = histories_stay_the_same
