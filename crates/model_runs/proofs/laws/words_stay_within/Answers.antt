use Rattle.model_runs.proofs.Words.{words_stay_within}
use Rattle.model_runs.proofs.laws.words_stay_within.Goals as goal

pub returns : goal.returns
returns g c = words_stay_within g.S.Compiled.model g.S.Compiled.program g.S.Compiled.may_store
