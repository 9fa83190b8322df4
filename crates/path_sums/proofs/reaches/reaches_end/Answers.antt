use Rattle.path_sums.proofs.FlowMeaning.{reaches}
use Rattle.path_sums.proofs.reaches.reaches_end.Goals as goal

pub returns : goal.returns
returns c = λ fs calls. reaches fs _ calls _ c.falls_through.ensures
