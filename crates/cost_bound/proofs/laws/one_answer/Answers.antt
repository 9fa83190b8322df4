use Rattle.cost_bound.proofs.Unique.{one_answer_of}
use Rattle.cost_bound.proofs.laws.one_answer.Goals as goal

pub returns : goal.returns
returns c = one_answer_of
