use Rattle.lower.proofs.Agreed.{expressions_agree}
use Rattle.lower.proofs.laws.expressions_agree.Goals as goal

pub returns : goal.returns
returns c = expressions_agree
