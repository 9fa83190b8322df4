use Rattle.lower.proofs.Agreed.{longs_agree}
use Rattle.lower.proofs.laws.longs_agree.Goals as goal

pub returns : goal.returns
returns c = longs_agree
