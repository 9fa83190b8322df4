use Rattle.lower.proofs.Agreed.{blocks_agree}
use Rattle.lower.proofs.laws.statements_agree.Goals as goal

pub returns : goal.returns
returns c = blocks_agree
