use Rattle.lower.proofs.Agreed.{tests_agree}
use Rattle.lower.proofs.laws.tests_agree.Goals as goal

pub returns : goal.returns
returns c = tests_agree
