use Rattle.whole_programs.proofs.Few.{privates_are_few}
use Rattle.whole_programs.proofs.laws.privates_are_few.Goals as goal

pub returns : goal.returns
returns c = privates_are_few
