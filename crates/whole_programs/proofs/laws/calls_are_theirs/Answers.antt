use Rattle.whole_programs.proofs.Whole as whole
use Rattle.whole_programs.proofs.laws.calls_are_theirs.Goals as goal

pub returns : goal.returns
returns c = whole.calls_are_theirs
