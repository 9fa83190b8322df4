use Rattle.whole_programs.proofs.Whole as whole
use Rattle.whole_programs.proofs.laws.programs_are_whole.Goals as goal

pub returns : goal.returns
returns c = whole.programs_are_whole
