use Rattle.whole_programs.proofs.Whole as whole
use Rattle.whole_programs.proofs.laws.routines_are_low.Goals as goal

pub returns : goal.returns
returns c = whole.routines_are_low
