use Rattle.whole_programs.proofs.Whole as whole
use Rattle.whole_programs.proofs.laws.tasks_are_whole.Goals as goal

pub returns : goal.returns
returns c = whole.tasks_are_whole
