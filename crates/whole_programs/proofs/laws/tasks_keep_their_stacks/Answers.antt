use Rattle.whole_programs.proofs.Whole as whole
use Rattle.whole_programs.proofs.laws.tasks_keep_their_stacks.Goals as goal

pub returns : goal.returns
returns c = whole.tasks_keep_their_stacks
