use Rattle.machine_effects.proofs.Words.{step_leaves_it_whole}
use Rattle.machine_effects.proofs.laws.steps_leave_boards_whole.Goals as goal

pub returns : goal.returns
returns c = step_leaves_it_whole
