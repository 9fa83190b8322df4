use Rattle.machine_effects.proofs.Views.{fresh_machine}
use Rattle.machine_effects.proofs.Words.{fresh_is_whole}
use Rattle.machine_effects.proofs.laws.fresh_board_is_a_machine.Goals as goal

pub returns-clause-view : goal.returns-clause-view
returns-clause-view c = fresh_machine

pub returns-clause-whole : goal.returns-clause-whole
returns-clause-whole c = fresh_is_whole
