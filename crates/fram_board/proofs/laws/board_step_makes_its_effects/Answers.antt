use Rattle.fram_board.proofs.Effects.{step_makes_its_effects}
use Rattle.fram_board.proofs.laws.board_step_makes_its_effects.Goals as goal

pub returns : goal.returns
returns c = step_makes_its_effects
