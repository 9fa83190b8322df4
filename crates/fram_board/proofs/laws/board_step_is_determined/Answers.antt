use Rattle.fram_board.proofs.Runs.{determined_step}
use Rattle.fram_board.proofs.laws.board_step_is_determined.Goals as goal

pub returns : goal.returns
returns c = determined_step
