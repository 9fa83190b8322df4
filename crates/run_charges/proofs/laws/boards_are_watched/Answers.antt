use Rattle.run_charges.proofs.Room.{boards_are_watched}
use Rattle.run_charges.proofs.laws.boards_are_watched.Goals as goal

pub returns : goal.returns
returns g c = boards_are_watched g.S.Compiled.program
