use Rattle.undo_states.proofs.laws.logging_start_keeps_its_contract.Goals as goal
use Rattle.undo_states.proofs.Theorems.{logging_starts}

pub returns : goal.returns
returns g c = logging_starts g.row.S.Denot
