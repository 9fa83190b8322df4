use Rattle.stands_for.proofs.laws.numbered_start_keeps_its_contract.Goals as goal
use Rattle.stands_for.proofs.Theorems.{numbered_starts}

pub returns : goal.returns
returns g c = numbered_starts g.row.S.Denot
