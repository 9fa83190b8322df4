use Rattle.stands_for.proofs.laws.start_and_tasks_give_the_laws.Goals as goal
use Rattle.stands_for.proofs.Theorems.{keeps_the_laws}

pub returns : goal.returns
returns g c = keeps_the_laws g.row.S.Denot
