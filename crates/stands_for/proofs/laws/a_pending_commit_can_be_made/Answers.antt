use Rattle.stands_for.proofs.laws.a_pending_commit_can_be_made.Goals as goal
use Rattle.stands_for.proofs.Theorems.{pending_can_commit}

pub returns : goal.returns
returns c = pending_can_commit
