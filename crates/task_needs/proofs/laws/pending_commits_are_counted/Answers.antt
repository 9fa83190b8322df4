use Rattle.task_needs.proofs.laws.pending_commits_are_counted.Goals as goal
use Rattle.task_needs.proofs.Counted.{pending_commits_are_counted}

pub returns : goal.returns
returns c = pending_commits_are_counted
