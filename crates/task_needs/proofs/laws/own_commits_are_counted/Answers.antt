use Rattle.task_needs.proofs.laws.own_commits_are_counted.Goals as goal
use Rattle.task_needs.proofs.Counted.{own_commits_are_counted}

pub returns : goal.returns
returns c = own_commits_are_counted
