use Rattle.layout_facts.proofs.laws.tasks_match.Goals as goal
use Rattle.layout_facts.proofs.Assigned.{tasks_match}

pub returns : goal.returns
returns c = tasks_match
