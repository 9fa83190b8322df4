use Rattle.layout_facts.proofs.laws.tasks_have_room.Goals as goal
use Rattle.layout_facts.proofs.Chains.{tasks_have_room}

pub returns : goal.returns
returns c = tasks_have_room
