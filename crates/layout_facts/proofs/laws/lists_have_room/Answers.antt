use Rattle.layout_facts.proofs.laws.lists_have_room.Goals as goal
use Rattle.layout_facts.proofs.Listed.{lists_have_room}

pub returns : goal.returns
returns c = lists_have_room
