use Rattle.layout_facts.proofs.laws.task_places_are_apart.Goals as goal
use Rattle.layout_facts.proofs.Spots.{task_places_are_apart}

pub returns : goal.returns
returns c = task_places_are_apart
