use Rattle.layout_facts.proofs.laws.task_places_are_even.Goals as goal
use Rattle.layout_facts.proofs.Spots.{task_places_are_even}

pub returns : goal.returns
returns c = task_places_are_even
