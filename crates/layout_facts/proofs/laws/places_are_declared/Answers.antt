use Rattle.layout_facts.proofs.laws.places_are_declared.Goals as goal
use Rattle.layout_facts.proofs.Planned.{places_are_declared}

pub returns : goal.returns
returns c = places_are_declared
