use Rattle.layout_facts.proofs.laws.places_are_as_declared.Goals as goal
use Rattle.layout_facts.proofs.Declared.{places_are_as_declared}

pub returns : goal.returns
returns c = places_are_as_declared
