use Rattle.layout_facts.proofs.laws.places_are_apart.Goals as goal
use Rattle.layout_facts.proofs.Chains.{places_are_apart}

pub returns : goal.returns
returns c = places_are_apart
