use Rattle.layout_facts.proofs.laws.elements_are_stores.Goals as goal
use Rattle.layout_facts.proofs.Listed.{elements_are_stores}

pub returns : goal.returns
returns c = elements_are_stores
