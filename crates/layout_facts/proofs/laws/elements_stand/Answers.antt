use Rattle.layout_facts.proofs.laws.elements_stand.Goals as goal
use Rattle.layout_facts.proofs.Spots.{elements_stand}

pub returns : goal.returns
returns c = elements_stand
