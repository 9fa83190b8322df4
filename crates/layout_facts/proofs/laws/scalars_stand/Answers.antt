use Rattle.layout_facts.proofs.laws.scalars_stand.Goals as goal
use Rattle.layout_facts.proofs.Privates.{scalars_stand}

pub returns : goal.returns
returns c = scalars_stand
