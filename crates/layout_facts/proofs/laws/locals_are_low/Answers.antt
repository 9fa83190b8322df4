use Rattle.layout_facts.proofs.laws.locals_are_low.Goals as goal
use Rattle.layout_facts.proofs.Locals.{locals_are_low}

pub returns : goal.returns
returns c = locals_are_low
