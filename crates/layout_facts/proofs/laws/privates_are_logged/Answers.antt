use Rattle.layout_facts.proofs.laws.privates_are_logged.Goals as goal
use Rattle.layout_facts.proofs.Logged.{privates_are_logged}

pub returns : goal.returns
returns c = privates_are_logged
