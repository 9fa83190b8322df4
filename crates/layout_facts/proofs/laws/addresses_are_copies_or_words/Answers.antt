use Rattle.layout_facts.proofs.laws.addresses_are_copies_or_words.Goals as goal
use Rattle.layout_facts.proofs.Assigned.{addresses_are}

pub returns : goal.returns
returns c = addresses_are
