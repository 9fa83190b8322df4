use Rattle.source_maps.proofs.Accepted.{names_are_names}
use Rattle.source_maps.proofs.laws.names_are_names.Goals as goal

pub returns : goal.returns
returns c = names_are_names
