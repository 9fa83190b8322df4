use Rattle.checked_trees.proofs.Checked.{sources_are_well_formed}
use Rattle.checked_trees.proofs.laws.sources_are_well_formed.Goals as goal

pub returns : goal.returns
returns c = sources_are_well_formed
