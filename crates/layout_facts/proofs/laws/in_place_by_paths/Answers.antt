use Rattle.layout_facts.proofs.laws.in_place_by_paths.Goals as goal
use Rattle.layout_facts.proofs.InPlace.{in_place_by_paths}

pub returns : goal.returns
returns c = in_place_by_paths
