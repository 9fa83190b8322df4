use Rattle.compiled_states.proofs.laws.images_suit_their_sources.Goals as goal
use Rattle.compiled_states.proofs.Suited.{images_suit_their_sources}

pub returns : goal.returns
returns c = images_suit_their_sources
