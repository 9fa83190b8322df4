use Rattle.compiled_runs.proofs.laws.sources_have_room.Goals as goal
use Rattle.compiled_runs.proofs.Fits.{sources_have_room}

pub returns : goal.returns
returns c = sources_have_room
