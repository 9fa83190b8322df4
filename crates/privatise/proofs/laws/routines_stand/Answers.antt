use Rattle.privatise.proofs.Frames.{routines_stand}
use Rattle.privatise.proofs.laws.routines_stand.Goals as goal

pub returns : goal.returns
returns c = routines_stand
