use Rattle.privatise.proofs.Frames.{frames_stand}
use Rattle.privatise.proofs.laws.frames_stand.Goals as goal

pub returns : goal.returns
returns c = frames_stand
