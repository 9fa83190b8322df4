use Rattle.image_laws.proofs.laws.images_have_states.Goals as goal
use Rattle.image_laws.proofs.States.{worlds_stand}

pub returns : goal.returns
returns c = worlds_stand
