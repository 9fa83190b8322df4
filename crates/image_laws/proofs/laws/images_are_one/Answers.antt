use Rattle.image_laws.proofs.laws.images_are_one.Goals as goal
use Rattle.image_laws.proofs.One.{images_are_one, one_layout_each}

pub returns : goal.returns
returns c = images_are_one c.one_plan.ensures (one_layout_each c.one_layout.ensures c.one_logged_layout.ensures) c.one_program.ensures
