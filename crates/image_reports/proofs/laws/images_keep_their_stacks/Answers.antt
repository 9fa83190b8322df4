use Rattle.image_reports.proofs.laws.images_keep_their_stacks.Goals as goal
use Rattle.image_reports.proofs.ImageLaw.{images_keep_their_stacks}

pub returns : goal.returns
returns c = images_keep_their_stacks
