use Rattle.image_reports.proofs.laws.images_are_told.Goals as goal
use Rattle.image_reports.proofs.ImageLaw.{images_are_told}

pub returns : goal.returns
returns c = images_are_told
