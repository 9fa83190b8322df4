use Rattle.image_reports.proofs.laws.images_keep_to_needs.Goals as goal
use Rattle.image_reports.proofs.ImageLaw.{images_keep_to_needs}

pub returns : goal.returns
returns c = images_keep_to_needs
