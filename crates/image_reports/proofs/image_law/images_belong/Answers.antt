use Rattle.image_reports.proofs.image_law.images_belong.Goals as goal
use Rattle.image_reports.proofs.ImageLaw.{images_belong}

pub returns : goal.returns
returns c = images_belong
