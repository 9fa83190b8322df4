use Rattle.image_reports.proofs.image_law.images_keep_the_laws.Goals as goal
use Rattle.image_reports.proofs.ImageLaw.{images_keep_the_laws}

pub returns : goal.returns
returns c = λ logging text p allow image ok compiled. images_keep_the_laws text p allow image ok compiled
