use Rattle.image_laws.proofs.laws.images_are_fresh.Goals as goal
use Rattle.image_laws.proofs.Fresh.{images_are_fresh}

pub returns : goal.returns
returns c = λ logging text p allow image ok compiled. images_are_fresh text p allow image ok compiled
