use Rattle.image_laws.proofs.laws.maps_find_states.Goals as goal
use Rattle.image_laws.proofs.States.{maps_find_states}

pub returns : goal.returns
returns c = λ logging text p allow image ok compiled s x rests. maps_find_states text p allow image ok compiled s x rests
