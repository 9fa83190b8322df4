use Rattle.image_reports.proofs.laws.images_answer_in_order.Goals as goal
use Rattle.image_reports.proofs.ImageLaw.{images_answer_in_order}

pub returns : goal.returns
returns c = images_answer_in_order
