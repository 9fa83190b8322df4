use Rattle.image_reports.proofs.laws.images_are_mapped.Goals as goal
use Rattle.image_reports.proofs.Told.{images_are_mapped}

pub returns : goal.returns
returns c = images_are_mapped
