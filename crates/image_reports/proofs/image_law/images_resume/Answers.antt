use Rattle.image_reports.proofs.image_law.images_resume.Goals as goal
use Rattle.image_reports.proofs.Resumed.{images_resume}

pub returns : goal.returns
returns c = images_resume
