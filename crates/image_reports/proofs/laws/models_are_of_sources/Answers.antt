use Rattle.image_reports.proofs.laws.models_are_of_sources.Goals as goal
use Rattle.image_reports.proofs.CompiledTold.{models_are_of_sources}

pub returns : goal.returns
returns c = models_are_of_sources
