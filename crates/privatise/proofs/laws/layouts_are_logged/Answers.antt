use Rattle.privatise.proofs.Logged.{layouts_are_logged}
use Rattle.privatise.proofs.laws.layouts_are_logged.Goals as goal

pub returns : goal.returns
returns c = layouts_are_logged
