use Rattle.path_checks.proofs.Walks.{then_ok}
use Rattle.path_checks.proofs.walk.assign.Goals as goal

pub returns : goal.returns
returns c = then_ok c.set.result c.args.walk.now c.read.new.walk c.set.new.walk _ _ c.read.ensures.does c.set.ensures
