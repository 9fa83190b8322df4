use Rattle.std.proofs.Common.{refl, rules}
use Rattle.path_checks.proofs.Walks.{tells_begun}
use Rattle.path_checks.proofs.walk.begin.Goals as goal

pub returns : goal.returns
returns c = tells_begun _ c.args.given refl (search rules) refl
