use Rattle.function_locals.proofs.Registers.{locals_stand}
use Rattle.function_locals.proofs.laws.locals_stand.Goals as goal

pub returns : goal.returns
returns c = locals_stand
