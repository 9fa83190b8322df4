use Rattle.std.proofs.Common.{refl}
use Rattle.state_commands.proofs.resume.check_belongs.Goals as goal

pub returns-in-Err-clause-refused : goal.returns-in-Err-clause-refused
returns-in-Err-clause-refused c = (refl, (c.in-Err.fault, c.in-Err.ensures.value, c.state_refusal.ensures))
