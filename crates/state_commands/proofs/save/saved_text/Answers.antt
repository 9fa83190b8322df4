use Rattle.std.proofs.Common.{refl}
use Rattle.plain_commands.proofs.command_answers.Interface.{handed_on}
use Rattle.state_commands.proofs.save.saved_text.Goals as goal

pub returns-in_err-text-clause-failure : goal.returns-in_err-text-clause-failure
returns-in_err-text-clause-failure c = handed_on _ _ _ c.from_residual.ensures refl
