use Rattle.std.proofs.Common.{refl}
use Rattle.plain_commands.proofs.command_answers.Interface.{of_failure}
use Rattle.state_commands.proofs.migrate.migrate_of.Goals as goal

pub returns-in-Ok-clause-answers : goal.returns-in-Ok-clause-answers
returns-in-Ok-clause-answers g c = λ out silent. (c.in-Ok.ensures.whole out silent, refl)

pub returns-in-Err-clause-answers : goal.returns-in-Err-clause-answers
returns-in-Err-clause-answers g c = λ out silent. of_failure _ _ _ _ _ _ _ c.answer_failure.ensures.told (c.in-Err.ensures.failure out silent)
