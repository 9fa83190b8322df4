use Rattle.std.proofs.Common.{refl}
use Rattle.plain_commands.proofs.command_answers.Interface.{of_failure}
use Rattle.scope_commands.proofs.bounds.bounds_of.Goals as goal

pub returns-in-Ok-clause-answers : goal.returns-in-Ok-clause-answers
returns-in-Ok-clause-answers g c = λ shelf stands. (c.in-Ok.ensures.whole shelf stands, refl)

pub returns-in-Err-clause-answers : goal.returns-in-Err-clause-answers
returns-in-Err-clause-answers g c = λ shelf stands. of_failure _ _ _ _ _ _ _ c.answer_failure.ensures.told (c.in-Err.ensures.failure shelf stands)
