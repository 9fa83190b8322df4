use Rattle.std.proofs.Common.{refl}
use Rattle.plain_commands.proofs.command_answers.Interface.{held_alone, of_one, of_unread}
use Rattle.scope_commands.proofs.bounds.answer_bounds.Goals as goal

pub returns-in-Ok-clause-answers : goal.returns-in-Ok-clause-answers
returns-in-Ok-clause-answers g c =
    of_one _ _ _ _ _ _ _ c.as_slice.ensures.value (held_alone _ _ _ c.in-Ok.ensures.held c.in-Ok.ensures.fits)
    (c.bounds_of.ensures.answers _ c.in-Ok.ensures.same)

pub returns-in-Err-clause-answers : goal.returns-in-Err-clause-answers
returns-in-Err-clause-answers g c = of_unread _ _ _ _ _ _ c.answer_unread.ensures.told c.in-Err.ensures.unread c.in-Err.ensures.same refl
