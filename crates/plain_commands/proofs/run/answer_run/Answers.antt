use Rattle.std.proofs.Common.{refl}
use Rattle.command_texts.proofs.command_answers.Interface.{of_two, of_unread}
use Rattle.plain_commands.proofs.run.answer_run.Goals as goal

pub returns-in-Ok-clause-answers : goal.returns-in-Ok-clause-answers
returns-in-Ok-clause-answers g c =
    of_two _ _ _ _ _ _ _ _ _ c.as_slice.ensures.value c.as_slice-in-Ok.ensures.value c.in-Ok.ensures.held (c.run_of.ensures.answers _ c.in-Ok.ensures.same)

pub returns-in-Err-clause-answers : goal.returns-in-Err-clause-answers
returns-in-Err-clause-answers g c = of_unread _ _ _ _ _ _ c.answer_unread.ensures.told c.in-Err.ensures.unread c.in-Err.ensures.same refl
