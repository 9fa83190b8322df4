use Rattle.std.proofs.Common.{refl}
use Rattle.plain_commands.proofs.command_answers.Interface.{of_two_read, of_unread}
use Rattle.compiler_commands.proofs.try_.answer_trial.Goals as goal

pub returns-in-Ok-clause-answers : goal.returns-in-Ok-clause-answers
returns-in-Ok-clause-answers g c =
    of_two_read _ _ _ _ _ _ _ _ _ _ _ _ _ _ c.as_slice.ensures.value c.as_slice-in-Ok.ensures.value c.in-Ok.ensures.same c.in-Ok.ensures.counts
    c.in-Ok.ensures.held c.try_of.ensures.answers

pub returns-in-Err-clause-answers : goal.returns-in-Err-clause-answers
returns-in-Err-clause-answers g c = of_unread _ _ _ _ _ _ c.answer_unread.ensures.told c.in-Err.ensures.unread c.in-Err.ensures.same refl
