use Rattle.std.proofs.Common.{refl}
use Rattle.plain_commands.proofs.command_answers.Interface.{of_two_read, of_unread}
use Rattle.state_commands.proofs.save.answer_save.Goals as goal

pub returns-in-Ok-clause-answers : goal.returns-in-Ok-clause-answers
returns-in-Ok-clause-answers g c =
    of_two_read _ _ _ _ _ _ _ _ _ _ _ _ _ _ c.as_slice.ensures.value c.as_slice-in-Ok.ensures.value c.in-Ok.ensures.same c.in-Ok.ensures.counts
    c.in-Ok.ensures.held c.save_of.ensures.answers

pub returns-in-Err-clause-answers : goal.returns-in-Err-clause-answers
returns-in-Err-clause-answers g c = of_unread _ _ _ _ _ _ c.answer_unread.ensures.told c.in-Err.ensures.unread c.in-Err.ensures.same refl
