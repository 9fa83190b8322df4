use Rattle.command_texts.proofs.command_answers.Interface.{held_alone, of_one_read, of_unread}
use Rattle.plain_commands.proofs.asm.answer_asm.Goals as goal

pub returns-in-Ok-clause-answers : goal.returns-in-Ok-clause-answers
returns-in-Ok-clause-answers g c = λ out silent.
    of_one_read _ _ _ _ _ _ _ _ _ _ _ _ c.as_slice.ensures.value c.in-Ok.ensures.same c.in-Ok.ensures.counts
    (held_alone _ _ _ c.in-Ok.ensures.held c.in-Ok.ensures.fits) (c.asm_of.ensures.answers out silent)

pub returns-in-Err-clause-answers : goal.returns-in-Err-clause-answers
returns-in-Err-clause-answers g c = λ out silent. of_unread _ _ _ _ _ _ c.answer_unread.ensures.told c.in-Err.ensures.unread c.in-Err.ensures.same silent
