use Rattle.std.proofs.Common.{refl}
use Rattle.plain_commands.proofs.command_answers.Interface.{of_texts, of_unread}
use Rattle.state_commands.proofs.resume.answer_resume.Goals as goal

pub returns-in-Ok-clause-answers : goal.returns-in-Ok-clause-answers
returns-in-Ok-clause-answers g c = of_texts _ _ _ _ _ _ c.in-Ok.ensures.held (c.resume_of.ensures.answers _ c.in-Ok.ensures.same)

pub returns-in-Err-clause-answers : goal.returns-in-Err-clause-answers
returns-in-Err-clause-answers g c = of_unread _ _ _ _ _ _ c.answer_unread.ensures.told c.in-Err.ensures.unread c.in-Err.ensures.same refl
