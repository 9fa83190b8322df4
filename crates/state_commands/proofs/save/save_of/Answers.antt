use Rattle.std.proofs.Common.{refl}
use Rattle.plain_commands.proofs.command_answers.Interface.{of_failure}
use Rattle.plain_commands.proofs.Interface.{whole_as}
use Rattle.state_commands.proofs.save.save_of.Goals as goal

pub returns-in-Ok-Well-clause-answers : goal.returns-in-Ok-Well-clause-answers
returns-in-Ok-Well-clause-answers g c = (whole_as _ _ _ _ _ _ c.in-Ok-Well.field-0-is c.in-Ok-Well.ensures.whole, refl)

pub returns-in-Ok-AtFault-clause-answers : goal.returns-in-Ok-AtFault-clause-answers
returns-in-Ok-AtFault-clause-answers g c = (whole_as _ _ _ _ _ _ c.in-Ok-AtFault.field-0-is c.in-Ok-AtFault.ensures.whole, c.tell_machine_fault.ensures.line)

pub returns-in-Err-clause-answers : goal.returns-in-Err-clause-answers
returns-in-Err-clause-answers g c = of_failure _ _ _ _ _ _ _ c.answer_failure.ensures.told c.in-Err.ensures.failure
