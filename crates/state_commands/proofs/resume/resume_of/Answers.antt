use Rattle.std.proofs.Common.{refl}
use Rattle.plain_commands.proofs.command_answers.Interface.{of_failure}
use Rattle.plain_commands.proofs.Interface.{whole_as}
use Rattle.state_commands.proofs.resume.resume_of.Goals as goal

pub returns-in-Ok-Well-clause-answers : goal.returns-in-Ok-Well-clause-answers
returns-in-Ok-Well-clause-answers g c = λ shelf stands.
    let whole = rw (c.deref.ensures.value, c.deref-2.ensures.value, c.deref-3.ensures.value) at (c.in-Ok-Well.ensures.whole shelf stands) in
    (whole_as _ _ _ _ _ _ c.in-Ok-Well.field-0-is whole, refl)

pub returns-in-Ok-AtFault-clause-answers : goal.returns-in-Ok-AtFault-clause-answers
returns-in-Ok-AtFault-clause-answers g c = λ shelf stands.
    let whole = rw (c.deref.ensures.value, c.deref-2.ensures.value, c.deref-3.ensures.value) at (c.in-Ok-AtFault.ensures.whole shelf stands) in
    (whole_as _ _ _ _ _ _ c.in-Ok-AtFault.field-0-is whole, c.tell_machine_fault.ensures.line)

pub returns-in-Err-clause-answers : goal.returns-in-Err-clause-answers
returns-in-Err-clause-answers g c = λ shelf stands.
    let failure = rw (c.deref.ensures.value, c.deref-2.ensures.value, c.deref-3.ensures.value) at (c.in-Err.ensures.failure shelf stands) in
    of_failure _ _ _ _ _ _ _ c.answer_failure.ensures.told failure
