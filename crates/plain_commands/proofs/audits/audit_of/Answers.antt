use Rattle.std.proofs.Common.{refl, ap}
use Rattle.plain_commands.specs.Verdicts.{verdict_ending}
use Rattle.command_texts.proofs.command_answers.Interface.{of_failure, whole_ending}
use Rattle.plain_commands.proofs.audits.audit_of.Goals as goal

pub returns-in-Ok-Yes-clause-answers : goal.returns-in-Ok-Yes-clause-answers
returns-in-Ok-Yes-clause-answers g c = λ shelf stands.
    let whole = rw (c.deref.ensures.value, c.deref-2.ensures.value, c.deref-3.ensures.value) at (c.in-Ok-Yes.ensures.whole shelf stands) in
    (whole_ending _ _ _ _ _ _ (ap verdict_ending c.in-Ok-Yes.field-0-is) whole, refl)

pub returns-in-Ok-No-clause-answers : goal.returns-in-Ok-No-clause-answers
returns-in-Ok-No-clause-answers g c = λ shelf stands.
    let whole = rw (c.deref.ensures.value, c.deref-2.ensures.value, c.deref-3.ensures.value) at (c.in-Ok-No.ensures.whole shelf stands) in
    (whole_ending _ _ _ _ _ _ (ap verdict_ending c.in-Ok-No.field-0-is) whole, c.tell_differs.ensures.line)

pub returns-in-Err-clause-answers : goal.returns-in-Err-clause-answers
returns-in-Err-clause-answers g c = λ shelf stands.
    let failure = rw (c.deref.ensures.value, c.deref-2.ensures.value, c.deref-3.ensures.value) at (c.in-Err.ensures.failure shelf stands) in
    of_failure _ _ _ _ _ _ _ c.answer_failure.ensures.told failure
