use Rattle.std.proofs.Common.{arith}
use Rattle.report_audit.proofs.Attempts.{not_made_on, short_on}
use Rattle.report_audit.proofs.front.attempt.Goals as goal

pub returns-then-done-given-clause-none : goal.returns-then-done-given-clause-none
returns-then-done-given-clause-none c =
    let done = rw (c.source.ensures, c.checked.ensures) at c.in-Ok.ensures.done in
    not_made_on _ _ _ _ _ _ _ _ _ _ _ done c.in-Ok.ensures.used (λ all. omega (arith, all))

pub returns-in-Err-clause-none : goal.returns-in-Err-clause-none
returns-in-Err-clause-none c =
    let short = rw (c.source.ensures, c.checked.ensures) at c.in-Err.ensures.short in
    short_on _ _ _ _ _ _ _ short
