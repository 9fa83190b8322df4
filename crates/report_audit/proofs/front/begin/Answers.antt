use Rattle.std.proofs.Common.{arith, ◌∙◌, ap, subst}
use Rattle.alp_io.specs.Report.{bound_line}
use Rattle.report_audit.specs.Fronts.{inputs_of, StandsUpTo, DiffersAt}
use Rattle.report_audit.proofs.Fronts.{begins_bare, begins_bound}
use Rattle.report_audit.proofs.front.begin.Goals as goal

pub returns-in-Ok-clause-front : goal.returns-in-Ok-clause-front
returns-in-Ok-clause-front c =
    let few = rw c.allow.ensures at c.tell_bound.ensures.few in
    let line = c.deref.ensures.value ∙ c.in_ok-tell_bound.ensures.line ∙ ap (λ a. bound_line a.cycles) c.allow.ensures in
    rw c.first.ensures
    (begins_bound (inputs_of c.args.source.now c.args.readings.now c.args.report.now)
    (record { names = c.requires.names; few_readings = omega arith; few_bytes = omega arith }) (omega (arith, few)) _
    (subst (λ text. StandsUpTo c.args.report.now 0 text c.in-Ok.behind) line c.in-Ok.ensures.stands))

pub returns-in-Err-clause-front : goal.returns-in-Err-clause-front
returns-in-Err-clause-front c =
    let few = rw c.allow.ensures at c.tell_bound.ensures.few in
    let line = c.deref.ensures.value ∙ c.in_ok-tell_bound.ensures.line ∙ ap (λ a. bound_line a.cycles) c.allow.ensures in
    rw c.first-in-Err.ensures
    (begins_bare (inputs_of c.args.source.now c.args.readings.now c.args.report.now)
    (record { names = c.requires.names; few_readings = omega arith; few_bytes = omega arith }) (omega (arith, few)) _
    (subst (λ text. DiffersAt c.args.report.now 0 text c.in-Err.field-0) line c.in-Err.ensures.differs))
