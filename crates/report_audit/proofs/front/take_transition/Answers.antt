use Rattle.std.proofs.Common.{arith, ◌∙◌, subst}
use Rattle.report_audit.specs.Fronts.{inputs_of, StandsUpTo, DiffersAt}
use Rattle.report_audit.proofs.Fronts.{leads_on, leads_further, stops_in_transition, stops_unmade}
use Rattle.report_audit.proofs.front.take_transition.Goals as goal

pub returns-in_default-clause-stop : goal.returns-in_default-clause-stop
returns-in_default-clause-stop c =
    stops_unmade (inputs_of c.args.source.now c.args.readings.now c.args.report.now)
    (record { names = c.requires.names; few_readings = omega arith; few_bytes = omega arith }) c.args.front _ _ c.requires.front
    _ c.requires.entry c.in_default.ensures.none

pub returns-in-Ok-clause-front : goal.returns-in-Ok-clause-front
returns-in-Ok-clause-front c =
    let lines = c.deref.ensures.value ∙ c.in_ok-tell_transition.ensures in
    let front = leads_on (inputs_of c.args.source.now c.args.readings.now c.args.report.now)
    (record { names = c.requires.names; few_readings = omega arith; few_bytes = omega arith }) c.args.front _ _ c.requires.front
    _ _ c.in-Some.ensures.made c.in-Some.ensures.few_emitted c.requires.entry _
    (subst (λ text. StandsUpTo c.args.report.now c.args.front.at text c.in-Ok.at) lines c.in-Ok.ensures.stands) in
    rw c.emitted.ensures (rw c.in-Some.ensures.next.0 at front)

pub returns-in-Ok-clause-onward : goal.returns-in-Ok-clause-onward
returns-in-Ok-clause-onward c =
    let lines = c.deref.ensures.value ∙ c.in_ok-tell_transition.ensures in
    leads_further (inputs_of c.args.source.now c.args.readings.now c.args.report.now)
    (record { names = c.requires.names; few_readings = omega arith; few_bytes = omega arith }) c.args.front _ _ c.requires.front
    _ _ c.in-Some.ensures.made c.in-Some.ensures.few_emitted c.requires.entry _
    (subst (λ text. StandsUpTo c.args.report.now c.args.front.at text c.in-Ok.at) lines c.in-Ok.ensures.stands)

pub returns-in-Err-clause-stop : goal.returns-in-Err-clause-stop
returns-in-Err-clause-stop c =
    let lines = c.deref.ensures.value ∙ c.in_ok-tell_transition.ensures in
    stops_in_transition (inputs_of c.args.source.now c.args.readings.now c.args.report.now)
    (record { names = c.requires.names; few_readings = omega arith; few_bytes = omega arith }) c.args.front _ _ c.requires.front
    _ _ c.in-Some.ensures.made c.in-Some.ensures.few_emitted c.requires.entry _
    (subst (λ text. DiffersAt c.args.report.now c.args.front.at text c.in-Err.place) lines c.in-Err.ensures.differs)
