use Rattle.std.proofs.Common.{◌≡◌, ◌∙◌, sym, ap, arith, drop}
use Rattle.text_parts.specs.Fields.{fields}
use Rattle.report_audit.specs.Entry.{entry_of}
use Rattle.report_audit.specs.Fronts.{inputs_of, first_line}
use Rattle.report_audit.proofs.Fronts.{stops_at_none}
use Rattle.report_audit.proofs.ReadLines.{line_read, none_read}
use Rattle.report_audit.proofs.report.read_report.Goals as goal

pub take_transition-requires-clause-entry : goal.take_transition-requires-clause-entry
take_transition-requires-clause-entry c =
    let line = line_read c.args.report.now c.loop-line.front.at c.in-Some.line (sym c.next_line.ensures.value ∙ c.in-Some.is) in
    let said : entry_of (fields (first_line (drop c.loop-line.front.at c.args.report.now))) ≡ c.entry_of.result =
    ap (λ l. entry_of (fields l)) (sym line) ∙ sym c.entry_of.ensures in
    cc (said, c.in-Some-Transition.is, c.in-Some-Transition.field-0-is)

pub returns-in-None-clause-stop : goal.returns-in-None-clause-stop
returns-in-None-clause-stop c =
    let line = line_read c.args.report.now c.loop-line.front.at c.in-Some.line (sym c.next_line.ensures.value ∙ c.in-Some.is) in
    stops_at_none (inputs_of c.args.source.now c.args.readings.now c.args.report.now)
    (record { names = c.requires.names; few_readings = omega arith; few_bytes = omega arith }) c.loop-line.front _ _ c.loop-line.invariant.front
    (ap (λ l. entry_of (fields l)) (sym line) ∙ sym c.entry_of.ensures ∙ c.in-None.is)

pub returns-clause-stop : goal.returns-clause-stop
returns-clause-stop c =
    stops_at_none (inputs_of c.args.source.now c.args.readings.now c.args.report.now)
    (record { names = c.requires.names; few_readings = omega arith; few_bytes = omega arith }) c.loop-line.front _ _ c.loop-line.invariant.front
    (none_read c.args.report.now c.loop-line.front.at (sym c.next_line.ensures.value ∙ c.in_default.is))
