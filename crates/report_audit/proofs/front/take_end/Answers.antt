use Rattle.std.proofs.Common.{arith, drop, ◌∙◌, subst}
use Rattle.text_parts.specs.Fields.{fields}
use Rattle.report_audit.specs.Fronts.{inputs_of, first_line, StandsUpTo, DiffersAt}
use Rattle.report_audit.proofs.Fronts.{stops_at_words, stops_in_end, stops_behind_end, is_whole}
use Rattle.report_audit.proofs.OnBoard.{never_off}
use Rattle.report_audit.proofs.front.take_end.Goals as goal

pub returns-then-accepted-front-clause-stop : goal.returns-then-accepted-front-clause-stop
returns-then-accepted-front-clause-stop c =
    stops_at_words (inputs_of c.args.source.now c.args.readings.now c.args.report.now)
    (record { names = c.requires.names; few_readings = omega arith; few_bytes = omega arith }) c.args.front _ _ c.requires.front.2
    _ _ _ c.requires.entry c.if-accepted-front.true

pub returns-in-Ok-clause-good : goal.returns-in-Ok-clause-good
returns-in-Ok-clause-good c =
    let line = c.deref.ensures.value ∙ c.in_ok-tell_end.ensures in
    is_whole (inputs_of c.args.source.now c.args.readings.now c.args.report.now)
    (record { names = c.requires.names; few_readings = omega arith; few_bytes = omega arith }) c.args.front _ _ c.requires.front.2
    _ _ _ c.requires.entry
    (record {
      on_board = never_off (fields (first_line (drop c.args.front.at c.args.report.now))) _ _ _ c.requires.entry;
      few_accepted = omega arith;
      few_repeats = omega arith;
    }) (omega arith) _
    (subst (λ text. StandsUpTo c.args.report.now c.args.front.at text c.in-Ok.at) line c.in-Ok.ensures.stands) c.if-at-report.true

pub returns-in-Ok-2-clause-stop : goal.returns-in-Ok-2-clause-stop
returns-in-Ok-2-clause-stop c =
    let line = c.deref.ensures.value ∙ c.in_ok-tell_end.ensures in
    stops_behind_end (inputs_of c.args.source.now c.args.readings.now c.args.report.now)
    (record { names = c.requires.names; few_readings = omega arith; few_bytes = omega arith }) c.args.front _ _ c.requires.front.2
    _ _ _ c.requires.entry
    (record {
      on_board = never_off (fields (first_line (drop c.args.front.at c.args.report.now))) _ _ _ c.requires.entry;
      few_accepted = omega arith;
      few_repeats = omega arith;
    }) (omega arith) _
    (subst (λ text. StandsUpTo c.args.report.now c.args.front.at text c.in-Ok.at) line c.in-Ok.ensures.stands) (λ all. omega (arith, all))

pub returns-in-Err-clause-stop : goal.returns-in-Err-clause-stop
returns-in-Err-clause-stop c =
    let line = c.deref.ensures.value ∙ c.in_ok-tell_end.ensures in
    stops_in_end (inputs_of c.args.source.now c.args.readings.now c.args.report.now)
    (record { names = c.requires.names; few_readings = omega arith; few_bytes = omega arith }) c.args.front _ _ c.requires.front.2
    _ _ _ c.requires.entry
    (record {
      on_board = never_off (fields (first_line (drop c.args.front.at c.args.report.now))) _ _ _ c.requires.entry;
      few_accepted = omega arith;
      few_repeats = omega arith;
    }) (omega arith) _
    (subst (λ text. DiffersAt c.args.report.now c.args.front.at text c.in-Err.place) line c.in-Err.ensures.differs)
