use Rattle.std.proofs.Common.{subst, ap, ◌∙◌, ◌*◌, List, Err}
use Rattle.std.proofs.lemmas.Result.{err_from_is_err_and}
use Rattle.energy_trace.specs.TraceValue.{Event, charge_count}
use Rattle.energy_trace.specs.declared.charge.Charge.{Charge}
use Rattle.board_run.specs.Charges.{charges_of}
use Rattle.board_run.specs.Report.{IsRestOf}
use Rattle.board_run.specs.State.{seen_so, known_so}
use Rattle.board_run.proofs.Charges.{run_cut, run_end}
use Rattle.board_run.proofs.trace_run.run_charges.Goals as goal

pub returns-in_err-stop-clause-run : goal.returns-in_err-stop-clause-run
returns-in_err-stop-clause-run g c =
    let first = c.args.watch.now in
    let last = c.spend_all.new.watch in
    let events = c.args.trace.now.events in
    let P : List Charge → Type 0 = λ cs. IsRestOf (seen_so first) (charges_of cs) events c.args.board.now (g.S.Sink.contents c.args.report.now.sink.now)
    (g.S.Sink.contents c.spend_all.new.report.sink.now) c.from_residual.result c.spend_all.new.board (seen_so last) in
    let p = err_from_is_err_and c.from_residual.result c.from_residual.ensures.1 in
    subst P c.charges.ensures.value (run_cut (known_so first) (known_so last) (seen_so last) (charges_of c.charges.result.now) events c.args.board.now
    c.spend_all.new.board _ _ (4294967295 * charge_count c.charges.result.now) c.in_err-stop.field-0.0 c.from_residual.result
    (p.1 ∙ ap Err p.2) c.in_err-stop.ensures.spent)

pub returns-clause-run : goal.returns-clause-run
returns-clause-run g c =
    let first = c.args.watch.now in
    let last = c.spend_all.new.watch in
    let P : List Charge → List Event → Type 0 = λ cs es. IsRestOf (seen_so first) (charges_of cs) es c.args.board.now
    (g.S.Sink.contents c.args.report.now.sink.now) (g.S.Sink.contents c.finish.new.report.sink.now) c.finish.result c.spend_all.new.board (seen_so last) in
    let events = c.events.result.now in
    let charges = c.charges.result.now in
    let ended = run_end (known_so first) (known_so last) (charges_of charges) events c.args.board.now c.spend_all.new.board _ _ _ _ c.in_ok-stop.stop
    c.requires.tally c.in_ok-stop.ensures.spent c.finish.result c.finish.ensures.end in
    subst (λ cs. P cs c.args.trace.now.events) c.charges.ensures.value (subst (P charges) c.events.ensures.value ended)
