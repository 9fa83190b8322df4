use Rattle.std.proofs.Common.{arith, ◌∙◌, refl, sym, replicate, get_or, drop, ◌+◌, ◌*◌}
use Rattle.energy_trace.specs.TraceValue.{charge_count}
use Rattle.board_run.specs.Charges.{charge_of, charges_of}
use Rattle.board_run.specs.State.{known_so}
use Rattle.board_run.proofs.Charges.{spends_for_first, spends_for_more, spends_for_stop, spends_for_end, spends_for_err, all_split, count_split, all_end}
use Rattle.board_run.proofs.Charges.{no_charge}
use Rattle.board_run.proofs.trace_run.spend_all.Goals as goal

pub loop-charge-init : goal.loop-charge-init
loop-charge-init g c = record { same = refl; count = omega arith; follows = c.requires.follows; on = spends_for_first _ _ _ _ _ }

pub returns-in_err-stop-clause-spent : goal.returns-in_err-stop-clause-spent
returns-in_err-stop-clause-spent g c =
    let i = c.loop-charge.charge-index in
    let charge = get_or c.args.charges.now i no_charge in
    spends_for_err _ _ _ _ _ _ (replicate charge.times (charge_of charge)) (charges_of (drop (i + 1) c.args.charges.now)) c.loop-charge.board _
    (g.S.Sink.contents c.loop-charge.report.sink.now) _
    (known_so c.loop-charge.watch) _ (known_so c.spend_repeated.new.watch) (4294967295 * charge_count (drop i c.args.charges.now)) (4294967295 * charge.times)
    c.in_err-stop.field-0.0 _ c.from_residual.ensures.0
    (all_split c.args.charges.now no_charge i c.loop-charge-test.true) c.loop-charge.invariant.on c.in_err-stop.ensures.spent

pub returns-then-is_some-clause-spent : goal.returns-then-is_some-clause-spent
returns-then-is_some-clause-spent g c =
    let counted = count_split c.args.charges.now no_charge c.loop-charge.charge-index c.loop-charge-test.true in
    spends_for_stop _ _ _ _ _ _ _ _ _ _ _ _ _ _ _ _ _
    (all_split c.args.charges.now no_charge c.loop-charge.charge-index c.loop-charge-test.true) (omega (arith, counted)) (sym c.if-is_some.ensures)
    c.loop-charge.invariant.on c.in_ok-stop.ensures.spent

pub loop-charge-preserved : goal.loop-charge-preserved
loop-charge-preserved g c =
    let counted = count_split c.args.charges.now no_charge c.loop-charge.charge-index c.loop-charge-test.true in
    record {
      same = c.in_ok-stop.ensures.same_sink ∙ c.loop-charge.invariant.same;
      count = omega (arith, c.in_ok-stop.ensures.cause.later, c.loop-charge.invariant.count);
      follows = c.in_ok-stop.ensures.follows;
      on = spends_for_more _ _ _ _ _ _ _ _ _ _ _ _ _ _ _ _ _ _
          (all_split c.args.charges.now no_charge c.loop-charge.charge-index c.loop-charge-test.true) (omega (arith, counted)) (sym c.if-is_some.ensures)
          c.loop-charge.invariant.on c.in_ok-stop.ensures.spent;
    }

pub returns-clause-spent : goal.returns-clause-spent
returns-clause-spent g c = spends_for_end _ _ _ _ _ _ _ _ _ _ (all_end c.args.charges.now c.loop-charge.charge-index c.loop-charge-test.false)
    c.loop-charge.invariant.on
