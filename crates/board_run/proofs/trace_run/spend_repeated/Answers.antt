use Rattle.std.proofs.Common.{arith, ◌∙◌, refl, sym, ◌∷◌, [], replicate, ◌-◌, ◌*◌}
use Rattle.board_run.specs.Charges.{charge_of}
use Rattle.board_run.specs.State.{known_so}
use Rattle.board_run.proofs.Charges.{spends_for_first, spends_for_more, spends_for_stop, spends_for_end, spends_for_err, repeated_split, repeated_end}
use Rattle.board_run.proofs.trace_run.spend_repeated.Goals as goal

pub loop-left-init : goal.loop-left-init
loop-left-init g c = record { same = refl; count = omega arith; follows = c.requires.follows; on = spends_for_first _ _ _ _ _ }

pub returns-in_err-stop-clause-spent : goal.returns-in_err-stop-clause-spent
returns-in_err-stop-clause-spent g c = spends_for_err _ _ _ _ _ _ (charge_of c.args.charge.now ∷ [])
    (replicate (c.loop-left.left - 1) (charge_of c.args.charge.now)) c.loop-left.board _ (g.S.Sink.contents c.loop-left.report.sink.now) _
    (known_so c.loop-left.watch) _ (known_so c.spend_one.new.watch) (4294967295 * c.loop-left.left) 4294967295 c.in_err-stop.field-0.0 _
    c.from_residual.ensures.0
    (repeated_split c.loop-left.left (charge_of c.args.charge.now) c.loop-left-test.true) c.loop-left.invariant.on c.in_err-stop.ensures.spent

pub returns-then-is_some-clause-spent : goal.returns-then-is_some-clause-spent
returns-then-is_some-clause-spent g c = spends_for_stop _ _ _ _ _ _ _ _ _ _ _ _ _ _ _ _ _
    (repeated_split c.loop-left.left (charge_of c.args.charge.now) c.loop-left-test.true) (omega (arith, c.loop-left-test.true)) (sym c.if-is_some.ensures)
    c.loop-left.invariant.on c.in_ok-stop.ensures.spent

pub loop-left-preserved : goal.loop-left-preserved
loop-left-preserved g c = record {
  same = c.in_ok-stop.ensures.same_sink ∙ c.loop-left.invariant.same;
  count = omega (arith, c.in_ok-stop.ensures.cause.later, c.loop-left.invariant.count);
  follows = c.in_ok-stop.ensures.follows;
  on = spends_for_more _ _ _ _ _ _ _ _ _ _ _ _ _ _ _ _ _ _
      (repeated_split c.loop-left.left (charge_of c.args.charge.now) c.loop-left-test.true) (omega (arith, c.loop-left-test.true)) (sym c.if-is_some.ensures)
      c.loop-left.invariant.on c.in_ok-stop.ensures.spent;
}

pub returns-clause-spent : goal.returns-clause-spent
returns-clause-spent g c = spends_for_end _ _ _ _ _ _ _ _ _ _ (repeated_end c.loop-left.left (charge_of c.args.charge.now) c.loop-left-test.false)
    c.loop-left.invariant.on
