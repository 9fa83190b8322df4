use Rattle.std.proofs.Common.{arith, ◌∙◌, refl}
use Rattle.board_run.proofs.Spends.{spends_first, turn_left, turn_spent, turn_stopped, turn_less, spends_stop_writing}
use Rattle.board_run.proofs.spend.spend.Goals as goal

pub loop-rest-init : goal.loop-rest-init
loop-rest-init g c = record { same = refl; count = omega arith; follows = c.requires.follows; on = spends_first _ _ _ _ _ }

pub loop-rest-preserved : goal.loop-rest-preserved
loop-rest-preserved g c = record {
  same = c.in_ok-rest.ensures.same_sink ∙ c.loop-rest.invariant.same;
  count = omega (arith, c.in_ok-rest.ensures.cause.later, c.loop-rest.invariant.count);
  follows = c.in_ok-rest.ensures.follows;
  on = turn_left _ _ _ _ _ _ _ _ _ _ _ _ _ _ c.in-Left.is c.loop-rest.invariant.on c.in_ok-rest.ensures.turn;
}

pub loop-rest-smaller : goal.loop-rest-smaller
loop-rest-smaller g c = turn_less _ _ _ _ _ _ _ _ _ _ c.in-Left.is c.in_ok-rest.ensures.turn

pub returns-in_err-rest-clause-spent : goal.returns-in_err-rest-clause-spent
returns-in_err-rest-clause-spent g c = spends_stop_writing _ _ _ _ _ _ _ _ _ _ _ _ _ c.from_residual.ensures.0 c.loop-rest.invariant.on
    c.in_err-rest.ensures.turn

pub returns-in-Spent-clause-spent : goal.returns-in-Spent-clause-spent
returns-in-Spent-clause-spent g c = turn_spent _ _ _ _ _ _ _ _ _ _ _ _ _ c.in-Spent.is c.loop-rest.invariant.on c.in_ok-rest.ensures.turn

pub returns-in-Stopped-clause-spent : goal.returns-in-Stopped-clause-spent
returns-in-Stopped-clause-spent g c = turn_stopped _ _ _ _ _ _ _ _ _ _ _ _ _ _ c.in-Stopped.is c.loop-rest.invariant.on c.in_ok-rest.ensures.turn
