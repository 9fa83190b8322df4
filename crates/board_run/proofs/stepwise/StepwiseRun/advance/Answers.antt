use Rattle.std.proofs.Common.{arith, refl, ◌∙◌}
use Rattle.board_run.specs.Stepwise.{state_of}
use Rattle.board_run.proofs.StepByStep.{power_next, power_ends, board_halts, step_made, step_partly, step_nowhere, less_powered, less_ended}
use Rattle.board_run.proofs.StepByStep.{room_turned, room_same, room_less, nothing_more, nothing_stopped, one_more}
use Rattle.board_run.proofs.stepwise.StepwiseRun.advance.Goals as goal

pub returns-in_err-left-clause-step : goal.returns-in_err-left-clause-step
returns-in_err-left-clause-step g c = step_partly _ _ _ _ _ _ _ _ _ _ _ _ c.from_residual.ensures.0 c.loop-self.invariant.on
    c.loop-self-test.true c.in_err-left.ensures.turn

pub returns-in-Left-clause-room : goal.returns-in-Left-clause-room
returns-in-Left-clause-room g c n h =
    let more = one_more _ _ _ _ _ _ _ _ _ _ _ c.in-Left.is c.in_ok-left.ensures.turn in
    room_turned c.loop-self.self _ n more.0 more.1 (c.loop-self.invariant.room n h)

pub returns-in-Left-clause-step : goal.returns-in-Left-clause-step
returns-in-Left-clause-step g c = step_made _ _ _ _ _ _ _ _ _ _ _ c.loop-self.invariant.on c.loop-self-test.true _ _ c.in-Left.is
    c.in_ok-left.ensures.turn

pub loop-self-smaller-then-renew : goal.loop-self-smaller-then-renew
loop-self-smaller-then-renew g c =
    let up = c.renew.ensures.up c.if-renew.true in
    less_powered (record (state_of c.loop-self.self) { board = c.take_turn.new.board }) _ up.charge up.others up.next up.state

pub loop-self-preserved-then-renew : goal.loop-self-preserved-then-renew
loop-self-preserved-then-renew g c =
    let up = c.renew.ensures.up c.if-renew.true in
    let same = nothing_more _ _ _ _ _ _ _ _ _ c.in-Spent.is c.in_ok-left.ensures.turn in
    record {
      same = c.in_ok-left.ensures.same_sink ∙ c.loop-self.invariant.same;
      count = omega (arith, c.in_ok-left.ensures.cause.later, c.loop-self.invariant.count);
      going = up.kept.going;
      room = λ n h. up.kept.room _ (room_same c.loop-self.self _ _ same.0 same.1 (c.loop-self.invariant.room n h));
      on = power_next _ _ _ _ _ _ _ _ _ _ _ c.loop-self.invariant.on c.loop-self-test.true c.in-Spent.is c.in_ok-left.ensures.turn
          up.charge up.others _ _ up.next up.state (record { history = up.history; tally = up.tally });
    }

pub loop-self-smaller-else-renew : goal.loop-self-smaller-else-renew
loop-self-smaller-else-renew g c =
    less_ended (record (state_of c.loop-self.self) { board = c.take_turn.new.board }) _ c.loop-self-test.true (c.renew.ensures.end c.if-renew.false).state

pub loop-self-preserved-else-renew : goal.loop-self-preserved-else-renew
loop-self-preserved-else-renew g c =
    let end = c.renew.ensures.end c.if-renew.false in
    let same = nothing_more _ _ _ _ _ _ _ _ _ c.in-Spent.is c.in_ok-left.ensures.turn in
    record {
      same = c.in_ok-left.ensures.same_sink ∙ c.loop-self.invariant.same;
      count = omega (arith, c.in_ok-left.ensures.cause.later, c.loop-self.invariant.count);
      going = end.kept.going;
      room = λ n h. end.kept.room _ (room_same c.loop-self.self _ _ same.0 same.1 (c.loop-self.invariant.room n h));
      on = power_ends _ _ _ _ _ _ _ _ _ _ _ c.loop-self.invariant.on c.loop-self-test.true c.in-Spent.is c.in_ok-left.ensures.turn
          _ _ end.none end.state end.known;
    }

pub loop-self-smaller : goal.loop-self-smaller
loop-self-smaller g c = less_ended (record (state_of c.loop-self.self) { board = c.take_turn.new.board }) _ c.loop-self-test.true refl

pub loop-self-preserved : goal.loop-self-preserved
loop-self-preserved g c =
    let same = nothing_stopped _ _ _ _ _ _ _ _ _ _ c.in-Stopped.is c.in_ok-left.ensures.turn in
    let before = c.loop-self.invariant in
    record {
      same = c.in_ok-left.ensures.same_sink ∙ before.same;
      count = omega (arith, c.in_ok-left.ensures.cause.later, before.count);
      going = record { next = before.going.next; follows = c.in_ok-left.ensures.follows; repeats = before.going.repeats };
      room = λ n h. room_same c.loop-self.self _ _ same.0 same.1 (before.room n h);
      on = board_halts _ _ _ _ _ _ _ _ _ _ _ before.on c.loop-self-test.true _ c.in-Stopped.is c.in_ok-left.ensures.turn;
    }

pub returns-clause-room : goal.returns-clause-room
returns-clause-room g c n h = room_less _ n (c.loop-self.invariant.room n h)

pub returns-clause-step : goal.returns-clause-step
returns-clause-step g c = step_nowhere _ _ _ _ _ _ _ c.loop-self.invariant.on c.loop-self-test.false
