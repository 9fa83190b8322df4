use Rattle.std.proofs.Common.{arith, ◌∙◌, sym}
use Rattle.pair_run.specs.Actions.{one_round, repeated}
use Rattle.pair_run.specs.Lines.{known_after}
use Rattle.pair_run.proofs.Doing.{none_done}
use Rattle.pair_run.proofs.Going.{gone_on, rest_full, rest_ended, all_err}
use Rattle.pair_run.proofs.RoundByRound.{once_more, rest_of_them, partly_of_them, all_of_them}
use Rattle.pair_run.proofs.Rooms.{room_less}
use Rattle.pair_run.proofs.rounds.make_rounds.Goals as goal

pub loop-init : goal.loop-init
loop-init g c = record {
  going = c.requires.going;
  room = λ n h. room_less _ _ _ (omega arith) h;
  faults = omega arith;
  on = λ p k shows. none_done _ p k _ shows;
}

pub make_round-requires-clause-room : goal.make_round-requires-clause-room
make_round-requires-clause-room g c = room_less _ _ _ (omega arith) (c.loop.invariant.room 0 (room_less _ _ _ (omega arith) c.requires.room))

pub returns-then-is_full-clause-room : goal.returns-then-is_full-clause-room
returns-then-is_full-clause-room g c n h = room_less _ _ _ (omega arith) (c.loop.invariant.room n h)

pub returns-then-is_full-clause-done : goal.returns-then-is_full-clause-done
returns-then-is_full-clause-done g c p k shows =
    let d = c.loop.invariant.on p k shows in
    rest_of_them c.loop.counter c.args.count one_round p k _ _ _ (omega arith) d
    (λ rest. rest_full _ (repeated rest one_round) d.behind (known_after k d.moments) _ d.reaches (sym c.is_full.ensures ∙ c.if-is_full.true))

pub returns-then-have_ended-clause-room : goal.returns-then-have_ended-clause-room
returns-then-have_ended-clause-room g c n h = room_less _ _ _ (omega arith) (c.loop.invariant.room n h)

pub returns-then-have_ended-clause-done : goal.returns-then-have_ended-clause-done
returns-then-have_ended-clause-done g c p k shows =
    let d = c.loop.invariant.on p k shows in
    rest_of_them c.loop.counter c.args.count one_round p k _ _ _ (omega arith) d
    (λ rest. rest_ended _ (repeated rest one_round) d.behind (known_after k d.moments) _ d.reaches (sym c.have_ended.ensures ∙ c.if-have_ended.true))

pub returns-in_err-make_round-clause-done : goal.returns-in_err-make_round-clause-done
returns-in_err-make_round-clause-done g c p k shows =
    let d = c.loop.invariant.on p k shows in
    let on = gone_on _ _ _ d.reaches (sym c.have_ended.ensures ∙ c.if-have_ended.false) in
    all_err _ p k _ _ _ _ c.from_residual.ensures.0
    (partly_of_them c.loop.counter c.args.count one_round p k _ _ _ _ (omega arith) d
    (c.in_err-make_round.ensures.done d.behind (known_after k d.moments) on))

pub loop-preserved : goal.loop-preserved
loop-preserved g c = record {
  going = c.in_ok-make_round.ensures.going;
  room = λ n h. c.in_ok-make_round.ensures.room _ (room_less _ _ _ (omega arith) (c.loop.invariant.room n h));
  faults = omega (arith, c.loop.invariant.faults, c.in_ok-make_round.ensures.cause.later);
  on = λ p k shows.
      let d = c.loop.invariant.on p k shows in
      let on = gone_on _ _ _ d.reaches (sym c.have_ended.ensures ∙ c.if-have_ended.false) in
      once_more c.loop.counter one_round p k _ _ _ _ _ d (c.in_ok-make_round.ensures.done d.behind (known_after k d.moments) on);
}

pub returns-clause-room : goal.returns-clause-room
returns-clause-room g c n h = room_less _ _ _ (omega arith) (c.loop.invariant.room n h)

pub returns-clause-done : goal.returns-clause-done
returns-clause-done g c p k shows = all_of_them c.loop.counter c.args.count one_round p k _ _ _ (omega arith) (c.loop.invariant.on p k shows)
