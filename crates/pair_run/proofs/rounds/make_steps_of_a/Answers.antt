use Rattle.std.proofs.Common.{arith, [], ◌∷◌, ◌∙◌, sym}
use Rattle.pair_run.specs.Actions.{StepOfA, repeated}
use Rattle.pair_run.specs.Lines.{known_after}
use Rattle.pair_run.proofs.Doing.{none_done, one_done, one_partly}
use Rattle.pair_run.proofs.Going.{few_in, gone_on_a, rest_full, rest_a, all_err}
use Rattle.pair_run.proofs.RoundByRound.{once_more, rest_of_them, partly_of_them, all_of_them}
use Rattle.pair_run.proofs.Rooms.{rooms_less, room_less}
use Rattle.pair_run.proofs.rounds.make_steps_of_a.Goals as goal

pub loop-init : goal.loop-init
loop-init g c = record {
  going = c.requires.going;
  room = λ n h. room_less _ _ _ (omega arith) h;
  faults = omega arith;
  on = λ p k shows. none_done _ p k _ shows;
}

pub step_a-requires-clause-room : goal.step_a-requires-clause-room
step_a-requires-clause-room g c =
    let left = c.loop.invariant.room 0 (room_less _ _ _ (omega arith) c.requires.room) in
    rooms_less _ _ _ _ _ (omega arith) (omega arith) left

pub returns-then-is_full-clause-room : goal.returns-then-is_full-clause-room
returns-then-is_full-clause-room g c n h = room_less _ _ _ (omega arith) (c.loop.invariant.room n h)

pub returns-then-is_full-clause-done : goal.returns-then-is_full-clause-done
returns-then-is_full-clause-done g c p k shows =
    let d = c.loop.invariant.on p k shows in
    rest_of_them c.loop.counter c.args.count (StepOfA ∷ []) p k _ _ _ (omega arith) d
    (λ rest. rest_full _ (repeated rest (StepOfA ∷ [])) d.behind (known_after k d.moments) _ d.reaches (sym c.is_full.ensures ∙ c.if-is_full.true))

pub returns-then-has_ended-clause-room : goal.returns-then-has_ended-clause-room
returns-then-has_ended-clause-room g c n h = room_less _ _ _ (omega arith) (c.loop.invariant.room n h)

pub returns-then-has_ended-clause-done : goal.returns-then-has_ended-clause-done
returns-then-has_ended-clause-done g c p k shows =
    let d = c.loop.invariant.on p k shows in
    rest_of_them c.loop.counter c.args.count (StepOfA ∷ []) p k _ _ _ (omega arith) d
    (λ rest. rest_a _ rest d.behind (known_after k d.moments) _ d.reaches (sym c.has_ended.ensures ∙ c.if-has_ended.true))

pub returns-in_err-step_a-clause-done : goal.returns-in_err-step_a-clause-done
returns-in_err-step_a-clause-done g c p k shows =
    let d = c.loop.invariant.on p k shows in
    let known = known_after k d.moments in
    let on = gone_on_a _ _ _ d.reaches (sym c.has_ended.ensures ∙ c.if-has_ended.false) in
    all_err _ p k _ _ _ _ c.from_residual.ensures.0
    (partly_of_them c.loop.counter c.args.count (StepOfA ∷ []) p k _ _ _ _ (omega arith) d
    (one_partly StepOfA d.behind known _ _ (few_in _ _ _ on (sym c.is_full.ensures ∙ c.if-is_full.false)) (c.in_err-step_a.ensures.done d.behind known on)))

pub loop-preserved : goal.loop-preserved
loop-preserved g c = record {
  going = c.in_ok-step_a.ensures.going;
  room = λ n h.
      let left = c.loop.invariant.room n h in
      c.in_ok-step_a.ensures.room _ _ (rooms_less _ _ _ _ _ (omega arith) (omega arith) left);
  faults = omega (arith, c.loop.invariant.faults, c.in_ok-step_a.ensures.cause.later);
  on = λ p k shows.
      let d = c.loop.invariant.on p k shows in
      let known = known_after k d.moments in
      let on = gone_on_a _ _ _ d.reaches (sym c.has_ended.ensures ∙ c.if-has_ended.false) in
      once_more c.loop.counter (StepOfA ∷ []) p k _ _ _ _ _ d
      (one_done _ StepOfA d.behind known _ _ (few_in _ _ _ on (sym c.is_full.ensures ∙ c.if-is_full.false)) (c.in_ok-step_a.ensures.done d.behind known on));
}

pub returns-clause-room : goal.returns-clause-room
returns-clause-room g c n h = room_less _ _ _ (omega arith) (c.loop.invariant.room n h)

pub returns-clause-done : goal.returns-clause-done
returns-clause-done g c p k shows = all_of_them c.loop.counter c.args.count (StepOfA ∷ []) p k _ _ _ (omega arith) (c.loop.invariant.on p k shows)
