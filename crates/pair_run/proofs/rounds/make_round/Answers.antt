use Rattle.std.proofs.Common.{◌+◌, arith, ◌∙◌, sym}
use Rattle.pair_run.specs.Actions.{one_round}
use Rattle.pair_run.specs.Lines.{known_after}
use Rattle.pair_run.specs.Sides.{GoesOn}
use Rattle.pair_run.proofs.Going.{rest_full, all_err}
use Rattle.pair_run.proofs.RoundByRound.{round_partly_a, round_partly_b, round_full, round_whole}
use Rattle.pair_run.proofs.Rooms.{rooms_less, room_less}
use Rattle.pair_run.proofs.rounds.make_round.Goals as goal

pub returns-then-is_full-clause-room : goal.returns-then-is_full-clause-room
returns-then-is_full-clause-room g c n h = room_less _ _ _ (omega arith) h

pub returns-then-is_full-clause-done : goal.returns-then-is_full-clause-done
returns-then-is_full-clause-done g c p k shows = rest_full _ one_round p k _ (GoesOn shows) (sym c.is_full.ensures ∙ c.if-is_full.true)

pub step_a-requires-clause-room : goal.step_a-requires-clause-room
step_a-requires-clause-room g c = rooms_less _ _ _ _ _ (omega arith) (omega arith) c.requires.room

pub step_b-requires-clause-room : goal.step_b-requires-clause-room
step_b-requires-clause-room g c = c.in_ok-step_a.ensures.room 0 1 c.requires.room

pub returns-in_err-step_a-clause-done : goal.returns-in_err-step_a-clause-done
returns-in_err-step_a-clause-done g c p k shows =
    all_err _ p k _ _ _ _ c.from_residual.ensures.0
    (round_partly_a _ c.step_a.new.self p k _ _ shows (sym c.is_full.ensures ∙ c.if-is_full.false) (c.in_err-step_a.ensures.done p k shows))

pub returns-in_err-step_b-clause-done : goal.returns-in_err-step_b-clause-done
returns-in_err-step_b-clause-done g c p k shows =
    let d = c.in_ok-step_a.ensures.done p k shows in
    all_err _ p k _ _ _ _ c.from_residual-in_err-step_b.ensures.0
    (round_partly_b _ _ p k _ _ shows (sym c.is_full.ensures ∙ c.if-is_full.false) d c.step_b.new.self _
    (c.in_err-step_b.ensures.done d.behind (known_after k d.moments) d.shows))

pub returns-then-is_full-2-clause-room : goal.returns-then-is_full-2-clause-room
returns-then-is_full-2-clause-room g c n h = c.in_ok-step_b.ensures.room n n (c.in_ok-step_a.ensures.room n (n + 1) h)

pub returns-then-is_full-2-clause-done : goal.returns-then-is_full-2-clause-done
returns-then-is_full-2-clause-done g c p k shows =
    let d = c.in_ok-step_a.ensures.done p k shows in
    let e = c.in_ok-step_b.ensures.done d.behind (known_after k d.moments) d.shows in
    round_full _ _ p k _ _ shows (sym c.is_full.ensures ∙ c.if-is_full.false) d _ _ e (sym c.is_full-2.ensures ∙ c.if-is_full-2.true)

pub returns-clause-room : goal.returns-clause-room
returns-clause-room g c n h =
    c.bring_newest_ack.ensures.room n n (c.bring_newest_packet.ensures.room n n (c.in_ok-step_b.ensures.room n n (c.in_ok-step_a.ensures.room n (n + 1) h)))

pub returns-clause-done : goal.returns-clause-done
returns-clause-done g c p k shows =
    let d = c.in_ok-step_a.ensures.done p k shows in
    let e = c.in_ok-step_b.ensures.done d.behind (known_after k d.moments) d.shows in
    let few = sym c.is_full-2.ensures ∙ c.if-is_full-2.false in
    round_whole _ _ p k _ _ shows (sym c.is_full.ensures ∙ c.if-is_full.false) d _ _ e _ _ few
    c.bring_newest_packet.ensures.brought c.bring_newest_ack.ensures.brought
