use Rattle.std.proofs.Common.{refl, ◌∙◌, ap}
use Rattle.pair_run.specs.Actions.{StepOfA}
use Rattle.pair_run.specs.Pair.{with_packet}
use Rattle.pair_run.proofs.Going.{one_err}
use Rattle.pair_run.proofs.SideA.{a_does, a_does_partly}
use Rattle.pair_run.proofs.sides.Sides.step_a.Goals as goal

pub returns-in_err-advance-clause-done : goal.returns-in_err-advance-clause-done
returns-in_err-advance-clause-done g c p k shows =
    one_err StepOfA p k _ _ _ _ c.from_residual.ensures.0 (a_does_partly _ c.args.self.now p k shows _ _ c.in_err-advance.ensures.step)

pub returns-clause-room : goal.returns-clause-room
returns-clause-room g c n m h = record { a = c.in_ok-advance.ensures.room n h.a; b = h.b; listener = h.listener }

pub returns-clause-done : goal.returns-clause-done
returns-clause-done g c p k shows =
    a_does _ _ p k shows _ _ _ c.in_ok-advance.ensures.step refl refl refl
    (c.send_packet.ensures.packets ∙ ap (λ d. with_packet d c.args.self.now.air.now.packets) c.sent.ensures) c.send_packet.ensures.acknowledgements
