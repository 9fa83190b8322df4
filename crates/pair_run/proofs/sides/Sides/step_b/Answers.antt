use Rattle.std.proofs.Common.{refl, ◌+◌, arith}
use Rattle.pair_run.specs.Actions.{StepOfB}
use Rattle.pair_run.proofs.Going.{one_err}
use Rattle.pair_run.proofs.Rooms.{counts_powered, counts_stepped, counts_less}
use Rattle.pair_run.proofs.SideB.{b_does, b_does_nothing, b_does_partly}
use Rattle.pair_run.proofs.sides.Sides.step_b.Goals as goal

pub returns-in_err-advance-clause-done : goal.returns-in_err-advance-clause-done
returns-in_err-advance-clause-done g c p k shows =
    one_err StepOfB p k _ _ _ _ c.from_residual.ensures.0 (b_does_partly _ c.args.self.now p k shows _ _ c.in_err-advance.ensures.step)

pub returns-in-Some-clause-room : goal.returns-in-Some-clause-room
returns-in-Some-clause-room g c n m h = record {
  a = c.note_step.ensures.room n h.a;
  b = c.in_ok-advance.ensures.room m h.b;
  listener = rw c.note_step.ensures.listener (rw c.hear_power.ensures (counts_stepped _ _ m (counts_powered _ _ (m + 1) h.listener)));
}

pub returns-in-Some-clause-done : goal.returns-in-Some-clause-done
returns-in-Some-clause-done g c p k shows =
    b_does _ _ p k shows _ _ _ c.in_ok-advance.ensures.step
    (record {
      a = c.note_step.ensures.state;
      packets = c.send_acknowledgement.ensures.packets;
      acknowledgements = c.send_acknowledgement.ensures.acknowledgements;
      sent = c.sent.result;
      sent_is = c.sent.ensures;
    })
    (record {
      done = c.in-Some.done;
      made = c.in-Some.is;
      accepted = c.accepted_events-accepted.result;
      accepted_is = c.accepted_events-accepted.ensures;
      gate = c.gate-gate_before.result;
      gate_is = c.gate-gate_before.ensures;
      powered = c.hear_power.new.self;
      powered_is = c.hear_power.ensures;
      listener = c.note_step.ensures.listener;
      history = c.note_step.ensures.history;
    })

pub returns-in_default-clause-room : goal.returns-in_default-clause-room
returns-in_default-clause-room g c n m h = record {
  a = h.a;
  b = c.in_ok-advance.ensures.room m h.b;
  listener = rw c.hear_power.ensures (counts_less _ (m + 1) m (omega arith) (counts_powered _ _ (m + 1) h.listener));
}

pub returns-in_default-clause-done : goal.returns-in_default-clause-done
returns-in_default-clause-done g c p k shows =
    b_does_nothing _ _ p k shows _ _ _ c.in_ok-advance.ensures.step
    (record {
      a = refl;
      packets = c.send_acknowledgement.ensures.packets;
      acknowledgements = c.send_acknowledgement.ensures.acknowledgements;
      sent = c.sent.result;
      sent_is = c.sent.ensures;
    })
    c.in_default.is c.hear_power.ensures refl
