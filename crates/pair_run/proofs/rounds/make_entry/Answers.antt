use Rattle.std.proofs.Common.{arith, sym, subst}
use Rattle.pair_run.specs.Actions.{actions_of}
use Rattle.pair_run.specs.Sides.{DoesAll}
use Rattle.pair_run.proofs.Rooms.{room_less, room_of_fewer}
use Rattle.pair_run.proofs.rounds.make_entry.Goals as goal

pub returns-in-StepsOfA-clause-room : goal.returns-in-StepsOfA-clause-room
returns-in-StepsOfA-clause-room g c = room_of_fewer _ _ _ c.in-StepsOfA.count (omega arith) c.make_steps_of_a.ensures.room

pub returns-in-StepsOfB-clause-room : goal.returns-in-StepsOfB-clause-room
returns-in-StepsOfB-clause-room g c = room_of_fewer _ _ _ c.in-StepsOfB.count (omega arith) c.make_steps_of_b.ensures.room

pub returns-in-Rounds-clause-room : goal.returns-in-Rounds-clause-room
returns-in-Rounds-clause-room g c = room_of_fewer _ _ _ c.in-Rounds.count (omega arith) c.make_rounds.ensures.room

pub returns-in-BringPacket-clause-room : goal.returns-in-BringPacket-clause-room
returns-in-BringPacket-clause-room g c n h = c.bring_packet.ensures.room n (room_less _ _ n (omega arith) h)

pub returns-in-BringPacket-clause-done : goal.returns-in-BringPacket-clause-done
returns-in-BringPacket-clause-done g c p k shows =
    let old = g.S.Sink.contents c.args.sink.now in
    subst (λ e. DoesAll (actions_of e) p k old old c.bring_packet.new.sides) (sym c.in-BringPacket.is) (c.bring_packet.ensures.done p k old shows)

pub returns-in-BringAcknowledgement-clause-room : goal.returns-in-BringAcknowledgement-clause-room
returns-in-BringAcknowledgement-clause-room g c n h = c.bring_ack.ensures.room n (room_less _ _ n (omega arith) h)

pub returns-in-BringAcknowledgement-clause-done : goal.returns-in-BringAcknowledgement-clause-done
returns-in-BringAcknowledgement-clause-done g c p k shows =
    let old = g.S.Sink.contents c.args.sink.now in
    subst (λ e. DoesAll (actions_of e) p k old old c.bring_ack.new.sides) (sym c.in-BringAcknowledgement.is) (c.bring_ack.ensures.done p k old shows)
