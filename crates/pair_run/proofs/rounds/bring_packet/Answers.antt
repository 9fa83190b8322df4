use Rattle.std.proofs.Common.{[], ◌∷◌, ◌∙◌, sym}
use Rattle.pair_run.specs.Actions.{PacketToB}
use Rattle.pair_run.specs.Sides.{GoesOn}
use Rattle.pair_run.proofs.Doing.{one_brought}
use Rattle.pair_run.proofs.Going.{few_in, rest_full}
use Rattle.pair_run.proofs.rounds.bring_packet.Goals as goal

pub returns-then-is_full-clause-done : goal.returns-then-is_full-clause-done
returns-then-is_full-clause-done c p k old shows =
    rest_full _ (PacketToB c.args.place ∷ []) p k old (GoesOn shows) (sym c.is_full.ensures ∙ c.if-is_full.true)

pub returns-clause-room : goal.returns-clause-room
returns-clause-room c n h = c.bring_packet.ensures.room n n h

pub returns-clause-done : goal.returns-clause-done
returns-clause-done c p k old shows =
    one_brought (PacketToB c.args.place) _ _ p k old (few_in _ p k shows (sym c.is_full.ensures ∙ c.if-is_full.false)) c.bring_packet.ensures.brought shows
