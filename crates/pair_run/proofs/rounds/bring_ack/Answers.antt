use Rattle.std.proofs.Common.{[], ◌∷◌, ◌∙◌, sym}
use Rattle.pair_run.specs.Actions.{AcknowledgementToA}
use Rattle.pair_run.specs.Sides.{GoesOn}
use Rattle.pair_run.proofs.Doing.{one_brought}
use Rattle.pair_run.proofs.Going.{few_in, rest_full}
use Rattle.pair_run.proofs.rounds.bring_ack.Goals as goal

pub returns-then-is_full-clause-done : goal.returns-then-is_full-clause-done
returns-then-is_full-clause-done c p k old shows =
    rest_full _ (AcknowledgementToA c.args.place ∷ []) p k old (GoesOn shows) (sym c.is_full.ensures ∙ c.if-is_full.true)

pub returns-clause-room : goal.returns-clause-room
returns-clause-room c n h = c.bring_ack.ensures.room n n h

pub returns-clause-done : goal.returns-clause-done
returns-clause-done c p k old shows =
    one_brought (AcknowledgementToA c.args.place) _ _ p k old (few_in _ p k shows (sym c.is_full.ensures ∙ c.if-is_full.false)) c.bring_ack.ensures.brought shows
