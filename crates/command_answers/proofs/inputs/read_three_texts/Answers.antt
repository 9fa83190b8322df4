use Rattle.std.proofs.Common.{[], ◌∷◌}
use Rattle.command_answers.proofs.UnreadFiles.{front_unread, behind_unread, handed_on}
use Rattle.command_answers.proofs.inputs.read_three_texts.Goals as goal

pub returns-in_err-first-clause-unread : goal.returns-in_err-first-clause-unread
returns-in_err-first-clause-unread g c =
    handed_on _ _ _ c.from_residual.ensures
    (front_unread _ _ (c.args.first.now ∷ []) (c.args.second.now ∷ c.args.third.now ∷ []) _ _ c.in_err-first.ensures.unread)

pub returns-in_err-second-clause-unread : goal.returns-in_err-second-clause-unread
returns-in_err-second-clause-unread g c =
    handed_on _ _ _ c.from_residual-in_err-second.ensures
    (behind_unread _ _ _ _ _ _ _ _ _ c.in_ok-first.ensures.held c.in_ok-first.ensures.fits c.in_ok-first.ensures.counts c.in_ok-first.ensures.same
    (front_unread _ _ (c.args.second.now ∷ []) (c.args.third.now ∷ []) _ _ c.in_err-second.ensures.unread))

pub returns-in_err-third-clause-unread : goal.returns-in_err-third-clause-unread
returns-in_err-third-clause-unread g c =
    handed_on _ _ _ c.from_residual-in_err-third.ensures
    (behind_unread _ _ _ _ _ _ _ _ _ c.in_ok-first.ensures.held c.in_ok-first.ensures.fits c.in_ok-first.ensures.counts c.in_ok-first.ensures.same
    (behind_unread _ _ _ _ _ _ _ _ _ c.in_ok-second.ensures.held c.in_ok-second.ensures.fits c.in_ok-second.ensures.counts c.in_ok-second.ensures.same
    c.in_err-third.ensures.unread))
