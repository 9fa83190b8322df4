use Rattle.std.proofs.Common.{[], ◌∷◌}
use Rattle.plain_commands.proofs.command_answers.Interface.{front_unread, behind_unread, handed_on}
use Rattle.state_commands.proofs.migrate.read_five_texts.Goals as goal

pub returns-in_err-source-clause-unread : goal.returns-in_err-source-clause-unread
returns-in_err-source-clause-unread g c =
    handed_on _ _ _ c.from_residual.ensures
    (front_unread _ _ (c.args.names.source.now ∷ [])
    (c.args.names.image.now ∷ c.args.names.state.now ∷ c.args.names.new_source.now ∷ c.args.names.new_image.now ∷ []) _ _ c.in_err-source.ensures.unread)

pub returns-in_err-image-clause-unread : goal.returns-in_err-image-clause-unread
returns-in_err-image-clause-unread g c =
    handed_on _ _ _ c.from_residual-in_err-image.ensures
    (behind_unread _ _ _ _ _ _ _ _ _ c.in_ok-source.ensures.held c.in_ok-source.ensures.fits c.in_ok-source.ensures.counts c.in_ok-source.ensures.same
    (front_unread _ _ (c.args.names.image.now ∷ [])
    (c.args.names.state.now ∷ c.args.names.new_source.now ∷ c.args.names.new_image.now ∷ []) _ _ c.in_err-image.ensures.unread))

pub returns-in_err-state-clause-unread : goal.returns-in_err-state-clause-unread
returns-in_err-state-clause-unread g c =
    handed_on _ _ _ c.from_residual-in_err-state.ensures
    (behind_unread _ _ _ _ _ _ _ _ _ c.in_ok-source.ensures.held c.in_ok-source.ensures.fits c.in_ok-source.ensures.counts c.in_ok-source.ensures.same
    (behind_unread _ _ _ _ _ _ _ _ _ c.in_ok-image.ensures.held c.in_ok-image.ensures.fits c.in_ok-image.ensures.counts c.in_ok-image.ensures.same
    (front_unread _ _ (c.args.names.state.now ∷ [])
    (c.args.names.new_source.now ∷ c.args.names.new_image.now ∷ []) _ _ c.in_err-state.ensures.unread)))

pub returns-in_err-new_source-clause-unread : goal.returns-in_err-new_source-clause-unread
returns-in_err-new_source-clause-unread g c =
    handed_on _ _ _ c.from_residual-in_err-new_source.ensures
    (behind_unread _ _ _ _ _ _ _ _ _ c.in_ok-source.ensures.held c.in_ok-source.ensures.fits c.in_ok-source.ensures.counts c.in_ok-source.ensures.same
    (behind_unread _ _ _ _ _ _ _ _ _ c.in_ok-image.ensures.held c.in_ok-image.ensures.fits c.in_ok-image.ensures.counts c.in_ok-image.ensures.same
    (behind_unread _ _ _ _ _ _ _ _ _ c.in_ok-state.ensures.held c.in_ok-state.ensures.fits c.in_ok-state.ensures.counts c.in_ok-state.ensures.same
    (front_unread _ _ (c.args.names.new_source.now ∷ []) (c.args.names.new_image.now ∷ []) _ _ c.in_err-new_source.ensures.unread))))

pub returns-in_err-new_image-clause-unread : goal.returns-in_err-new_image-clause-unread
returns-in_err-new_image-clause-unread g c =
    handed_on _ _ _ c.from_residual-in_err-new_image.ensures
    (behind_unread _ _ _ _ _ _ _ _ _ c.in_ok-source.ensures.held c.in_ok-source.ensures.fits c.in_ok-source.ensures.counts c.in_ok-source.ensures.same
    (behind_unread _ _ _ _ _ _ _ _ _ c.in_ok-image.ensures.held c.in_ok-image.ensures.fits c.in_ok-image.ensures.counts c.in_ok-image.ensures.same
    (behind_unread _ _ _ _ _ _ _ _ _ c.in_ok-state.ensures.held c.in_ok-state.ensures.fits c.in_ok-state.ensures.counts c.in_ok-state.ensures.same
    (behind_unread _ _ _ _ _ _ _ _ _ c.in_ok-new_source.ensures.held c.in_ok-new_source.ensures.fits
    c.in_ok-new_source.ensures.counts c.in_ok-new_source.ensures.same
    (c.in_err-new_image.ensures.unread)))))
