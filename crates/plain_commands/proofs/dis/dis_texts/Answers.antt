use Rattle.std.proofs.Common.{refl}
use Rattle.command_texts.proofs.command_answers.Interface.{refusal_fails, handed_on}
use Rattle.plain_commands.proofs.CommandLaws.{dis_whole, dis_fails}
use Rattle.plain_commands.proofs.dis.dis_texts.Goals as goal

pub returns-in_err-image-clause-failure : goal.returns-in_err-image-clause-failure
returns-in_err-image-clause-failure g c =
    handed_on _ _ _ c.from_residual.ensures (λ shelf stands. refusal_fails _ _ _ _ _ 0 _ _ refl (λ r no. (no, refl)) stands refl c.in_err-image.ensures.refused)

pub returns-clause-whole : goal.returns-clause-whole
returns-clause-whole g c = dis_whole _ _ _ _ _ c.in_ok-image.ensures.said c.write_listing.ensures.whole

pub returns-clause-failure : goal.returns-clause-failure
returns-clause-failure g c = dis_fails _ _ _ _ _ c.in_ok-image.ensures.said c.write_listing.ensures.failure
