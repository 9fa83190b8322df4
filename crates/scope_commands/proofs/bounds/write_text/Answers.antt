use Rattle.std.proofs.Common.{refl}
use Rattle.plain_commands.proofs.command_answers.Interface.{handed_on}
use Rattle.scope_commands.proofs.bounds.write_text.Goals as goal

pub returns-clause-whole : goal.returns-clause-whole
returns-clause-whole g c = (_, refl, c.in_ok-write_all.ensures.bytes.whole)

pub returns-in_err-write_all-clause-failure : goal.returns-in_err-write_all-clause-failure
returns-in_err-write_all-clause-failure g c =
    handed_on _ _ _ c.from_residual.ensures (_, refl, c.in_err-write_all.ensures.bytes.part, c.in_err-write_all.ensures.cause.failed)
