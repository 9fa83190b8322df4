use Rattle.command_texts.proofs.command_answers.Interface.{handed_on}
use Rattle.plain_commands.proofs.dis.write_listing.Goals as goal

pub returns-clause-whole : goal.returns-clause-whole
returns-clause-whole g c =
    let text = c.in_ok-disassemble.ensures.whole in
    (text.0, record { text = text.1; assembles = c.in_ok-disassemble.ensures.assembles text.0 text.1 }, text.2)

pub returns-in_err-disassemble-clause-failure : goal.returns-in_err-disassemble-clause-failure
returns-in_err-disassemble-clause-failure g c =
    let text = c.images_have_texts.ensures in
    handed_on _ _ _ c.from_residual.ensures (
      text.0,
      record { text = text.1; assembles = c.in_err-disassemble.ensures.assembles text.0 text.1 },
      c.in_err-disassemble.ensures.part text.0 text.1,
      c.in_err-disassemble.ensures.cause.failed,
    )
