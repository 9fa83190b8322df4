use Rattle.std.proofs.Common.{◌≡◌, ◌∙◌, sym, true}
use Rattle.command_answers.specs.FileNames.{is_plain}
use Rattle.command_answers.proofs.NameLaws.{same_name}
use Rattle.command_answers.proofs.messages.tell_file.Goals as goal

pub returns-then-is_plain-clause-line : goal.returns-then-is_plain-clause-line
returns-then-is_plain-clause-line g c =
    let plain : is_plain c.args.name.now ≡ true = sym c.is_plain.ensures ∙ c.if-is_plain.true in
    rw (same_name c.args.name.now plain) c.tell.ensures.line
