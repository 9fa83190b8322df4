use Rattle.command_answers.specs.Messages.{too_long_line}
use Rattle.command_answers.proofs.messages.tell_too_long.Goals as goal

pub returns-clause-line : goal.returns-clause-line
unfolding too_long_line
returns-clause-line g c = rw c.as_bytes.ensures.value at c.tell_file.ensures.line
