use Rattle.command_answers.specs.Messages.{unreadable_line}
use Rattle.command_answers.proofs.messages.tell_unreadable.Goals as goal

pub returns-clause-line : goal.returns-clause-line
unfolding unreadable_line
returns-clause-line g c = rw c.as_bytes.ensures.value at c.tell_file.ensures.line
