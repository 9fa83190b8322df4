use Rattle.command_answers.specs.Messages.{unput_line}
use Rattle.command_answers.proofs.messages.tell_unput.Goals as goal

pub returns-clause-line : goal.returns-clause-line
unfolding unput_line
returns-clause-line g c = rw c.as_bytes.ensures.value at c.tell_file.ensures.line
