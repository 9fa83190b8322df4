use Rattle.scope_line.proofs.Commands.{command_is_line, line_is_command}
use Rattle.scope_line.proofs.scope_lines.Goals as goal

pub returns : goal.returns
returns c = λ words texts. (line_is_command words texts, command_is_line words texts)
