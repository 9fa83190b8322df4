use Rattle.std.proofs.Common.{◌∙◌}
use Rattle.command_line.proofs.Commands.{command_is_line, line_is_command, plain_is, plain_names}
use Rattle.command_line.proofs.command_lines.Goals as goal

pub returns : goal.returns
returns c = record {
  lines = λ words texts. (line_is_command words texts, command_is_line words texts);
  plain_lines = λ words texts free. (
    λ line. let named = line_is_command words texts line in (named.0, plain_is words free ∙ named.1),
    λ plain. command_is_line words texts (plain_names words free plain),
  );
}
