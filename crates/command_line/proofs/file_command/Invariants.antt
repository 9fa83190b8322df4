use Rattle.std.proofs.Common.{map, take}
use Rattle.command_line.specs.CommandLine.{IsCommand, subcommand_app}
use Rattle.command_line.proofs.file_command.Given as goal

-- the command has the files so far
abbrev pub invariant-loop-file : goal.invariant-loop-file
invariant-loop-file l = IsCommand (subcommand_app (record {
  name = l.name;
  files = map (λ f. f.now) (take l.file-index l.files);
})) l.command
