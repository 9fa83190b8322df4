use Rattle.clap.specs.Words.{found_of, rows_of}
use Rattle.scope_line.proofs.Commands.{none_found}
use Rattle.scope_line.proofs.command_named.Goals as goal

pub returns-in_default : goal.returns-in_default
returns-in_default c = none_found c.args.name.now (rows_of (found_of c.args.files.now)) c.in_default.not-bounds
