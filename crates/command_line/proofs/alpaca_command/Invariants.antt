use Rattle.std.proofs.Common.{◌≡◌, false, drop}
use Rattle.clap.specs.Words.{app_of}
use Rattle.command_line.specs.CommandLine.{alpaca_app, has_globals}
use Rattle.command_line.proofs.Added.{with_rows}
use Rattle.command_line.proofs.alpaca_command.Given as goal

-- the rows that are left make it the whole command line
abbrev pub invariant-loop-name : goal.invariant-loop-name
invariant-loop-name l = record {
  app : with_rows (app_of l.command) (drop l.name-index l.name-items) ≡ alpaca_app;
  globals : has_globals l.command ≡ false;
}
