use Rattle.std.proofs.Common.{◌∙◌, ap}
use Rattle.clap.specs.Words.{with_subcommand}
use Rattle.command_line.specs.CommandLine.{subcommand_shape}
use Rattle.scope_line.specs.ScopeLine.{bare_scope, bounds_line, scope_app}
use Rattle.scope_line.proofs.scope_command.Goals as goal

pub returns : goal.returns
unfolding bare_scope scope_app
returns c = record {
  app = c.in_ok-command.ensures.app ∙ ap (λ a. with_subcommand a (subcommand_shape bounds_line)) c.bare_command-bare.ensures.app;
  globals = c.in_ok-command.ensures.globals;
}
