use Rattle.std.proofs.Common.{◌∙◌, ◌+◌, drop, sym, ap}
use Rattle.command_line.specs.CommandLine.{alpaca_app, bare_app}
use Rattle.command_line.proofs.Added.{next_row, with_rows}
use Rattle.command_line.proofs.alpaca_command.Goals as goal

pub loop-name-init : goal.loop-name-init
unfolding alpaca_app bare_app
loop-name-init c = record {
  app = ap (λ a. with_rows a c.as_slice-name-items.result.now) c.bare_command-command.ensures.app ∙ ap (with_rows bare_app) c.as_slice-name-items.ensures;
  globals = c.bare_command-command.ensures.globals;
}

pub loop-name-preserved : goal.loop-name-preserved
loop-name-preserved c = record {
  app = ap (λ a. with_rows a (drop (c.loop-name.name-index + 1) c.as_slice-name-items.result.now)) c.in_ok-command.ensures.app
      ∙ sym (next_row _ c.as_slice-name-items.result.now c.loop-name.name-index _ c.loop-name-test.true) ∙ c.loop-name.invariant.app;
  globals = c.in_ok-command.ensures.globals;
}
