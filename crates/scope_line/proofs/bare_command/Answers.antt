use Rattle.std.proofs.Common.{ap, ◌∙◌}
use Rattle.std.specs.Prelude.{codes, true}
use Rattle.clap.specs.Simple.{app_of_fields, new_shape}
use Rattle.clap.specs.declared.builder.command.Command.{Command}
use Rattle.clap.specs.declared.builder.command.Command.TheOpen.{Command-F}
use Rattle.clap.specs.Words.{App, app_of}
use Rattle.scope_line.specs.ScopeLine.{bare_scope}
use Rattle.scope_line.proofs.bare_command.Goals as goal

pub returns : goal.returns
unfolding bare_scope
returns c = record {
  app = ap app_of_fields c.subcommand_required.ensures ∙ ap (λ (a : App). record a { top = record a.top { subcommand_required = true } })
      (ap app_of_fields c.disable_help_subcommand.ensures ∙ ap (λ (a : App). record a { top = record a.top { disable_help_subcommand = true } })
      (ap app_of_fields c.disable_help_flag.ensures ∙ ap (λ (a : App). record a { top = record a.top { disable_help_flag = true } })
      (ap app_of_fields c.no_binary_name.ensures ∙ ap (λ (a : App). record a { top = record a.top { no_binary_name = true } }) c.new.ensures.app)));
  globals = ap (λ (f : Command-F Command). f.has_globals) c.subcommand_required.ensures
      ∙ ap (λ (f : Command-F Command). f.has_globals) c.disable_help_subcommand.ensures
      ∙ ap (λ (f : Command-F Command). f.has_globals) c.disable_help_flag.ensures
      ∙ ap (λ (f : Command-F Command). f.has_globals) c.no_binary_name.ensures ∙ c.new.ensures.local;
}
