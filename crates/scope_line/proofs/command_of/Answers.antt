use Rattle.std.proofs.Common.{◌∙◌, ◌∷◌, List, map, string_bytes, IsErrOf, option_map, sym, ap, arith}
use Rattle.clap.specs.Words.{Text, found_of, rows_of}
use Rattle.command_line.proofs.Interface.{are_texts, entered_is, has_met, is_there_by}
use Rattle.scope_line.specs.ScopeLine.{IsScopeLine, plain_line}
use Rattle.scope_line.specs.declared.WordsFault.TheVariants.{Usage}
use Rattle.scope_line.proofs.Commands.{command_is_line, line_found_is}
use Rattle.scope_line.proofs.Lines.{Line, line_reads, line_says}
use Rattle.scope_line.proofs.command_of.Goals as goal

pub returns-in_err-matches-clause-no_command : goal.returns-in_err-matches-clause-no_command
returns-in_err-matches-clause-no_command c =
    let words : List Text = map string_bytes c.args.words.now in
    let usage : IsErrOf c.from_residual.result Usage → IsScopeLine words → ⊥ = grind arith in
    λ e named. usage e (command_is_line words (are_texts c.args.words.now) named)

pub unwrap-requires : goal.unwrap-requires
unwrap-requires c =
    let words : List Text = map string_bytes c.args.words.now in
    let line : Line words = line_reads words (are_texts c.args.words.now) c.in_ok-matches.ensures.line in
    c.subcommand.ensures.variant ∙ has_met c.in_ok-matches.matches _ (c.in_ok-matches.ensures.rows ∙ line.rows)

pub unwrap-requires-2 : goal.unwrap-requires-2
unwrap-requires-2 c =
    let words : List Text = map string_bytes c.args.words.now in
    let line : Line words = line_reads words (are_texts c.args.words.now) c.in_ok-matches.ensures.line in
    let entered = entered_is c.in_ok-matches.matches c.subcommand.result c.unwrap.result c.unwrap.ensures c.subcommand.ensures.name c.subcommand.ensures.rows in
    let found = line_found_is words c.unwrap.result.0.now (rows_of (found_of c.unwrap.result.1.now)) line (sym c.in_ok-matches.ensures.rows ∙ entered) in
    is_there_by plain_line c.command_named.result (line.name ∷ line.files) (c.command_named.ensures ∙ found ∙ line_says words line)

pub returns-clause-command : goal.returns-clause-command
returns-clause-command c =
    let words : List Text = map string_bytes c.args.words.now in
    let line : Line words = line_reads words (are_texts c.args.words.now) c.in_ok-matches.ensures.line in
    let entered = entered_is c.in_ok-matches.matches c.subcommand.result c.unwrap.result c.unwrap.ensures c.subcommand.ensures.name c.subcommand.ensures.rows in
    let found = line_found_is words c.unwrap.result.0.now (rows_of (found_of c.unwrap.result.1.now)) line (sym c.in_ok-matches.ensures.rows ∙ entered) in
    sym found ∙ sym c.command_named.ensures ∙ ap (option_map plain_line) c.unwrap-2.ensures
