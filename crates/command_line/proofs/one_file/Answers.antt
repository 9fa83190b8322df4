use Rattle.std.proofs.Common.{◌∙◌, sym}
use Rattle.clap.specs.Words.{found_of, rows_of}
use Rattle.clap.proofs.WalkLemmas.{first_value-rows}
use Rattle.command_line.proofs.Commands.{one_value}
use Rattle.command_line.proofs.one_file.Goals as goal

pub returns : goal.returns
returns c =
    let found = found_of c.args.files.now in
    one_value c.args.name.now (rows_of found) c.get_str.result (sym (first_value-rows found c.args.name.now) ∙ sym c.get_str.ensures)
