use Rattle.command_answers.proofs.NameLaws.{plain_name, same_name}
use Rattle.command_answers.proofs.laws.names_are_told_plainly.Goals as goal

pub returns : goal.returns
returns c = record { plain = plain_name c.args.name.now; same = same_name c.args.name.now }
