use Rattle.task_lex.proofs.Rows.{numeral_rows}
use Rattle.task_lex.proofs.laws.numerals.Goals as goal

pub returns : goal.returns
returns c = numeral_rows
