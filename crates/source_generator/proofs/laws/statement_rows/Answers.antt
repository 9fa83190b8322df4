use Rattle.source_generator.proofs.Rows.{statement_rows}
use Rattle.source_generator.proofs.laws.statement_rows.Goals as goal

pub returns : goal.returns
returns c = statement_rows
