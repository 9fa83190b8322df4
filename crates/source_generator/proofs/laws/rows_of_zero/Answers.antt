use Rattle.source_generator.proofs.Rows.{rows_of_zero}
use Rattle.source_generator.proofs.laws.rows_of_zero.Goals as goal

pub returns : goal.returns
returns c = rows_of_zero
