-- Rows of the definitions.
use Rattle.std.proofs.Common.{refl}
use Rattle.std.specs.Fmt.{digits}
use Rattle.source_generator.specs.Draws.{draws, behind}
use Rattle.source_generator.specs.Source.{letter_text, statement_text, task_end}
use Rattle.source_generator.specs.Laws.{RowsOfZero, StatementRows}

pub rows_of_zero : RowsOfZero
unfolding draws behind letter_text statement_text digits
rows_of_zero = record { values = refl; first = refl; second = refl }

pub statement_rows : StatementRows
unfolding letter_text statement_text task_end digits
statement_rows = record { sum = refl; store = refl; load = refl; choice = refl; update = refl; product = refl; circle = refl }
