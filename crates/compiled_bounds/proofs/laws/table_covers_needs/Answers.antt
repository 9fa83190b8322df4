use Rattle.compiled_bounds.proofs.laws.table_covers_needs.Goals as goal
use Rattle.compiled_bounds.proofs.Needs.{table_covers_needs}

pub returns : goal.returns
returns c = table_covers_needs
