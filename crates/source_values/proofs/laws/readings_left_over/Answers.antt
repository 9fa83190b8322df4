use Rattle.source_values.proofs.Completions.{readings_left_over_lem}
use Rattle.source_values.proofs.laws.readings_left_over.Goals as goal

pub returns : goal.returns
returns c = readings_left_over_lem
