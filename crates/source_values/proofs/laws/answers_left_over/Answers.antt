use Rattle.source_values.proofs.Completions.{answers_left_over_lem}
use Rattle.source_values.proofs.laws.answers_left_over.Goals as goal

pub returns : goal.returns
returns c = answers_left_over_lem
