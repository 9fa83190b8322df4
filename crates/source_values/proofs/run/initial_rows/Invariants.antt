use Rattle.std.proofs.Common.{◌≡◌, map, take}
use Rattle.source_values.specs.Runs.{initial_words}
use Rattle.source_values.specs.View.{rows_of}
use Rattle.source_values.proofs.run.initial_rows.Given as goal

abbrev pub invariant-loop-d : goal.invariant-loop-d
invariant-loop-d l = rows_of l.rows.items ≡ map (λ d. initial_words d.extent) (take l.d-index l.shared)
