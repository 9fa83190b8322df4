use Rattle.std.proofs.Common.{ℕ, ◌<◌}
use Rattle.fram_state.specs.Migrated.{IsUnsettled}
use Rattle.fram_state.specs.Editions.{edition_of}
use Rattle.fram_state.proofs.migration.first_unsettled.Given as goal

abbrev pub invariant-loop-i : goal.invariant-loop-i
invariant-loop-i l = (k : ℕ) → k < l.i → IsUnsettled (edition_of l.old) (edition_of l.new) l.task k → ⊥
