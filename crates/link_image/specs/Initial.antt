-- The initial words of shared scalars.
use Rattle.std.specs.Prelude.{ℕ, ◌+◌, ◌/◌, ◌%◌, ◌==◌, if◌then◌else◌}
use Rattle.task_ast.specs.declared.Extent.{Extent}
use Rattle.task_ast.specs.declared.Extent.TheVariants as extent
use Rattle.memory_map.specs.declared.place.VariablePlace.{VariablePlace}
use Rattle.memory_map.specs.declared.place.VariablePlace.TheVariants.{Scalar, Array}

-- the word at an address where the initial words of a variable are put: a scalar's at its home, the low one of a long first
abbrev pub initial_put : Extent → VariablePlace → ℕ → ℕ → ℕ
initial_put (extent.Scalar w) (Scalar home copy width) a old = if a == home then w else old
initial_put (extent.Long n) (Scalar home copy width) a old = if a == home + 2 then n / 65536 else if a == home then n % 65536 else old
initial_put (extent.Scalar w) (Array elements n copies) a old = old
initial_put (extent.Long v) (Array elements n copies) a old = old
initial_put (extent.Array n) (Scalar home copy width) a old = old
initial_put (extent.Array n) (Array elements m copies) a old = old
