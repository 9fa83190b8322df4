-- That a source can be run has one proof at most, so a struct may keep it.
use Rattle.std.specs.Prelude.{ℕ}
use denote.Struct.Props as logic
use Rattle.source_values.specs.Statements.{Outcome, goes_on, to_task, returns, short}
use Rattle.source_values.specs.Runs.{CheckedProgram, EndsWell, EndsReturning}
use Rattle.source_values.specs.Running.{IsRunnable}

-- an outcome of a task ends well in one way at most
EndsWell-prop : (tasks : ℕ) (o : Outcome) → IsProp (EndsWell tasks o)
EndsWell-prop tasks (goes_on s) = Prim.hlevel logic.props
EndsWell-prop tasks (to_task t s) = Prim.hlevel logic.props
EndsWell-prop tasks (returns w s) = Prim.hlevel logic.props
EndsWell-prop tasks short = Prim.hlevel logic.props

-- and so does a function's
EndsReturning-prop : (o : Outcome) → IsProp (EndsReturning o)
EndsReturning-prop (goes_on s) = Prim.hlevel logic.props
EndsReturning-prop (to_task t s) = Prim.hlevel logic.props
EndsReturning-prop (returns w s) = Prim.hlevel logic.props
EndsReturning-prop short = Prim.hlevel logic.props

-- and a source can be run in one way at most
pub IsRunnable-prop : (program : CheckedProgram) → IsProp (IsRunnable program)
IsRunnable-prop program = Prim.hlevel (logic.props, EndsWell-prop, EndsReturning-prop)
