-- Which functions may end without a return, and which tasks without a transition.
use Rattle.std.specs.Prelude.{◌≡◌, List}
use Rattle.alp_text.specs.declared.lines.Span.{Span}
use Rattle.task_ast.specs.Paths.{CheckedBlock}
use Rattle.path_sums.specs.Reaches.{ReachesEnd}
use Rattle.path_checks.specs.Firsts.{CheckedProgram, CheckedFunction, SomeFunction, SomeTask}

-- some path of the body of a function or a task with this name reaches its end, and the name stands at the place
abbrev pub OpenAt : List CheckedFunction → Span → CheckedBlock → Span → Type 0
OpenAt functions name body s = (name ≡ s) × ReachesEnd functions body

abbrev pub NoReturnAt : CheckedProgram → Span → Type 0
NoReturnAt program s = SomeFunction program.functions (λ f. OpenAt program.functions f.name f.body s)

abbrev pub NoTransitionAt : CheckedProgram → Span → Type 0
NoTransitionAt program s = SomeTask program.tasks (λ task. OpenAt program.functions task.name task.body s)
