use Rattle.std.proofs.Common.{◌≡◌, ◌++◌, drop, map}
use Rattle.task_ast.specs.View.{function_of, task_of}
use Rattle.array_versions.specs.View.{programs_of}
use Rattle.lower.specs.Lowered.{bare_tasks}
use Rattle.lower.proofs.lowering.lower.Given as goal

abbrev pub invariant-loop-i : goal.invariant-loop-i
invariant-loop-i l = map programs_of l.programs.items ++ bare_tasks (map function_of l.functions) l.layout (map task_of (drop l.i l.tasks)) (drop l.i l.layouts)
    ≡ bare_tasks (map function_of l.functions) l.layout (map task_of l.tasks) l.layouts
