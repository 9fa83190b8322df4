use Rattle.std.proofs.Common.{◌≡◌, drop, map}
use Rattle.task_ast.specs.View.{function_of}
use Rattle.condition_lines.specs.Behind.{functions_behind}
use Rattle.condition_lines.proofs.behind.behind_functions.Given as goal

abbrev pub invariant-loop-function : goal.invariant-loop-function
invariant-loop-function l =
    functions_behind l.left (map function_of (drop l.function-index l.functions)) ≡ functions_behind l.lines (map function_of l.functions)
