use Rattle.std.proofs.Common.{◌≡◌, drop, map}
use Rattle.task_ast.specs.View.{function_of}
use Rattle.task_check.specs.Placed.{functions_stand}
use Rattle.task_check.proofs.placed.functions_stand.Given as goal

abbrev pub invariant-loop-i : goal.invariant-loop-i
invariant-loop-i l = l.all ≡ functions_stand l.i (map function_of (drop l.i l.functions))
