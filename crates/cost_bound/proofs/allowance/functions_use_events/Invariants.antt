use Rattle.std.proofs.Common.{◌≡◌, drop, map}
use Rattle.task_ast.specs.View.{function_of}
use Rattle.cost_bound.specs.Allowance.{functions_use_events}
use Rattle.cost_bound.proofs.allowance.functions_use_events.Given as goal

abbrev pub invariant-loop-i : goal.invariant-loop-i
invariant-loop-i l = l.used ≡ functions_use_events (map function_of (drop l.i l.functions))
