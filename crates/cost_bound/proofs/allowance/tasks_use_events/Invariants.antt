use Rattle.std.proofs.Common.{◌≡◌, drop, map}
use Rattle.task_ast.specs.View.{task_of}
use Rattle.cost_bound.specs.Allowance.{use_events}
use Rattle.cost_bound.proofs.allowance.tasks_use_events.Given as goal

abbrev pub invariant-loop-i : goal.invariant-loop-i
invariant-loop-i l = l.used ≡ use_events (map task_of (drop l.i l.tasks))
