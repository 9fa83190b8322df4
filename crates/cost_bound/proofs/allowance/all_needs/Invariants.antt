use Rattle.std.proofs.Common.{drop, map}
use Rattle.task_ast.specs.View.{task_of}
use Rattle.cost_bound.specs.Machine.{known_of}
use Rattle.cost_bound.specs.Needs.{AreNeeds}
use Rattle.cost_bound.proofs.allowance.all_needs.Given as goal

abbrev pub invariant-loop-i : goal.invariant-loop-i
invariant-loop-i l = AreNeeds (known_of l.functions) l.events l.versions l.shared (map task_of (drop l.i l.tasks)) l.all
