use Rattle.std.proofs.Common.{take, map}
use Rattle.std.specs.Prelude.{All}
use Rattle.task_ast.specs.View.{task_of}
use Rattle.cost_bound.specs.Machine.{known_of}
use Rattle.cost_bound.specs.Allowance.{FewEmits}
use Rattle.cost_bound.proofs.allowance.first_over.Given as goal

abbrev pub invariant-loop-i : goal.invariant-loop-i
invariant-loop-i l = All (FewEmits (known_of l.functions)) (take l.i (map task_of l.tasks))
