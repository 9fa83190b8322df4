use Rattle.std.proofs.Common.{drop, map, Option}
use Rattle.task_ast.specs.Tree.{choice_of}
use Rattle.task_ast.specs.Paths.{CheckedBlock}
use Rattle.task_ast.specs.View.{tested_of}
use Rattle.cost_bound.specs.Counts.{called_stores, conditions_count}
use Rattle.cost_bound.specs.Rooms.{HaveGrown}
use Rattle.cost_bound.specs.Machine.{known_of}
use Rattle.cost_bound.proofs.stores.count_in_conditions.Given as goal

abbrev pub invariant-loop-i : goal.invariant-loop-i
invariant-loop-i l = (last : Option CheckedBlock) → HaveGrown l.fn.counts l.counts
    (λ k. conditions_count (called_stores (known_of l.functions) k) (choice_of (map tested_of (drop l.i l.arms)) last))
