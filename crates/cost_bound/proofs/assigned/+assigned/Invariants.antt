use Rattle.std.proofs.Common.{Bool, List, [], drop, map, Option}
use Rattle.task_ast.specs.Tree.{choice_of}
use Rattle.task_ast.specs.Paths.{CheckedBlock}
use Rattle.task_ast.specs.View.{tested_of, block_view}
use Rattle.cost_bound.specs.Counts.{choice_assigns, block_assigns}
use Rattle.cost_bound.specs.Rooms.{AreMarked}
use Rattle.cost_bound.proofs.assigned.+assigned.Given as goal

abbrev pub invariant-mark_assigned-loop-i : goal.invariant-mark_assigned-loop-i
invariant-mark_assigned-loop-i l = AreMarked l.fn.marks l.marks (λ k. block_assigns k (block_view (drop l.i l.body)))

abbrev pub invariant-mark_arms-loop-i : goal.invariant-mark_arms-loop-i
invariant-mark_arms-loop-i l = (start : List Bool) (last : Option CheckedBlock)
    → AreMarked start l.fn.marks (λ k. choice_assigns k (choice_of [] last))
    → AreMarked start l.marks (λ k. choice_assigns k (choice_of (map tested_of (drop l.i l.arms)) last))
