use Rattle.std.proofs.Common.{◌≡◌, drop, map, Option, []}
use Rattle.task_ast.specs.View.{tested_of, block_view}
use Rattle.task_ast.specs.Tree.{choice_of}
use Rattle.task_ast.specs.Paths.{CheckedBlock}
use Rattle.path_sums.specs.Sums.{choice_sum, block_sum}
use Rattle.path_sums.specs.Access.{summary}
use Rattle.path_sums.proofs.access.+access.Given as goal

abbrev pub invariant-of_arms-loop-i : goal.invariant-of_arms-loop-i
invariant-of_arms-loop-i l = (last : Option CheckedBlock) → l.fn.in_last ≡ choice_sum l.known (summary l.v) (choice_of [] last) →
    l.sum ≡ choice_sum l.known (summary l.v) (choice_of (map tested_of (drop l.i l.arms)) last)

abbrev pub invariant-access_summary-loop-i : goal.invariant-access_summary-loop-i
invariant-access_summary-loop-i l = l.sum ≡ block_sum l.known (summary l.v) (block_view (drop l.i l.body))
