use Rattle.std.proofs.Common.{◌≡◌, drop, map, Option, []}
use Rattle.task_ast.specs.View.{tested_of, block_view}
use Rattle.task_ast.specs.Tree.{choice_of}
use Rattle.task_ast.specs.Paths.{CheckedBlock}
use Rattle.path_sums.specs.Reaches.{choice_falls_through, block_falls_through}
use Rattle.path_sums.proofs.reaches.+flow.Given as goal

abbrev pub invariant-arms_fall_through-loop-i : goal.invariant-arms_fall_through-loop-i
invariant-arms_fall_through-loop-i l = (last : Option CheckedBlock) → l.fn.in_last ≡ choice_falls_through (choice_of [] last) →
    l.some ≡ choice_falls_through (choice_of (map tested_of (drop l.i l.arms)) last)

abbrev pub invariant-falls_through-loop-i : goal.invariant-falls_through-loop-i
invariant-falls_through-loop-i l = l.every ≡ block_falls_through (block_view (drop l.i l.body))
