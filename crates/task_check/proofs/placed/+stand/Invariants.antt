use Rattle.std.proofs.Common.{◌≡◌, drop, map, Option, []}
use Rattle.task_ast.specs.View.{tested_of, block_view}
use Rattle.task_ast.specs.Tree.{choice_of}
use Rattle.task_ast.specs.Paths.{CheckedBlock}
use Rattle.task_check.specs.Placed.{choice_stands, block_stands}
use Rattle.task_check.proofs.placed.+stand.Given as goal

abbrev pub invariant-arms_stand-loop-i : goal.invariant-arms_stand-loop-i
invariant-arms_stand-loop-i l = (last : Option CheckedBlock) → l.fn.in_last ≡ choice_stands l.known l.in_task (choice_of [] last) →
    l.all ≡ choice_stands l.known l.in_task (choice_of (map tested_of (drop l.i l.arms)) last)

abbrev pub invariant-block_stands-loop-i : goal.invariant-block_stands-loop-i
invariant-block_stands-loop-i l = l.all ≡ block_stands l.known l.in_task (block_view (drop l.i l.body))
