use Rattle.std.proofs.Common.{◌≡◌, drop, map, Option, []}
use Rattle.task_ast.specs.View.{tested_of, block_view}
use Rattle.task_ast.specs.Tree.{choice_of}
use Rattle.task_ast.specs.Paths.{CheckedBlock}
use Rattle.path_checks.specs.Loops.{choice_assigns, block_assigns}
use Rattle.path_checks.proofs.loops.+assigns.Given as goal

abbrev pub invariant-arms_assign-loop-i : goal.invariant-arms_assign-loop-i
invariant-arms_assign-loop-i l = (last : Option CheckedBlock) → l.fn.in_last ≡ choice_assigns l.variable (choice_of [] last) →
    l.found ≡ choice_assigns l.variable (choice_of (map tested_of (drop l.i l.arms)) last)

abbrev pub invariant-block_assigns-loop-i : goal.invariant-block_assigns-loop-i
invariant-block_assigns-loop-i l = l.found ≡ block_assigns l.variable (block_view (drop l.i l.body))
