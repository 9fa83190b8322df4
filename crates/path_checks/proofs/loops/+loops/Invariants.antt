use Rattle.std.proofs.Common.{◌≡◌, drop, map, Option, []}
use Rattle.task_ast.specs.View.{tested_of, block_view}
use Rattle.task_ast.specs.Tree.{choice_of}
use Rattle.task_ast.specs.Paths.{CheckedBlock}
use Rattle.path_checks.specs.FirstLoops.{bad_in_choice, bad_in_block}
use Rattle.path_checks.proofs.loops.+loops.Given as goal

abbrev pub invariant-bad_in_arms-loop-i : goal.invariant-bad_in_arms-loop-i
invariant-bad_in_arms-loop-i l = (last : Option CheckedBlock) → l.fn.in_last ≡ bad_in_choice (choice_of [] last) →
    l.first ≡ bad_in_choice (choice_of (map tested_of (drop l.i l.arms)) last)

abbrev pub invariant-bad_in_block-loop-i : goal.invariant-bad_in_block-loop-i
invariant-bad_in_block-loop-i l = l.first ≡ bad_in_block (block_view (drop l.i l.body))
