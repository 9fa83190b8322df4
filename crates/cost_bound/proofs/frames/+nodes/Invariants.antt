use Rattle.std.proofs.Common.{◌≡◌, [], drop, map, Option}
use Rattle.task_ast.specs.Tree.{choice_of}
use Rattle.task_ast.specs.Paths.{CheckedBlock}
use Rattle.task_ast.specs.View.{tested_of, block_view}
use Rattle.cost_bound.specs.Table.{capped}
use Rattle.cost_bound.specs.Frames.{block_nodes, choice_nodes}
use Rattle.cost_bound.proofs.frames.+nodes.Given as goal

abbrev pub invariant-block_nodes-loop-i : goal.invariant-block_nodes-loop-i
invariant-block_nodes-loop-i l = l.n ≡ capped (block_nodes (block_view (drop l.i l.body)))

abbrev pub invariant-choice_nodes-loop-i : goal.invariant-choice_nodes-loop-i
invariant-choice_nodes-loop-i l = (b : Option CheckedBlock) → l.fn.last ≡ capped (choice_nodes (choice_of [] b))
    → l.n ≡ capped (choice_nodes (choice_of (map tested_of (drop l.i l.arms)) b))
