use Rattle.std.proofs.Common.{◌≡◌, [], drop, map, Option}
use Rattle.task_ast.specs.Tree.{choice_of}
use Rattle.task_ast.specs.Paths.{CheckedBlock}
use Rattle.task_ast.specs.View.{tested_of, block_view}
use Rattle.cost_bound.specs.Machine.{known_of}
use Rattle.cost_bound.specs.Table.{capped, blocks_price, block_price}
use Rattle.cost_bound.proofs.prices.+prices.Given as goal

abbrev pub invariant-block_price-loop-i : goal.invariant-block_price-loop-i
invariant-block_price-loop-i l = l.n ≡ capped (block_price (known_of l.functions) l.column (block_view (drop l.i l.body)))

abbrev pub invariant-blocks_price-loop-i : goal.invariant-blocks_price-loop-i
invariant-blocks_price-loop-i l = (b : Option CheckedBlock) → l.fn.last ≡ capped (blocks_price (known_of l.functions) l.column (choice_of [] b))
    → l.n ≡ capped (blocks_price (known_of l.functions) l.column (choice_of (map tested_of (drop l.i l.arms)) b))
