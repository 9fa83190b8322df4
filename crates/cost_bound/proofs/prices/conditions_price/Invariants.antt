use Rattle.std.proofs.Common.{◌≡◌, drop, map, Option}
use Rattle.task_ast.specs.Tree.{choice_of}
use Rattle.task_ast.specs.Paths.{CheckedBlock}
use Rattle.task_ast.specs.View.{tested_of}
use Rattle.cost_bound.specs.Machine.{known_of}
use Rattle.cost_bound.specs.Table.{capped, conditions_price}
use Rattle.cost_bound.proofs.prices.conditions_price.Given as goal

abbrev pub invariant-loop-i : goal.invariant-loop-i
invariant-loop-i l = (last : Option CheckedBlock) → l.n
    ≡ capped (conditions_price (known_of l.functions) l.column (choice_of (map tested_of (drop l.i l.arms)) last))
