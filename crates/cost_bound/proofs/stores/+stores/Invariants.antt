use Rattle.std.proofs.Common.{[], drop, map, Option}
use Rattle.task_ast.specs.Tree.{choice_of}
use Rattle.task_ast.specs.Paths.{CheckedBlock}
use Rattle.task_ast.specs.View.{tested_of, block_view}
use Rattle.cost_bound.specs.Machine.{known_of}
use Rattle.cost_bound.specs.Counts.{is_store_to, called_stores, choice_count, block_count}
use Rattle.cost_bound.specs.Rooms.{AreCapped}
use Rattle.cost_bound.proofs.stores.+stores.Given as goal

abbrev pub invariant-store_counts-loop-i : goal.invariant-store_counts-loop-i
invariant-store_counts-loop-i l = AreCapped l.counts (λ k. block_count (called_stores (known_of l.functions) k) (is_store_to k) (block_view (drop l.i l.body)))

abbrev pub invariant-count_in_choice-loop-i : goal.invariant-count_in_choice-loop-i
invariant-count_in_choice-loop-i l = (b : Option CheckedBlock)
    → AreCapped l.fn.last (λ k. choice_count (called_stores (known_of l.functions) k) (is_store_to k) (choice_of [] b))
    → AreCapped l.greatest (λ k. choice_count (called_stores (known_of l.functions) k) (is_store_to k) (choice_of (map tested_of (drop l.i l.arms)) b))
