use Rattle.std.proofs.Common.{[], drop}
use Rattle.task_ast.specs.View.{block_view}
use Rattle.path_sums.specs.Sums.{block_sum}
use Rattle.path_checks.specs.Assignments.{assignment}
use Rattle.path_checks.specs.declared.walk.Walk.{Walk}
use Rattle.path_checks.specs.Walks.{Does}
use Rattle.path_checks.proofs.Choices.{Passed}
use Rattle.path_checks.proofs.unassigned.+walk.Given as goal

abbrev pub invariant-walk_arms-loop-arm : goal.invariant-walk_arms-loop-arm
invariant-walk_arms-loop-arm l = Passed l.fn.walk l.walk l.ends l.arms l.arm-index

-- what the rest of the block does then, the whole of it does from the start on
abbrev pub invariant-walk_block-loop-statement : goal.invariant-walk_block-loop-statement
invariant-walk_block-loop-statement l = (end : Walk)
    → Does l.walk end (λ x p. block_sum [] (assignment x p) (block_view (drop l.statement-index l.body)))
    → Does l.fn.walk end (λ x p. block_sum [] (assignment x p) (block_view l.body))
