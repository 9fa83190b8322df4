use Rattle.std.proofs.Common.{◌≡◌, None, drop}
use Rattle.task_ast.specs.View.{block_view, choice_view}
use Rattle.condition_lines.specs.Behind.{block_behind, choice_behind}
use Rattle.condition_lines.proofs.behind.+behind.Given as goal

abbrev pub invariant-behind_arms-loop-arm : goal.invariant-behind_arms-loop-arm
invariant-behind_arms-loop-arm l =
    choice_behind l.left (choice_view (drop l.arm-index l.arms) None) ≡ choice_behind l.lines (choice_view l.arms None)

abbrev pub invariant-behind_block-loop-statement : goal.invariant-behind_block-loop-statement
invariant-behind_block-loop-statement l = block_behind l.left (block_view (drop l.statement-index l.body)) ≡ block_behind l.lines (block_view l.body)
