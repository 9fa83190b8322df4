use Rattle.std.proofs.Common.{◌≡◌, ◌≤◌, ◌+◌, ◌-◌, ◌*◌, Option, None, length, map, drop}
use Rattle.task_ast.specs.Paths.{CheckedBlock}
use Rattle.task_ast.specs.Tree.{choice_of}
use Rattle.task_ast.specs.View.{expression_of, values_of, statement_of, tested_of, block_view}
use Rattle.source_values.specs.Statements.{run_choice, run_block, turns, conditions_emit, block_emits}
use Rattle.source_values.specs.View.{attempt_in, meanings_of, counts_of}
use Rattle.source_values.proofs.Sizes.{functions_size, expression_size, values_size, statement_size, choice_size, block_size}
use Rattle.source_values.proofs.statements.+run.Given as goal

abbrev pub decreases-evaluate : goal.decreases-evaluate
decreases-evaluate l = functions_size l.functions.now + expression_size (expression_of l.e.now)

abbrev pub decreases-call : goal.decreases-call
decreases-call l = functions_size l.functions.now + (1 + values_size (values_of l.values.now))

abbrev pub decreases-words : goal.decreases-words
decreases-words l = functions_size l.functions.now + values_size (values_of l.values.now)

abbrev pub decreases-run_function : goal.decreases-run_function
decreases-run_function l = functions_size l.functions.now

abbrev pub decreases-run_statement : goal.decreases-run_statement
decreases-run_statement l = functions_size l.functions.now + statement_size (statement_of l.statement.now)

abbrev pub decreases-run_arms : goal.decreases-run_arms
decreases-run_arms l = functions_size l.functions.now + choice_size (choice_of (map tested_of l.arms.now) None)

abbrev pub decreases-run_block : goal.decreases-run_block
decreases-run_block l = functions_size l.functions.now + block_size (block_view l.body.now)

abbrev pub invariant-run_arms-loop-arm : goal.invariant-run_arms-loop-arm
invariant-run_arms-loop-arm l = record {
  rest : (last : Option CheckedBlock)
      → run_choice (meanings_of l.functions) (choice_of (map tested_of (drop l.arm-index l.arms)) last) (attempt_in l.scratch l.left)
      ≡ run_choice (meanings_of l.functions) (choice_of (map tested_of l.arms) last) (attempt_in l.fn.scratch l.fn.readings);
  emits : length l.scratch.emitted.items + conditions_emit (counts_of l.functions) (choice_of (map tested_of (drop l.arm-index l.arms)) None)
      ≤ length l.fn.scratch.emitted.items + conditions_emit (counts_of l.functions) (choice_of (map tested_of l.arms) None);
  same_base : l.scratch.shared.base ≡ l.fn.scratch.shared.base;
}

abbrev pub invariant-run_block-loop-statement : goal.invariant-run_block-loop-statement
invariant-run_block-loop-statement l = record {
  rest : run_block (meanings_of l.functions) (block_view (drop l.statement-index l.body)) (attempt_in l.scratch l.left)
      ≡ run_block (meanings_of l.functions) (block_view l.body) (attempt_in l.fn.scratch l.fn.readings);
  emits : length l.scratch.emitted.items + block_emits (counts_of l.functions) (block_view (drop l.statement-index l.body))
      ≤ length l.fn.scratch.emitted.items + block_emits (counts_of l.functions) (block_view l.body);
  same_base : l.scratch.shared.base ≡ l.fn.scratch.shared.base;
}

abbrev pub invariant-run_statement-loop-k : goal.invariant-run_statement-loop-k
invariant-run_statement-loop-k l = record {
  rest : turns (l.k-end - l.k) l.k l.variable.variable (run_block (meanings_of l.functions) (block_view l.body.items)) (attempt_in l.scratch l.left)
      ≡ turns (l.k-end - l.initial.k) l.initial.k l.variable.variable (run_block (meanings_of l.functions) (block_view l.body.items))
      (attempt_in l.fn.scratch l.fn.readings);
  emits : length l.scratch.emitted.items + (l.k-end - l.k) * block_emits (counts_of l.functions) (block_view l.body.items)
      ≤ length l.fn.scratch.emitted.items + (l.k-end - l.initial.k) * block_emits (counts_of l.functions) (block_view l.body.items);
  bound : l.k ≤ l.initial.k + (l.k-end - l.initial.k);
  same_base : l.scratch.shared.base ≡ l.fn.scratch.shared.base;
}
