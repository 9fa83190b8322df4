-- The words of stack that tasks and functions need.
use Rattle.std.specs.Prelude.{ℕ, ◌+◌, ◌*◌, max, List, [], Some, None}
use Rattle.task_ast.specs.Paths.{CheckedExpression, CheckedStatement, CheckedChoice, CheckedBlock}
use Rattle.task_ast.specs.Tree.{declare, assign, store, choose, loop, emit, give, transition, nothing, otherwise, test, end, step}
use Rattle.cost_bound.specs.Summary.{Summary}
use Rattle.cost_bound.specs.Table.{nodes_column, expression_price}
use Rattle.cost_bound.specs.Counts.{block_calls, most_called_from}

-- the nodes of an expression
abbrev pub expression_nodes : CheckedExpression → ℕ
expression_nodes e = expression_price [] nodes_column e

abbrev mutual
  -- the nodes of the largest statement: of an `if` the largest condition counts alone, and each statement of its blocks by itself
  pub statement_nodes : CheckedStatement → ℕ
  statement_nodes (declare _ _ None) = 0
  statement_nodes (declare _ _ (Some e)) = expression_nodes e
  statement_nodes (assign _ e) = expression_nodes e
  statement_nodes (store _ i e) = expression_nodes i + expression_nodes e
  statement_nodes (choose choice) = choice_nodes choice
  statement_nodes (loop _ _ _ _ _ body) = block_nodes body
  statement_nodes (emit e) = expression_nodes e
  statement_nodes (give _ e) = expression_nodes e
  statement_nodes (transition _ _) = 0

  pub choice_nodes : CheckedChoice → ℕ
  choice_nodes nothing = 0
  choice_nodes (otherwise block) = block_nodes block
  choice_nodes (test condition block more) = max (expression_nodes condition) (max (block_nodes block) (choice_nodes more))

  pub block_nodes : CheckedBlock → ℕ
  block_nodes end = 0
  block_nodes (step s more) = max (statement_nodes s) (block_nodes more)

abbrev mutual
  -- the locals that are declared
  pub statement_locals : CheckedStatement → ℕ
  statement_locals (declare _ _ _) = 1
  statement_locals (choose choice) = choice_locals choice
  statement_locals (loop _ _ _ _ _ body) = block_locals body
  statement_locals (assign _ _) = 0
  statement_locals (store _ _ _) = 0
  statement_locals (emit _) = 0
  statement_locals (give _ _) = 0
  statement_locals (transition _ _) = 0

  pub choice_locals : CheckedChoice → ℕ
  choice_locals nothing = 0
  choice_locals (otherwise block) = block_locals block
  choice_locals (test _ block more) = block_locals block + choice_locals more

  pub block_locals : CheckedBlock → ℕ
  block_locals end = 0
  block_locals (step s more) = statement_locals s + block_locals more

-- the frame of a task, or of a function with so many parameters, in words
abbrev pub frame_of : ℕ → CheckedBlock → ℕ
frame_of parameters b = parameters + block_locals b + 2 * block_nodes b + 4

-- the greatest chain of frames of the functions that a text calls
abbrev pub deepest : List Summary → CheckedBlock → ℕ
deepest known b = most_called_from (λ k. block_calls k b) (λ s. s.depth) 0 known

-- the stack of a task, in words: its frame, the chains of its calls, and 16 for what comes between
abbrev pub stack_of : List Summary → CheckedBlock → ℕ
stack_of known b = frame_of 0 b + deepest known b + 16
