-- How many readings a task's text takes at most in an attempt, by how many each function does: one for each `sense()`, of an `if` its conditions and its
-- greatest block, of a loop its turns times its body. `&&` and `||` are counted with both sides.
use Rattle.std.specs.Prelude.{ℕ, ◌+◌, ◌-◌, ◌*◌, max, List, Option, Some, None, slice_index}
use Rattle.task_ast.specs.Answers.{answers}
use Rattle.task_ast.specs.Paths.{CheckedExpression, CheckedValues, CheckedStatement, CheckedChoice, CheckedBlock, CheckedFunction, CheckedProgram}
use Rattle.task_ast.specs.Tree.{number, long_number, name, element, sense, next_event, call, unary, binary, shift, short_circuit, no_value}
use Rattle.task_ast.specs.Tree.{declare, assign, store, choose, loop, emit, give, transition, nothing, otherwise, test, end, step}
use Rattle.task_ast.specs.Tree as t

abbrev mutual
  -- of an expression
  pub expression_readings : List ℕ → CheckedExpression → ℕ
  expression_readings counts (number n) = 0
  expression_readings counts (long_number n) = 0
  expression_readings counts (name x) = 0
  expression_readings counts (element x index) = expression_readings counts index
  expression_readings counts sense = 1
  expression_readings counts next_event = 0
  expression_readings counts (call f values) = values_readings counts values + slice_index counts f.function
  expression_readings counts (unary op e) = expression_readings counts e
  expression_readings counts (binary op a b) = expression_readings counts a + expression_readings counts b
  expression_readings counts (shift op e count) = expression_readings counts e
  expression_readings counts (short_circuit op a b) = expression_readings counts a + expression_readings counts b

  -- of the values of a call
  pub values_readings : List ℕ → CheckedValues → ℕ
  values_readings counts no_value = 0
  values_readings counts (t.value e more) = expression_readings counts e + values_readings counts more

-- of the value of a declaration, if it has one
abbrev pub value_readings : List ℕ → Option CheckedExpression → ℕ
value_readings counts None = 0
value_readings counts (Some e) = expression_readings counts e

abbrev mutual
  pub statement_readings : List ℕ → CheckedStatement → ℕ
  statement_readings counts (declare of x e) = value_readings counts e
  statement_readings counts (assign x e) = expression_readings counts e
  statement_readings counts (store x index e) = expression_readings counts index + expression_readings counts e
  statement_readings counts (choose choice) = choice_readings counts choice
  statement_readings counts (loop x from tested below stepped body) = (below - from) * block_readings counts body
  statement_readings counts (emit e) = expression_readings counts e
  statement_readings counts (give at e) = expression_readings counts e
  statement_readings counts (transition at t) = 0

  pub choice_readings : List ℕ → CheckedChoice → ℕ
  choice_readings counts nothing = 0
  choice_readings counts (otherwise block) = block_readings counts block
  choice_readings counts (test condition block more) =
      expression_readings counts condition + max (block_readings counts block) (choice_readings counts more)

  -- of the statements of a task or a function
  pub block_readings : List ℕ → CheckedBlock → ℕ
  block_readings counts end = 0
  block_readings counts (step statement more) = statement_readings counts statement + block_readings counts more

-- of a function, by those in front of it
abbrev pub function_readings : List ℕ → CheckedFunction → ℕ
function_readings counts f = block_readings counts f.body

-- of each function of a source, in the order of the text
abbrev pub reading_counts : CheckedProgram → List ℕ
reading_counts p = answers function_readings p.functions
