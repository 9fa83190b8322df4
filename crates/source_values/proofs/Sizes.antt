-- How large trees are. A part is smaller than its tree, and a function with all in front of it is smaller than those that it stands among.
use Rattle.std.proofs.Common.{◌≤◌, ◌<◌, ◌+◌, ℕ, zero, suc, [], ◌∷◌, Some, None, length, take, get_or, arith}
use Rattle.task_ast.specs.Tree as t
use Rattle.task_ast.specs.Tree.{choice_of, Tested}
use Rattle.task_ast.specs.Paths.{CheckedExpression, CheckedValues, CheckedStatement, CheckedChoice, CheckedBlock}
use Rattle.task_ast.specs.View.{block_view}
use Rattle.task_ast.specs.declared.FunctionDeclaration.{FunctionDeclaration}
use Rattle.task_ast.specs.declared.names.VariableName.{VariableName}
use Rattle.task_ast.specs.declared.names.TaskName.{TaskName}
use Rattle.task_ast.specs.declared.names.FunctionName.{FunctionName}
use Rattle.source_values.specs.View.{FunctionsInFront}

abbrev mutual
  pub expression_size : CheckedExpression → ℕ
  expression_size (t.number n) = 1
  expression_size (t.long_number n) = 1
  expression_size (t.name x) = 1
  expression_size (t.element x index) = 1 + expression_size index
  expression_size t.sense = 1
  expression_size t.next_event = 1
  expression_size (t.call f values) = 2 + values_size values
  expression_size (t.unary op e) = 1 + expression_size e
  expression_size (t.binary op a b) = 1 + (expression_size a + expression_size b)
  expression_size (t.shift op e count) = 1 + expression_size e
  expression_size (t.short_circuit op a b) = 1 + (expression_size a + expression_size b)

  pub values_size : CheckedValues → ℕ
  values_size t.no_value = 0
  values_size (t.value e more) = 1 + (expression_size e + values_size more)

abbrev mutual
  pub statement_size : CheckedStatement → ℕ
  statement_size (t.declare of x None) = 1
  statement_size (t.declare of x (Some e)) = 1 + expression_size e
  statement_size (t.assign x e) = 1 + expression_size e
  statement_size (t.store x index e) = 1 + (expression_size index + expression_size e)
  statement_size (t.choose c) = 1 + choice_size c
  statement_size (t.loop x from tested below stepped body) = 1 + block_size body
  statement_size (t.emit e) = 1 + expression_size e
  statement_size (t.give at e) = 1 + expression_size e
  statement_size (t.transition at task) = 1

  pub choice_size : CheckedChoice → ℕ
  choice_size t.nothing = 0
  choice_size (t.otherwise b) = 1 + block_size b
  choice_size (t.test c b more) = 1 + (expression_size c + (block_size b + choice_size more))

  pub block_size : CheckedBlock → ℕ
  block_size t.end = 0
  block_size (t.step s more) = 1 + (statement_size s + block_size more)

-- the bodies of functions
abbrev pub functions_size : FunctionsInFront → ℕ
functions_size [] = 0
functions_size (f ∷ more) = 1 + (block_size (block_view f.body.items) + functions_size more)

-- the body of a function with all in front of it
pub function_falls : (fs : FunctionsInFront) (k : ℕ) (f : FunctionDeclaration VariableName TaskName FunctionName) → k < length fs
    → 1 + (functions_size (take k fs) + block_size (block_view (get_or fs k f).body.items)) ≤ functions_size fs
function_falls [] k f h = absurd (omega arith)
function_falls (g ∷ fs) zero f h = omega arith
function_falls (g ∷ fs) (suc k) f h = omega (arith, function_falls fs k f (omega arith))
