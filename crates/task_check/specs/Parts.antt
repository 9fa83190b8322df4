-- The parts of a looked-up source as lists.
use Rattle.std.specs.Prelude.{ℕ, List, [], ◌∷◌}
use Rattle.alp_text.specs.declared.lines.Span.{Span}
use Rattle.task_ast.specs.declared.names.VariableName.{VariableName}
use Rattle.task_ast.specs.declared.names.TaskName.{TaskName}
use Rattle.task_ast.specs.declared.names.FunctionName.{FunctionName}
use Rattle.task_ast.specs.Tree.{Tested}
use Rattle.task_ast.specs.Paths.{CheckedStatement}
use Rattle.task_check.specs.declared.symbol.TypedVariable.{TypedVariable}
use Rattle.task_check.specs.declared.symbol.TypedFunction.{TypedFunction}
use Rattle.task_check.specs.LookedUp.{expression_back, block_back, expression_variables, statement_variables, block_variables, statement_targets, block_targets}
use Rattle.task_check.specs.LookedUp.{expression_calls, statement_calls, block_calls}

-- a condition and its block with the names' places put back
abbrev pub tested_back : Tested VariableName TaskName FunctionName → Tested Span Span Span
tested_back t = record { condition = expression_back t.condition; block = block_back t.block }

-- the variables of statements, in front of some more
abbrev pub list_variables : List CheckedStatement → List TypedVariable → List TypedVariable
list_variables [] more = more
list_variables (s ∷ others) more = statement_variables s (list_variables others more)

-- their tasks
abbrev pub list_targets : List CheckedStatement → List ℕ → List ℕ
list_targets [] more = more
list_targets (s ∷ others) more = statement_targets s (list_targets others more)

-- their functions
abbrev pub list_calls : List CheckedStatement → List TypedFunction → List TypedFunction
list_calls [] more = more
list_calls (s ∷ others) more = statement_calls s (list_calls others more)

-- the variables of conditions and their blocks
abbrev pub arms_variables : List (Tested VariableName TaskName FunctionName) → List TypedVariable → List TypedVariable
arms_variables [] more = more
arms_variables (t ∷ others) more = expression_variables t.condition (block_variables t.block (arms_variables others more))

-- their tasks
abbrev pub arms_targets : List (Tested VariableName TaskName FunctionName) → List ℕ → List ℕ
arms_targets [] more = more
arms_targets (t ∷ others) more = block_targets t.block (arms_targets others more)

-- their functions
abbrev pub arms_calls : List (Tested VariableName TaskName FunctionName) → List TypedFunction → List TypedFunction
arms_calls [] more = more
arms_calls (t ∷ others) more = expression_calls t.condition (block_calls t.block (arms_calls others more))
