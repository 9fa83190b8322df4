-- A source with its names looked up.
use Rattle.std.specs.Prelude.{ℕ, ◌-◌, suc, List, [], ◌∷◌, ◌++◌, map, length, Option, Some, None}
use Rattle.std.specs.Option.{option_map}
use Rattle.alp_text.specs.declared.lines.Span.{Span}
use Rattle.task_ast.specs.declared.names.Variable.TheVariants as variable
use Rattle.task_ast.specs.declared.names.VariableName.{VariableName}
use Rattle.task_ast.specs.declared.names.FunctionName.{FunctionName}
use Rattle.task_ast.specs.declared.Parameter.{Parameter}
use Rattle.task_ast.specs.Paths.{CheckedExpression, CheckedValues, CheckedStatement, CheckedChoice, CheckedBlock, CheckedFunction, CheckedTask, CheckedProgram}
use Rattle.task_ast.specs.Tree.{Expression, Values, Statement, Choice, Block, Function, Task, Program}
use Rattle.task_ast.specs.Tree as t
use Rattle.task_check.specs.declared.occurrence.Role.{Role}
use Rattle.task_check.specs.declared.occurrence.Role.TheVariants as role
use Rattle.task_check.specs.declared.occurrence.Occurrence.{Occurrence}
use Rattle.task_check.specs.declared.symbol.Symbol.{Symbol}
use Rattle.task_check.specs.declared.symbol.Symbol.TheVariants as symbol
use Rattle.task_check.specs.declared.symbol.TypedVariable.{TypedVariable}
use Rattle.task_check.specs.declared.symbol.TypedFunction.{TypedFunction}
use Rattle.task_check.specs.Scope.{text_of, functions_in, tasks_in, locals_in, global_in, local_in, known_functions, meaning}

-- ---- the names' places put back

abbrev mutual
  -- in an expression
  pub expression_back : CheckedExpression → Expression Span Span
  expression_back (t.number n) = t.number n
  expression_back (t.long_number n) = t.long_number n
  expression_back (t.name v) = t.name v.span
  expression_back (t.element v index) = t.element v.span (expression_back index)
  expression_back t.sense = t.sense
  expression_back t.next_event = t.next_event
  expression_back (t.call f values) = t.call f.span (values_back values)
  expression_back (t.unary op a) = t.unary op (expression_back a)
  expression_back (t.binary op a b) = t.binary op (expression_back a) (expression_back b)
  expression_back (t.shift op a count) = t.shift op (expression_back a) count
  expression_back (t.short_circuit op a b) = t.short_circuit op (expression_back a) (expression_back b)

  -- in the values of a call
  pub values_back : CheckedValues → Values Span Span
  values_back t.no_value = t.no_value
  values_back (t.value e more) = t.value (expression_back e) (values_back more)

abbrev mutual
  -- in a statement
  pub statement_back : CheckedStatement → Statement Span Span Span
  statement_back (t.declare of v value) = t.declare of v.span (option_map expression_back value)
  statement_back (t.assign v e) = t.assign v.span (expression_back e)
  statement_back (t.store v index e) = t.store v.span (expression_back index) (expression_back e)
  statement_back (t.choose c) = t.choose (choice_back c)
  statement_back (t.loop v from w below u body) = t.loop v.span from w.span below u.span (block_back body)
  statement_back (t.emit e) = t.emit (expression_back e)
  statement_back (t.give at e) = t.give at (expression_back e)
  statement_back (t.transition at n) = t.transition at n.span

  -- in the conditions and blocks of an `if`
  pub choice_back : CheckedChoice → Choice Span Span Span
  choice_back t.nothing = t.nothing
  choice_back (t.otherwise b) = t.otherwise (block_back b)
  choice_back (t.test e b more) = t.test (expression_back e) (block_back b) (choice_back more)

  -- in a block
  pub block_back : CheckedBlock → Block Span Span Span
  block_back t.end = t.end
  block_back (t.step s more) = t.step (statement_back s) (block_back more)

-- in a parameter
abbrev pub parameter_back : Parameter VariableName → Parameter Span
parameter_back p = record { word_type = p.word_type; name = p.name.span }

-- in a function
abbrev pub function_back : CheckedFunction → Function Span Span Span
function_back f = record { word_type = f.word_type; name = f.name; parameters = map parameter_back f.parameters; body = block_back f.body }

-- in a task
abbrev pub task_back : CheckedTask → Task Span Span Span
task_back k = record { name = k.name; body = block_back k.body }

-- the source with the places of its names in their stead
abbrev pub program_back : CheckedProgram → Program Span Span Span
program_back p =
    record { shared = p.shared; functions = map function_back p.functions; tasks = map task_back p.tasks; entry = p.entry.span }

-- ---- the variables that the names of a source were looked up as, in the text's order, in front of some more

-- the variable of a name, with its type
abbrev pub typed : VariableName → TypedVariable
typed v = record { variable = v.variable; word_type = v.word_type }

abbrev mutual
  -- those of an expression
  pub expression_variables : CheckedExpression → List TypedVariable → List TypedVariable
  expression_variables (t.number n) more = more
  expression_variables (t.long_number n) more = more
  expression_variables (t.name v) more = typed v ∷ more
  expression_variables (t.element v index) more = typed v ∷ expression_variables index more
  expression_variables t.sense more = more
  expression_variables t.next_event more = more
  expression_variables (t.call f values) more = values_variables values more
  expression_variables (t.unary op a) more = expression_variables a more
  expression_variables (t.binary op a b) more = expression_variables a (expression_variables b more)
  expression_variables (t.shift op a count) more = expression_variables a more
  expression_variables (t.short_circuit op a b) more = expression_variables a (expression_variables b more)

  -- those of the values of a call
  pub values_variables : CheckedValues → List TypedVariable → List TypedVariable
  values_variables t.no_value more = more
  values_variables (t.value e others) more = expression_variables e (values_variables others more)

-- those of an initial value, if one is written
abbrev pub value_variables : Option CheckedExpression → List TypedVariable → List TypedVariable
value_variables None more = more
value_variables (Some e) more = expression_variables e more

abbrev mutual
  -- those of a statement
  pub statement_variables : CheckedStatement → List TypedVariable → List TypedVariable
  statement_variables (t.declare of v value) more = typed v ∷ value_variables value more
  statement_variables (t.assign v e) more = typed v ∷ expression_variables e more
  statement_variables (t.store v index e) more = typed v ∷ expression_variables index (expression_variables e more)
  statement_variables (t.choose c) more = choice_variables c more
  statement_variables (t.loop v from w below u body) more = typed v ∷ typed w ∷ typed u ∷ block_variables body more
  statement_variables (t.emit e) more = expression_variables e more
  statement_variables (t.give at e) more = expression_variables e more
  statement_variables (t.transition at n) more = more

  -- those of the conditions and blocks of an `if`
  pub choice_variables : CheckedChoice → List TypedVariable → List TypedVariable
  choice_variables t.nothing more = more
  choice_variables (t.otherwise b) more = block_variables b more
  choice_variables (t.test e b others) more = expression_variables e (block_variables b (choice_variables others more))

  -- those of a block
  pub block_variables : CheckedBlock → List TypedVariable → List TypedVariable
  block_variables t.end more = more
  block_variables (t.step s others) more = statement_variables s (block_variables others more)

-- those of the parameters of a function
abbrev pub parameter_variables : List (Parameter VariableName) → List TypedVariable → List TypedVariable
parameter_variables [] more = more
parameter_variables (p ∷ others) more = typed p.name ∷ parameter_variables others more

-- those of a function
abbrev pub inner_variables : CheckedFunction → List TypedVariable → List TypedVariable
inner_variables f more = parameter_variables f.parameters (block_variables f.body more)

-- those of the functions
abbrev pub function_variables : List CheckedFunction → List TypedVariable → List TypedVariable
function_variables [] more = more
function_variables (f ∷ others) more = inner_variables f (function_variables others more)

-- those of the tasks
abbrev pub task_variables : List CheckedTask → List TypedVariable → List TypedVariable
task_variables [] more = more
task_variables (k ∷ others) more = block_variables k.body (task_variables others more)

-- ---- the same for the tasks of transitions and of the entry

abbrev mutual
  -- those of a statement
  pub statement_targets : CheckedStatement → List ℕ → List ℕ
  statement_targets (t.declare of v value) more = more
  statement_targets (t.assign v e) more = more
  statement_targets (t.store v index e) more = more
  statement_targets (t.choose c) more = choice_targets c more
  statement_targets (t.loop v from w below u body) more = block_targets body more
  statement_targets (t.emit e) more = more
  statement_targets (t.give at e) more = more
  statement_targets (t.transition at n) more = n.task ∷ more

  -- those of the blocks of an `if`
  pub choice_targets : CheckedChoice → List ℕ → List ℕ
  choice_targets t.nothing more = more
  choice_targets (t.otherwise b) more = block_targets b more
  choice_targets (t.test e b others) more = block_targets b (choice_targets others more)

  -- those of a block
  pub block_targets : CheckedBlock → List ℕ → List ℕ
  block_targets t.end more = more
  block_targets (t.step s others) more = statement_targets s (block_targets others more)

-- those of the functions
abbrev pub function_targets : List CheckedFunction → List ℕ → List ℕ
function_targets [] more = more
function_targets (f ∷ others) more = block_targets f.body (function_targets others more)

-- those of the tasks
abbrev pub task_targets : List CheckedTask → List ℕ → List ℕ
task_targets [] more = more
task_targets (k ∷ others) more = block_targets k.body (task_targets others more)

-- those of a whole source
abbrev pub program_variables : CheckedProgram → List TypedVariable
program_variables p = function_variables p.functions (task_variables p.tasks [])

-- its tasks
abbrev pub program_targets : CheckedProgram → List ℕ
program_targets p = function_targets p.functions (task_targets p.tasks (p.entry.task ∷ []))

-- ---- the same for the functions of calls

-- the function of a name, with its type
abbrev pub typed_function : FunctionName → TypedFunction
typed_function f = record { function = f.function; word_type = f.word_type }

abbrev mutual
  -- those of an expression
  pub expression_calls : CheckedExpression → List TypedFunction → List TypedFunction
  expression_calls (t.number n) more = more
  expression_calls (t.long_number n) more = more
  expression_calls (t.name v) more = more
  expression_calls (t.element v index) more = expression_calls index more
  expression_calls t.sense more = more
  expression_calls t.next_event more = more
  expression_calls (t.call f values) more = typed_function f ∷ values_calls values more
  expression_calls (t.unary op a) more = expression_calls a more
  expression_calls (t.binary op a b) more = expression_calls a (expression_calls b more)
  expression_calls (t.shift op a count) more = expression_calls a more
  expression_calls (t.short_circuit op a b) more = expression_calls a (expression_calls b more)

  -- those of the values of a call
  pub values_calls : CheckedValues → List TypedFunction → List TypedFunction
  values_calls t.no_value more = more
  values_calls (t.value e others) more = expression_calls e (values_calls others more)

-- those of an initial value, if one is written
abbrev pub value_calls : Option CheckedExpression → List TypedFunction → List TypedFunction
value_calls None more = more
value_calls (Some e) more = expression_calls e more

abbrev mutual
  -- those of a statement
  pub statement_calls : CheckedStatement → List TypedFunction → List TypedFunction
  statement_calls (t.declare of v value) more = value_calls value more
  statement_calls (t.assign v e) more = expression_calls e more
  statement_calls (t.store v index e) more = expression_calls index (expression_calls e more)
  statement_calls (t.choose c) more = choice_calls c more
  statement_calls (t.loop v from w below u body) more = block_calls body more
  statement_calls (t.emit e) more = expression_calls e more
  statement_calls (t.give at e) more = expression_calls e more
  statement_calls (t.transition at n) more = more

  -- those of the conditions and blocks of an `if`
  pub choice_calls : CheckedChoice → List TypedFunction → List TypedFunction
  choice_calls t.nothing more = more
  choice_calls (t.otherwise b) more = block_calls b more
  choice_calls (t.test e b others) more = expression_calls e (block_calls b (choice_calls others more))

  -- those of a block
  pub block_calls : CheckedBlock → List TypedFunction → List TypedFunction
  block_calls t.end more = more
  block_calls (t.step s others) more = statement_calls s (block_calls others more)

-- those of the functions
abbrev pub function_calls : List CheckedFunction → List TypedFunction → List TypedFunction
function_calls [] more = more
function_calls (f ∷ others) more = block_calls f.body (function_calls others more)

-- those of the tasks
abbrev pub task_calls : List CheckedTask → List TypedFunction → List TypedFunction
task_calls [] more = more
task_calls (k ∷ others) more = block_calls k.body (task_calls others more)

-- those of a whole source
abbrev pub program_calls : CheckedProgram → List TypedFunction
program_calls p = function_calls p.functions (task_calls p.tasks [])

-- ---- what the text says of each

-- the variable of a symbol
abbrev pub variable_of : Symbol → List TypedVariable
variable_of (symbol.Scalar n of) = record { variable = variable.Shared n; word_type = of } ∷ []
variable_of (symbol.Array n of) = record { variable = variable.Shared n; word_type = of } ∷ []
variable_of (symbol.Local n of) = record { variable = variable.Local n; word_type = of } ∷ []
variable_of (symbol.Function n of count) = []
variable_of (symbol.Task n) = []

-- the function of a symbol
abbrev pub call_of : Symbol → List TypedFunction
call_of (symbol.Function n of count) = record { function = n; word_type = of } ∷ []
call_of _ = []

-- the task of a symbol
abbrev pub target_of : Symbol → List ℕ
target_of (symbol.Task n) = n ∷ []
target_of _ = []

-- what a name stands for by its role: a local that is declared, by its number, or what a use means
abbrev pub symbol_by : Role → ℕ → Option Symbol → Option Symbol
symbol_by (role.Local of begin end extra) locals found = Some (symbol.Local locals of)
symbol_by role.Scalar locals found = found
symbol_by role.Element locals found = found
symbol_by role.Counter locals found = found
symbol_by (role.Call count) locals found = found
symbol_by role.Target locals found = found
symbol_by _ locals found = None

-- how many names stand behind a name, by those in front of it
abbrev pub behind : List Occurrence → List Occurrence → ℕ
behind all front = length all - suc (length front)

-- what a name of a text stands for
unfoldable pub symbol_at : List ℕ → List Occurrence → Occurrence → List Occurrence → Option Symbol
symbol_at source all o front = symbol_by o.role (locals_in front)
    (meaning (known_functions (functions_in front) (tasks_in front)) (behind all front) (local_in source (text_of source o.span) front)
    (global_in source (text_of source o.span) all))

-- its variable, if its role is that of one
abbrev pub variable_by : Role → Option Symbol → List TypedVariable
variable_by role.Target s = []
variable_by (role.Call count) s = []
variable_by _ None = []
variable_by _ (Some s) = variable_of s

-- its function
abbrev pub call_by : Role → Option Symbol → List TypedFunction
call_by (role.Call count) (Some s) = call_of s
call_by _ _ = []

-- its task
abbrev pub target_by : Role → Option Symbol → List ℕ
target_by role.Target (Some s) = target_of s
target_by _ _ = []

-- the variables that the names in front stand for, in the text's order
abbrev pub variables_in : List ℕ → List Occurrence → List Occurrence → List TypedVariable
variables_in source all [] = []
variables_in source all (o ∷ front) = variables_in source all front ++ variable_by o.role (symbol_at source all o front)

-- the functions
abbrev pub calls_in : List ℕ → List Occurrence → List Occurrence → List TypedFunction
calls_in source all [] = []
calls_in source all (o ∷ front) = calls_in source all front ++ call_by o.role (symbol_at source all o front)

-- the tasks
abbrev pub targets_in : List ℕ → List Occurrence → List Occurrence → List ℕ
targets_in source all [] = []
targets_in source all (o ∷ front) = targets_in source all front ++ target_by o.role (symbol_at source all o front)
