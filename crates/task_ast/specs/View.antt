-- The trees that the Rust trees stand for.
use Rattle.std.specs.Prelude.{List, map, Option, Some, None, Vec}
use Rattle.std.specs.Global.{Global}
use Rattle.std.specs.Option.{option_map}
use Rattle.task_ast.specs.Tree.{Expression, number, long_number, name, element, sense, next_event, call, unary, binary, shift, short_circuit}
use Rattle.task_ast.specs.Tree as tree
use Rattle.task_ast.specs.Tree.{Values}
use Rattle.task_ast.specs.Tree.{Statement, declare, assign, store, choose}
use Rattle.task_ast.specs.Tree.{loop, emit, give, transition, Block, block_of, Choice, Tested, choice_of, Function, Task, Program}
use Rattle.task_ast.specs.declared.Expr.{Expr}
use Rattle.task_ast.specs.declared.Expr.TheVariants.{Number, LongNumber, Name, Element', Sense, NextEvent, Call, Unary', Binary', Shift', ShortCircuit'}
use Rattle.task_ast.specs.declared.Args.{Args}
use Rattle.task_ast.specs.declared.Args.TheVariants.{End, Value'}
use Rattle.task_ast.specs.declared.Stmt.{Stmt, fold-Stmt}
use Rattle.task_ast.specs.declared.Arm.{Arm, fold-Arm}
use Rattle.task_ast.specs.declared.Stmt.TheOpen.{Stmt-F, Arm-F}
use Rattle.task_ast.specs.declared.FunctionDeclaration.{FunctionDeclaration}
use Rattle.task_ast.specs.declared.TaskDeclaration.{TaskDeclaration}
use Rattle.task_ast.specs.declared.Source.{Source}

abbrev mutual
  -- an expression
  pub expression_of : {V F : Type 0} → Expr V F → Expression V F
  expression_of (Number n) = number n
  expression_of (LongNumber n) = long_number n
  expression_of (Name s) = name s
  expression_of (Element' s p index) = element s (expression_of index)
  expression_of Sense = sense
  expression_of NextEvent = next_event
  expression_of (Call f values) = call f (values_of values)
  expression_of (Unary' op p inner) = unary op (expression_of inner)
  expression_of (Binary' op p a q b) = binary op (expression_of a) (expression_of b)
  expression_of (Shift' op p a count) = shift op (expression_of a) count
  expression_of (ShortCircuit' op p a q b) = short_circuit op (expression_of a) (expression_of b)

  -- what a call gives its function
  pub values_of : {V F : Type 0} → Args V F → Values V F
  values_of End = tree.no_value
  values_of (Value' p e q more) = tree.value (expression_of e) (values_of more)

-- the last block of an `if`, its statements already seen
abbrev pub last_of : {V T F : Type 0} → Option (Vec (Statement V T F) Global) → Option (Block V T F)
last_of None = None
last_of (Some v) = Some (block_of v.items)

-- one level, with the statements inside already seen
abbrev pub statement_step : {V T F : Type 0} → Stmt-F V T F (Statement V T F) (Tested V T F) → Statement V T F
statement_step (Stmt-F.Declare of n value) = declare of n (option_map expression_of value)
statement_step (Stmt-F.Assign n value) = assign n (expression_of value)
statement_step (Stmt-F.Store n index value) = store n (expression_of index) (expression_of value)
statement_step (Stmt-F.If arms last) = choose (choice_of arms.items (last_of last))
statement_step (Stmt-F.For variable from tested below stepped body) = loop variable from tested below stepped (block_of body.items)
statement_step (Stmt-F.Emit value) = emit (expression_of value)
statement_step (Stmt-F.Return at value) = give at (expression_of value)
statement_step (Stmt-F.TransitionTo at n) = transition at n

-- a condition and its block, the statements already seen
abbrev pub tested_step : {V T F : Type 0} → Arm-F V T F (Statement V T F) (Tested V T F) → Tested V T F
tested_step a = record { condition = expression_of a.condition; block = block_of a.block.items }

-- a statement
abbrev pub statement_of : {V T F : Type 0} → Stmt V T F → Statement V T F
statement_of {V} {T} {F} = fold-Stmt V T F (Statement V T F) (Tested V T F) statement_step tested_step

-- a condition and its block
abbrev pub tested_of : {V T F : Type 0} → Arm V T F → Tested V T F
tested_of {V} {T} {F} = fold-Arm V T F (Statement V T F) (Tested V T F) statement_step tested_step

-- a block
abbrev pub block_view : {V T F : Type 0} → List (Stmt V T F) → Block V T F
block_view stmts = block_of (map statement_of stmts)

-- the last block of an `if`
abbrev pub last_view : {V T F : Type 0} → Option (Vec (Stmt V T F) Global) → Option (Block V T F)
last_view None = None
last_view (Some v) = Some (block_view v.items)

-- the conditions and blocks of an `if`
abbrev pub choice_view : {V T F : Type 0} → List (Arm V T F) → Option (Vec (Stmt V T F) Global) → Choice V T F
choice_view arms last = choice_of (map tested_of arms) (last_view last)

-- a function
abbrev pub function_of : {V T F : Type 0} → FunctionDeclaration V T F → Function V T F
function_of f = record { word_type = f.word_type; name = f.name; parameters = f.parameters.items; body = block_view f.body.items }

-- a task
abbrev pub task_of : {V T F : Type 0} → TaskDeclaration V T F → Task V T F
task_of t = record { name = t.name; body = block_view t.body.items }

-- a whole source
abbrev pub program_of : {V T F : Type 0} → Source V T F → Program V T F
program_of t =
    record { shared = t.shared.items; functions = map function_of t.functions.items; tasks = map task_of t.tasks.items; entry = t.entry }
