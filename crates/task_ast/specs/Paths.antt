-- The paths of a checked block: the accesses of one way through it, each under the name that makes it. Every condition is free, the
-- right side of `&&` and `||` is evaluated or not, a loop makes its turns, and the first `return` or transition ends the path, since it
-- ends the function or the task (Maeng, Colin, Lucia: Alpaca, OOPSLA 2017). A call has the accesses of its values, then those of a path
-- through its function. A relation of paths takes the functions that the text may call.
use Rattle.std.specs.Prelude.{◌≡◌, ℕ, zero, suc, ◌-◌, Bool, true, false, Some, None, List, [], ◌∷◌, ◌++◌, take, filter, slice_get}
use Rattle.alp_text.specs.declared.lines.Span.{Span}
use Rattle.task_ast.specs.declared.Parameter.{Parameter}
use Rattle.task_ast.specs.declared.WordType.{WordType}
use Rattle.task_ast.specs.declared.UnaryOperator.{UnaryOperator}
use Rattle.task_ast.specs.declared.PlacedOperator.{PlacedOperator}
use Rattle.task_ast.specs.declared.ShiftOperator.{ShiftOperator}
use Rattle.task_ast.specs.declared.ShortCircuitOperator.{ShortCircuitOperator}
use Rattle.task_ast.specs.declared.Literal.{Literal}
use Rattle.task_ast.specs.declared.names.Variable.{Variable}
use Rattle.task_ast.specs.declared.names.Variable.TheVariants.{Shared, Local}
use Rattle.task_ast.specs.declared.names.VariableName.{VariableName}
use Rattle.task_ast.specs.declared.names.TaskName.{TaskName}
use Rattle.task_ast.specs.declared.names.FunctionName.{FunctionName}
use Rattle.task_ast.specs.Tree.{Expression, Values, Statement, Choice, Block, Function, Task, Program}
use Rattle.task_ast.specs.Tree as t

-- the parts of a source whose names have been looked up
abbrev pub CheckedExpression : Type 0
CheckedExpression = Expression VariableName FunctionName

abbrev pub CheckedValues : Type 0
CheckedValues = Values VariableName FunctionName

abbrev pub CheckedStatement : Type 0
CheckedStatement = Statement VariableName TaskName FunctionName

abbrev pub CheckedChoice : Type 0
CheckedChoice = Choice VariableName TaskName FunctionName

abbrev pub CheckedBlock : Type 0
CheckedBlock = Block VariableName TaskName FunctionName

abbrev pub CheckedParameter : Type 0
CheckedParameter = Parameter VariableName

abbrev pub CheckedFunction : Type 0
CheckedFunction = Function VariableName TaskName FunctionName

abbrev pub CheckedTask : Type 0
CheckedTask = Task VariableName TaskName FunctionName

abbrev pub CheckedProgram : Type 0
CheckedProgram = Program VariableName TaskName FunctionName

-- What a path does with a variable: the name says where in the text, and which shared or local variable. An array counts as a whole.
pub data Access : Type 0 where
  read : VariableName → Access
  write : VariableName → Access
  -- a declaration without a value makes its local unassigned
  unset : VariableName → Access

-- how a path ends: it goes on behind the block, ends the task by a transition to another, or ends the function by a `return`
pub data End : Type 0 where
  goes_on : End
  goes_to : TaskName → End
  returns : End

-- an end that leaves the blocks and loops around it
abbrev pub Leaves : End → Type 0
Leaves goes_on = ⊥
Leaves (goes_to task) = Unit {0}
Leaves returns = Unit {0}

-- whether a variable is a shared one
abbrev pub is_of_shared : Variable → Bool
is_of_shared (Shared n) = true
is_of_shared (Local n) = false

-- of what a call's path does, its caller sees the shared variables: a function's locals are nobody else's
abbrev pub is_seen_outside : Access → Bool
is_seen_outside (read n) = is_of_shared n.variable
is_seen_outside (write n) = is_of_shared n.variable
is_seen_outside (unset n) = is_of_shared n.variable

abbrev pub outside : List Access → List Access
outside xs = filter is_seen_outside xs

mutual
  -- An expression reads its names from left to right, and an element's array after the index. A scalar of two words is read and written
  -- as one variable.
  pub data ExpressionPath : List CheckedFunction → CheckedExpression → List Access → Type 0 where
    number : {fs : List CheckedFunction} (n : ℕ) → ExpressionPath fs (t.number n) []
    long_number : {fs : List CheckedFunction} (n : ℕ) → ExpressionPath fs (t.long_number n) []
    name : {fs : List CheckedFunction} (n : VariableName) → ExpressionPath fs (t.name n) (read n ∷ [])
    element : {fs : List CheckedFunction} (n : VariableName) (index : CheckedExpression) (xs : List Access) →
        ExpressionPath fs index xs → ExpressionPath fs (t.element n index) (xs ++ read n ∷ [])
    sense : {fs : List CheckedFunction} → ExpressionPath fs t.sense []
    next_event : {fs : List CheckedFunction} → ExpressionPath fs t.next_event []
    -- the values, then the function's body up to its `return`, which calls functions in front of it
    call : {fs : List CheckedFunction} (f : FunctionName) (function : CheckedFunction) (values : CheckedValues) (xs ys : List Access) →
        slice_get fs f.function ≡ Some function → ValuesPath fs values xs →
        BlockPath (take f.function fs) function.body ys returns → ExpressionPath fs (t.call f values) (xs ++ outside ys)
    unary : {fs : List CheckedFunction} (op : UnaryOperator) (a : CheckedExpression) (xs : List Access) →
        ExpressionPath fs a xs → ExpressionPath fs (t.unary op a) xs
    binary : {fs : List CheckedFunction} (op : PlacedOperator) (a b : CheckedExpression) (xs ys : List Access) →
        ExpressionPath fs a xs → ExpressionPath fs b ys → ExpressionPath fs (t.binary op a b) (xs ++ ys)
    shift : {fs : List CheckedFunction} (op : ShiftOperator) (a : CheckedExpression) (count : Literal) (xs : List Access) →
        ExpressionPath fs a xs → ExpressionPath fs (t.shift op a count) xs
    left_alone : {fs : List CheckedFunction} (op : ShortCircuitOperator) (a b : CheckedExpression) (xs : List Access) →
        ExpressionPath fs a xs → ExpressionPath fs (t.short_circuit op a b) xs
    both_sides : {fs : List CheckedFunction} (op : ShortCircuitOperator) (a b : CheckedExpression) (xs ys : List Access) →
        ExpressionPath fs a xs → ExpressionPath fs b ys → ExpressionPath fs (t.short_circuit op a b) (xs ++ ys)

  -- the values of a call, from left to right
  pub data ValuesPath : List CheckedFunction → CheckedValues → List Access → Type 0 where
    no_value : {fs : List CheckedFunction} → ValuesPath fs t.no_value []
    value : {fs : List CheckedFunction} (e : CheckedExpression) (more : CheckedValues) (xs ys : List Access) →
        ExpressionPath fs e xs → ValuesPath fs more ys → ValuesPath fs (t.value e more) (xs ++ ys)

  pub data StatementPath : List CheckedFunction → CheckedStatement → List Access → End → Type 0 where
    declare_unset : {fs : List CheckedFunction} (of : WordType) (n : VariableName) →
        StatementPath fs (t.declare of n None) (unset n ∷ []) goes_on
    declare_set : {fs : List CheckedFunction} (of : WordType) (n : VariableName) (value : CheckedExpression) (xs : List Access) →
        ExpressionPath fs value xs → StatementPath fs (t.declare of n (Some value)) (xs ++ write n ∷ []) goes_on
    assign : {fs : List CheckedFunction} (n : VariableName) (value : CheckedExpression) (xs : List Access) →
        ExpressionPath fs value xs → StatementPath fs (t.assign n value) (xs ++ write n ∷ []) goes_on
    -- the index is evaluated before the value
    store : {fs : List CheckedFunction} (n : VariableName) (index value : CheckedExpression) (xs ys : List Access) →
        ExpressionPath fs index xs → ExpressionPath fs value ys →
        StatementPath fs (t.store n index value) (xs ++ (ys ++ write n ∷ [])) goes_on
    choose : {fs : List CheckedFunction} (c : CheckedChoice) (xs : List Access) (end : End) →
        ChoicePath fs c xs end → StatementPath fs (t.choose c) xs end
    -- `below - from` turns, none where `below` isn't above `from`; the variable is written before the first and after each
    loop : {fs : List CheckedFunction} (variable : VariableName) (from : ℕ) (tested : VariableName) (below : ℕ) (stepped : VariableName)
        (body : CheckedBlock) (xs : List Access) (end : End) → TurnsPath fs variable (below - from) body xs end →
        StatementPath fs (t.loop variable from tested below stepped body) (write variable ∷ xs) end
    emit : {fs : List CheckedFunction} (value : CheckedExpression) (xs : List Access) →
        ExpressionPath fs value xs → StatementPath fs (t.emit value) xs goes_on
    give : {fs : List CheckedFunction} (at : Span) (value : CheckedExpression) (xs : List Access) →
        ExpressionPath fs value xs → StatementPath fs (t.give at value) xs returns
    transition : {fs : List CheckedFunction} (at : Span) (n : TaskName) → StatementPath fs (t.transition at n) [] (goes_to n)

  -- each condition is evaluated, and then its block is taken or passed
  pub data ChoicePath : List CheckedFunction → CheckedChoice → List Access → End → Type 0 where
    nothing : {fs : List CheckedFunction} → ChoicePath fs t.nothing [] goes_on
    otherwise : {fs : List CheckedFunction} (b : CheckedBlock) (xs : List Access) (end : End) →
        BlockPath fs b xs end → ChoicePath fs (t.otherwise b) xs end
    taken : {fs : List CheckedFunction} (e : CheckedExpression) (b : CheckedBlock) (more : CheckedChoice) (xs ys : List Access) (end : End) →
        ExpressionPath fs e xs → BlockPath fs b ys end → ChoicePath fs (t.test e b more) (xs ++ ys) end
    passed : {fs : List CheckedFunction} (e : CheckedExpression) (b : CheckedBlock) (more : CheckedChoice) (xs ys : List Access) (end : End) →
        ExpressionPath fs e xs → ChoicePath fs more ys end → ChoicePath fs (t.test e b more) (xs ++ ys) end

  -- so many turns of a body, the variable written after each
  pub data TurnsPath : List CheckedFunction → VariableName → ℕ → CheckedBlock → List Access → End → Type 0 where
    over : {fs : List CheckedFunction} (variable : VariableName) (body : CheckedBlock) → TurnsPath fs variable zero body [] goes_on
    turn : {fs : List CheckedFunction} (variable : VariableName) (n : ℕ) (body : CheckedBlock) (xs ys : List Access) (end : End) →
        BlockPath fs body xs goes_on → TurnsPath fs variable n body ys end →
        TurnsPath fs variable (suc n) body (xs ++ write variable ∷ ys) end
    cut : {fs : List CheckedFunction} (variable : VariableName) (n : ℕ) (body : CheckedBlock) (xs : List Access) (end : End) →
        Leaves end → BlockPath fs body xs end → TurnsPath fs variable (suc n) body xs end

  -- the statements one after another, up to the first that leaves the block
  pub data BlockPath : List CheckedFunction → CheckedBlock → List Access → End → Type 0 where
    finished : {fs : List CheckedFunction} → BlockPath fs t.end [] goes_on
    step : {fs : List CheckedFunction} (s : CheckedStatement) (more : CheckedBlock) (xs ys : List Access) (end : End) →
        StatementPath fs s xs goes_on → BlockPath fs more ys end → BlockPath fs (t.step s more) (xs ++ ys) end
    stopped : {fs : List CheckedFunction} (s : CheckedStatement) (more : CheckedBlock) (xs : List Access) (end : End) →
        Leaves end → StatementPath fs s xs end → BlockPath fs (t.step s more) xs end
