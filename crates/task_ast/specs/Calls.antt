-- The calls of a text are of functions in front of it: those with a number below n.
use Rattle.std.specs.Prelude.{ℕ, ◌+◌, ◌<◌, List, [], ◌∷◌, Option, Some, None, length, All}
use Rattle.task_ast.specs.Tree as t
use Rattle.task_ast.specs.Paths.{CheckedExpression, CheckedValues, CheckedStatement, CheckedChoice, CheckedBlock, CheckedFunction, CheckedProgram}

abbrev mutual
  pub CallsAreBelow : ℕ → CheckedExpression → Type 0
  CallsAreBelow n (t.number w) = Unit {0}
  CallsAreBelow n (t.long_number w) = Unit {0}
  CallsAreBelow n (t.name x) = Unit {0}
  CallsAreBelow n (t.element x index) = CallsAreBelow n index
  CallsAreBelow n t.sense = Unit {0}
  CallsAreBelow n t.next_event = Unit {0}
  CallsAreBelow n (t.call f values) = f.function < n × ValuesCallBelow n values
  CallsAreBelow n (t.unary op e) = CallsAreBelow n e
  CallsAreBelow n (t.binary op a b) = CallsAreBelow n a × CallsAreBelow n b
  CallsAreBelow n (t.shift op e count) = CallsAreBelow n e
  CallsAreBelow n (t.short_circuit op a b) = CallsAreBelow n a × CallsAreBelow n b

  pub ValuesCallBelow : ℕ → CheckedValues → Type 0
  ValuesCallBelow n t.no_value = Unit {0}
  ValuesCallBelow n (t.value e more) = CallsAreBelow n e × ValuesCallBelow n more

-- of a value that may be left out
abbrev pub InitialCallsBelow : ℕ → Option CheckedExpression → Type 0
InitialCallsBelow n None = Unit {0}
InitialCallsBelow n (Some e) = CallsAreBelow n e

abbrev mutual
  pub StatementCallsBelow : ℕ → CheckedStatement → Type 0
  StatementCallsBelow n (t.declare of x value) = InitialCallsBelow n value
  StatementCallsBelow n (t.assign x value) = CallsAreBelow n value
  StatementCallsBelow n (t.store x index value) = CallsAreBelow n index × CallsAreBelow n value
  StatementCallsBelow n (t.choose c) = ChoiceCallsBelow n c
  StatementCallsBelow n (t.loop variable from tested below stepped body) = BlockCallsBelow n body
  StatementCallsBelow n (t.emit value) = CallsAreBelow n value
  StatementCallsBelow n (t.give at value) = CallsAreBelow n value
  StatementCallsBelow n (t.transition at task) = Unit {0}

  pub ChoiceCallsBelow : ℕ → CheckedChoice → Type 0
  ChoiceCallsBelow n t.nothing = Unit {0}
  ChoiceCallsBelow n (t.otherwise block) = BlockCallsBelow n block
  ChoiceCallsBelow n (t.test condition block more) = CallsAreBelow n condition × (BlockCallsBelow n block × ChoiceCallsBelow n more)

  pub BlockCallsBelow : ℕ → CheckedBlock → Type 0
  BlockCallsBelow n t.end = Unit {0}
  BlockCallsBelow n (t.step s more) = StatementCallsBelow n s × BlockCallsBelow n more

-- each function calls functions in front of it alone, the first of the list having n of them in front
abbrev pub FunctionsCallBelow : ℕ → List CheckedFunction → Type 0
FunctionsCallBelow n [] = Unit {0}
FunctionsCallBelow n (f ∷ more) = BlockCallsBelow n f.body × FunctionsCallBelow (n + 1) more

-- each function of a source calls functions in front of it, and each task functions of the source
pub record CallsAreKnown (p : CheckedProgram) : Type 0 where
  pub functions : FunctionsCallBelow 0 p.functions
  pub tasks : All (λ task. BlockCallsBelow (length p.functions) task.body) p.tasks
