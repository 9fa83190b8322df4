-- What a checked tree satisfies: the names of a task or a function are used as they were declared, its operators have operands of their types, its
-- numbers are words, its calls have as many values as their functions have parameters, its expressions have room on the stack, and its loops count in
-- locals that their bodies leave alone.
use Rattle.std.specs.Prelude.{◌≡◌, ℕ, suc, ◌+◌, ◌^◌, ◌<◌, ◌≤◌, max, Bool, true, false, List, length, Option, Some, None, slice_get, IsSomeAnd}
use Rattle.alp_text.specs.declared.lines.Span.{Span}
use Rattle.alp_words.specs.Words.{IsWord}
use Rattle.task_ast.specs.declared.Extent.{Extent}
use Rattle.task_ast.specs.declared.SharedDeclaration.{SharedDeclaration}
use Rattle.task_ast.specs.declared.WordType.{WordType}
use Rattle.task_ast.specs.declared.names.Variable.{Variable}
use Rattle.task_ast.specs.declared.names.Variable.TheVariants.{Shared, Local}
use Rattle.task_ast.specs.Tree.{Expression, Values}
use Rattle.task_ast.specs.Tree as t
use Rattle.task_ast.specs.Paths.{CheckedExpression, CheckedValues, CheckedStatement, CheckedChoice, CheckedBlock, CheckedFunction, CheckedTask}
use Rattle.task_ast.specs.Paths.{CheckedProgram}
use Rattle.task_ast.specs.Calls.{BlockCallsBelow}
use Rattle.task_ast.specs.Types.{IsOneWord, is_long, joined_type, type_of}
use Rattle.task_check.specs.Occurrences.{is_refused}
use Rattle.task_check.specs.Placed.{block_ends}
use Rattle.cost_bound.specs.path_sums.Reaches.{ReachesEnd}
use Rattle.cost_bound.specs.Frames.{block_locals}
use Rattle.path_checks.specs.Loops.{block_assigns}
use Rattle.path_checks.specs.Unassigned.{ReadsUnassigned}
use Rattle.source_values.specs.Runs.{is_long_extent}
use Rattle.war_analysis.specs.Plans.{IsScalarAt, IsArrayAt}

-- ---- names

-- a variable of a type is a long exactly where the type is long
abbrev pub IsExtentOf : WordType → Extent → Type 0
IsExtentOf of e = is_long_extent e ≡ is_long of

abbrev pub HasItsExtent : SharedDeclaration → Type 0
HasItsExtent d = IsExtentOf d.word_type d.extent

-- the variable of a name of a type: a shared one of that width, or a local, which has one word
abbrev pub IsOfType : List SharedDeclaration → WordType → Variable → Type 0
IsOfType shared of (Shared v) = IsSomeAnd (slice_get shared v) (λ d. IsExtentOf of d.extent)
IsOfType shared of (Local n) = IsOneWord of

-- a local of at most 256
abbrev pub IsLocal : Variable → Type 0
IsLocal (Shared v) = ⊥
IsLocal (Local n) = n < 256

-- a name without an index: a shared scalar, or a local of at most 256
abbrev pub IsWordName : List SharedDeclaration → Variable → Type 0
IsWordName shared (Shared v) = IsScalarAt shared v
IsWordName shared (Local n) = n < 256

-- a name with an index: a shared array
abbrev pub IsArrayName : List SharedDeclaration → Variable → Type 0
IsArrayName shared (Shared v) = IsArrayAt shared v
IsArrayName shared (Local n) = ⊥

-- ---- expressions

abbrev mutual
  -- how many words are on the stack at most while an expression is worked out, as a word or as a long, which has two. The left side of an
  -- operator waits beneath the right one, and so does the 0 that `-` subtracts from; the left side of `&&` and `||` doesn't
  pub stack_words : {V F : Type 0} → Expression V F → ℕ
  stack_words (t.number w) = 2
  stack_words (t.long_number w) = 2
  stack_words (t.name x) = 2
  stack_words (t.element x index) = stack_words index
  stack_words t.sense = 2
  stack_words t.next_event = 2
  stack_words (t.call f values) = max 2 (value_words values)
  stack_words (t.unary op e) = stack_words e + 2
  stack_words (t.binary op a b) = max (stack_words a) (stack_words b + 2)
  stack_words (t.shift op e count) = stack_words e
  stack_words (t.short_circuit op a b) = max (stack_words a) (stack_words b)

  -- those of a call's values, each of which waits as one word while the ones behind it are worked out
  pub value_words : {V F : Type 0} → Values V F → ℕ
  value_words t.no_value = 0
  value_words (t.value e more) = max (stack_words e) (value_words more + 1)

-- how many values a call has
abbrev pub values_in : {V F : Type 0} → Values V F → ℕ
values_in t.no_value = 0
values_in (t.value e more) = suc (values_in more)

-- the room that is enough for each expression: two words for each of its tokens, of which no more than 256 stand in a row, and one for
-- an index
abbrev pub enough : ℕ
enough = 513

-- there is room for an expression with so many words beneath it
abbrev pub HasRoom : {V F : Type 0} → ℕ → Expression V F → Type 0
HasRoom beneath e = stack_words e + beneath ≤ enough

abbrev mutual
  -- each name is used as it was declared: an array's where there is an index, a scalar's elsewhere; an index isn't long, nor is what a function
  -- gives, no operator is refused to its operands, numbers are of words, and a call has no more values than a function locals
  pub WellFormedExpression : List SharedDeclaration → CheckedExpression → Type 0
  WellFormedExpression shared (t.number w) = IsWord w
  WellFormedExpression shared (t.long_number w) = w < 2 ^ 32
  WellFormedExpression shared (t.name x) = IsWordName shared x.variable × IsOfType shared x.word_type x.variable
  WellFormedExpression shared (t.element x index) =
      IsArrayName shared x.variable × WellFormedExpression shared index × IsOfType shared x.word_type x.variable × IsOneWord (type_of index)
  WellFormedExpression shared t.sense = Unit {0}
  WellFormedExpression shared t.next_event = Unit {0}
  WellFormedExpression shared (t.call f values) = IsOneWord f.word_type × WellFormedValues shared values × (values_in values ≤ 256)
  WellFormedExpression shared (t.unary op e) = WellFormedExpression shared e
  WellFormedExpression shared (t.binary op a b) =
      WellFormedExpression shared a × WellFormedExpression shared b × (is_refused op.operator (joined_type (type_of a) (type_of b)) ≡ false)
  WellFormedExpression shared (t.shift op e count) = WellFormedExpression shared e × IsWord count.value
  WellFormedExpression shared (t.short_circuit op a b) = WellFormedExpression shared a × WellFormedExpression shared b

  pub WellFormedValues : List SharedDeclaration → CheckedValues → Type 0
  WellFormedValues shared t.no_value = Unit {0}
  WellFormedValues shared (t.value e more) = WellFormedExpression shared e × WellFormedValues shared more

-- ---- calls

-- the function of a number has so many parameters
abbrev pub HasParameters : List CheckedFunction → ℕ → ℕ → Type 0
HasParameters functions k count = IsSomeAnd (slice_get functions k) (λ f. length f.parameters ≡ count)

abbrev mutual
  -- each call is of one of these functions, and has as many values as that has parameters
  pub ExpressionCounts : List CheckedFunction → CheckedExpression → Type 0
  ExpressionCounts functions (t.number w) = Unit {0}
  ExpressionCounts functions (t.long_number w) = Unit {0}
  ExpressionCounts functions (t.name x) = Unit {0}
  ExpressionCounts functions (t.element x index) = ExpressionCounts functions index
  ExpressionCounts functions t.sense = Unit {0}
  ExpressionCounts functions t.next_event = Unit {0}
  ExpressionCounts functions (t.call f values) = HasParameters functions f.function (values_in values) × ValuesCount functions values
  ExpressionCounts functions (t.unary op e) = ExpressionCounts functions e
  ExpressionCounts functions (t.binary op a b) = ExpressionCounts functions a × ExpressionCounts functions b
  ExpressionCounts functions (t.shift op e count) = ExpressionCounts functions e
  ExpressionCounts functions (t.short_circuit op a b) = ExpressionCounts functions a × ExpressionCounts functions b

  pub ValuesCount : List CheckedFunction → CheckedValues → Type 0
  ValuesCount functions t.no_value = Unit {0}
  ValuesCount functions (t.value e more) = ExpressionCounts functions e × ValuesCount functions more

-- the same of an initial value, if one is written
abbrev pub InitialCounts : List CheckedFunction → Option CheckedExpression → Type 0
InitialCounts functions None = Unit {0}
InitialCounts functions (Some e) = ExpressionCounts functions e

abbrev mutual
  pub StatementCounts : List CheckedFunction → CheckedStatement → Type 0
  StatementCounts functions (t.declare of x value) = InitialCounts functions value
  StatementCounts functions (t.assign x e) = ExpressionCounts functions e
  StatementCounts functions (t.store x index e) = ExpressionCounts functions index × ExpressionCounts functions e
  StatementCounts functions (t.choose choice) = ChoiceCounts functions choice
  StatementCounts functions (t.loop x from tested below stepped body) = BlockCounts functions body
  StatementCounts functions (t.emit e) = ExpressionCounts functions e
  StatementCounts functions (t.give at e) = ExpressionCounts functions e
  StatementCounts functions (t.transition at task) = Unit {0}

  pub ChoiceCounts : List CheckedFunction → CheckedChoice → Type 0
  ChoiceCounts functions t.nothing = Unit {0}
  ChoiceCounts functions (t.otherwise block) = BlockCounts functions block
  ChoiceCounts functions (t.test e block more) = ExpressionCounts functions e × BlockCounts functions block × ChoiceCounts functions more

  pub BlockCounts : List CheckedFunction → CheckedBlock → Type 0
  BlockCounts functions t.end = Unit {0}
  BlockCounts functions (t.step s more) = StatementCounts functions s × BlockCounts functions more

-- ---- statements

abbrev mutual
  -- the same of each expression of a statement, for which there is room, an index waiting beneath the value that is stored; what it declares,
  -- and what it counts in, is a local, which the body of the loop doesn't assign
  pub WellFormedStatement : List SharedDeclaration → CheckedStatement → Type 0
  WellFormedStatement shared (t.declare of x None) = IsLocal x.variable
  WellFormedStatement shared (t.declare of x (Some e)) =
      IsLocal x.variable × WellFormedExpression shared e × IsOfType shared x.word_type x.variable × HasRoom 0 e
  WellFormedStatement shared (t.assign x e) =
      IsWordName shared x.variable × WellFormedExpression shared e × IsOfType shared x.word_type x.variable × HasRoom 0 e
  WellFormedStatement shared (t.store x index e) =
      IsArrayName shared x.variable × WellFormedExpression shared index × WellFormedExpression shared e × IsOneWord (type_of index)
      × HasRoom 0 index × HasRoom 1 e
  WellFormedStatement shared (t.choose choice) = WellFormedChoice shared choice
  WellFormedStatement shared (t.loop x from tested below stepped body) =
      IsLocal x.variable × WellFormedBlock shared body × IsWord from × IsWord below × (block_assigns x.variable body ≡ false)
  WellFormedStatement shared (t.emit e) = WellFormedExpression shared e × HasRoom 0 e
  WellFormedStatement shared (t.give at e) = WellFormedExpression shared e × HasRoom 0 e
  WellFormedStatement shared (t.transition at task) = Unit {0}

  -- the same of each test and block of an `if`
  pub WellFormedChoice : List SharedDeclaration → CheckedChoice → Type 0
  WellFormedChoice shared t.nothing = Unit {0}
  WellFormedChoice shared (t.otherwise block) = WellFormedBlock shared block
  WellFormedChoice shared (t.test e block more) =
      WellFormedExpression shared e × WellFormedBlock shared block × WellFormedChoice shared more × HasRoom 0 e

  -- the same of each statement of a block
  pub WellFormedBlock : List SharedDeclaration → CheckedBlock → Type 0
  WellFormedBlock shared t.end = Unit {0}
  WellFormedBlock shared (t.step s more) = WellFormedStatement shared s × WellFormedBlock shared more

-- ---- locals

-- a shared variable, or a local below a number
abbrev pub IsBelow : ℕ → Variable → Type 0
IsBelow n (Shared v) = Unit {0}
IsBelow n (Local k) = k < n

abbrev mutual
  -- each local that is named is below a number
  pub ExpressionNames : ℕ → CheckedExpression → Type 0
  ExpressionNames n (t.number w) = Unit {0}
  ExpressionNames n (t.long_number w) = Unit {0}
  ExpressionNames n (t.name x) = IsBelow n x.variable
  ExpressionNames n (t.element x index) = ExpressionNames n index
  ExpressionNames n t.sense = Unit {0}
  ExpressionNames n t.next_event = Unit {0}
  ExpressionNames n (t.call f values) = ValuesName n values
  ExpressionNames n (t.unary op e) = ExpressionNames n e
  ExpressionNames n (t.binary op a b) = ExpressionNames n a × ExpressionNames n b
  ExpressionNames n (t.shift op e count) = ExpressionNames n e
  ExpressionNames n (t.short_circuit op a b) = ExpressionNames n a × ExpressionNames n b

  pub ValuesName : ℕ → CheckedValues → Type 0
  ValuesName n t.no_value = Unit {0}
  ValuesName n (t.value e more) = ExpressionNames n e × ValuesName n more

-- the same of an initial value, if one is written
abbrev pub InitialNames : ℕ → Option CheckedExpression → Type 0
InitialNames n None = Unit {0}
InitialNames n (Some e) = ExpressionNames n e

abbrev mutual
  pub StatementNames : ℕ → CheckedStatement → Type 0
  StatementNames n (t.declare of x value) = IsBelow n x.variable × InitialNames n value
  StatementNames n (t.assign x e) = IsBelow n x.variable × ExpressionNames n e
  StatementNames n (t.store x index e) = ExpressionNames n index × ExpressionNames n e
  StatementNames n (t.choose choice) = ChoiceNames n choice
  StatementNames n (t.loop x from tested below stepped body) = IsBelow n x.variable × BlockNames n body
  StatementNames n (t.emit e) = ExpressionNames n e
  StatementNames n (t.give at e) = ExpressionNames n e
  StatementNames n (t.transition at task) = Unit {0}

  pub ChoiceNames : ℕ → CheckedChoice → Type 0
  ChoiceNames n t.nothing = Unit {0}
  ChoiceNames n (t.otherwise block) = BlockNames n block
  ChoiceNames n (t.test e block more) = ExpressionNames n e × BlockNames n block × ChoiceNames n more

  pub BlockNames : ℕ → CheckedBlock → Type 0
  BlockNames n t.end = Unit {0}
  BlockNames n (t.step s more) = StatementNames n s × BlockNames n more

-- The body of a task or a function, of whose locals so many are given values and which may call so many functions, is well-formed: so are its
-- statements and calls; its locals are those that are given and those that it declares; no path of it reads an unassigned local; and each of its
-- paths ends, by a transition in a task and by a `return` in a function.
pub record IsWellFormed (program : CheckedProgram) (given callable : ℕ) (in_task : Bool) (body : CheckedBlock) : Type 0 where
  pub statements : WellFormedBlock program.shared body
  pub counts : BlockCounts program.functions body
  pub calls : BlockCallsBelow callable body
  pub locals : BlockNames (given + block_locals body) body
  pub assigned : (at : Span) → ReadsUnassigned program.functions given body at → ⊥
  pub leaves : block_ends in_task body ≡ true
  pub ends : ReachesEnd program.functions body → ⊥

abbrev pub IsWellFormedTask : CheckedProgram → CheckedTask → Type 0
IsWellFormedTask program task = IsWellFormed program 0 (length program.functions) true task.body

-- the function of a number calls those in front of it
abbrev pub IsWellFormedFunction : CheckedProgram → ℕ → CheckedFunction → Type 0
IsWellFormedFunction program k f = IsWellFormed program (length f.parameters) k false f.body
