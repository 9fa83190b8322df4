-- What the grammar gives of a tree: each expression has room, numbers are of words, calls have few values, and a local has one word.
use Rattle.std.proofs.Common.{ℕ, ◌+◌, ◌^◌, ◌<◌, ◌≤◌, Option, Some, None}
use Rattle.std.specs.Prelude.{All}
use Rattle.alp_words.specs.Words.{IsWord}
use Rattle.task_ast.specs.Tree.{Expression, Values, Statement, Choice, Block, Function}
use Rattle.task_ast.specs.Tree as t
use Rattle.task_ast.specs.Types.{IsOneWord}
use Rattle.checked_trees.specs.WellFormed.{stack_words, value_words, values_in, enough}

abbrev mutual
  -- the numbers of an expression are of words
  pub IsOfWords : {V F : Type 0} → Expression V F → Type 0
  IsOfWords (t.number w) = IsWord w
  IsOfWords (t.long_number w) = w < 2 ^ 32
  IsOfWords (t.name x) = Unit {0}
  IsOfWords (t.element x index) = IsOfWords index
  IsOfWords t.sense = Unit {0}
  IsOfWords t.next_event = Unit {0}
  IsOfWords (t.call f values) = AreOfWords values × (values_in values ≤ 256)
  IsOfWords (t.unary op e) = IsOfWords e
  IsOfWords (t.binary op a b) = IsOfWords a × IsOfWords b
  IsOfWords (t.shift op e count) = IsOfWords e × IsWord count.value
  IsOfWords (t.short_circuit op a b) = IsOfWords a × IsOfWords b

  -- so are those of a call's values
  pub AreOfWords : {V F : Type 0} → Values V F → Type 0
  AreOfWords t.no_value = Unit {0}
  AreOfWords (t.value e more) = IsOfWords e × AreOfWords more

-- so are those of an expression that has room above so many words
abbrev pub ExpressionFits : {V F : Type 0} → ℕ → Expression V F → Type 0
ExpressionFits beneath e = IsOfWords e × (stack_words e + beneath ≤ enough)

-- the same of a call's values
abbrev pub ValuesFit : {V F : Type 0} → ℕ → Values V F → Type 0
ValuesFit beneath values = AreOfWords values × (value_words values + beneath ≤ enough)

-- the same of an initial value, if one is written
abbrev pub ValueFits : {V F : Type 0} → Option (Expression V F) → Type 0
ValueFits None = Unit {0}
ValueFits (Some e) = ExpressionFits 0 e

abbrev mutual
  -- the same of each expression of a statement; a local that it declares has one word. An index waits beneath the value that is stored
  pub StatementFits : {V T F : Type 0} → Statement V T F → Type 0
  StatementFits (t.declare of x value) = IsOneWord of × ValueFits value
  StatementFits (t.assign x e) = ExpressionFits 0 e
  StatementFits (t.store x index e) = ExpressionFits 0 index × ExpressionFits 1 e
  StatementFits (t.choose choice) = ChoiceFits choice
  StatementFits (t.loop x from tested below stepped body) = BlockFits body × IsWord from × IsWord below
  StatementFits (t.emit e) = ExpressionFits 0 e
  StatementFits (t.give at e) = ExpressionFits 0 e
  StatementFits (t.transition at task) = Unit {0}

  pub ChoiceFits : {V T F : Type 0} → Choice V T F → Type 0
  ChoiceFits t.nothing = Unit {0}
  ChoiceFits (t.otherwise block) = BlockFits block
  ChoiceFits (t.test e block more) = ExpressionFits 0 e × BlockFits block × ChoiceFits more

  pub BlockFits : {V T F : Type 0} → Block V T F → Type 0
  BlockFits t.end = Unit {0}
  BlockFits (t.step s more) = StatementFits s × BlockFits more

-- the same of a function, which gives one word and takes words
pub record FunctionFits {V T F : Type 0} (f : Function V T F) : Type 0 where
  pub gives : IsOneWord f.word_type
  pub takes : All (λ p. IsOneWord p.word_type) f.parameters
  pub body : BlockFits f.body
