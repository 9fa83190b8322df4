-- The table of prices: what a tree comes to in one of its columns, in numbers without an end.
use Rattle.std.specs.Prelude.{ℕ, ◌+◌, ◌-◌, ◌*◌, ◌^◌, true, false, min, max, if◌then◌else◌, List, map, Some, None, slice_index}
use Rattle.task_ast.specs.Types.{by_width, joined_type, type_of}
use Rattle.task_ast.specs.Tree.{number, long_number, name, element, sense, next_event, call, unary, binary, shift, short_circuit}
use Rattle.task_ast.specs.Tree.{no_value, value, declare, assign, store, choose}
use Rattle.task_ast.specs.Tree.{loop, emit, give, transition, nothing, otherwise, test, end, step}
use Rattle.task_ast.specs.Paths.{CheckedExpression, CheckedValues, CheckedStatement, CheckedChoice, CheckedBlock}
use Rattle.task_ast.specs.declared.WordType.{WordType}
use Rattle.task_ast.specs.declared.BinaryOperator.{BinaryOperator}
use Rattle.task_ast.specs.declared.BinaryOperator.TheVariants.{Multiply, Divide, Remainder}
use Rattle.cost_bound.specs.Summary.{Summary}
use Rattle.cost_bound.specs.declared.prices.Column.{Column}
use Rattle.cost_bound.specs.declared.prices.Body.{Body}
use Rattle.cost_bound.specs.declared.prices.Body.TheVariants.{Cycles, Emits, Nothing}

-- as 64 bits keep it: a greater number stands at 2^64 - 1
abbrev pub capped : ℕ → ℕ
capped n = min n (2 ^ 64 - 1)

-- the cycles
abbrev pub cycles_column : Column
cycles_column = record {
  -- a number, a scalar, `sense()`
  leaf = 40;
  -- `next_event()`
  next_event = 80;
  -- `-`, `~`, `!`, and the operators between two parts but those below
  operator = 40;
  -- what of these is long or has a long part
  long = 80;
  -- `<<` and `>>`, whose count is no part, of one word and of a long
  shift = 100;
  long_shift = 400;
  multiply = 300;
  -- `/` and `%`
  divide = 400;
  -- a read of `a[e]`
  element = 60;
  -- a call, whose function's body counts each time; and each of its values
  call = 60;
  call_value = 0;
  body = Cycles;
  -- a declaration with a value, an assignment to a scalar, a `return`; and an assignment to a long
  assign = 40;
  long_assign = 80;
  -- an assignment to an element
  store = 120;
  emit = 60;
  transition = 100;
  -- an `if`, and each of its conditions, and what a long one costs more: the greatest of its blocks counts
  choose = 40;
  condition = 0;
  long_condition = 20;
  all_blocks = false;
  -- a `for`, and each of its turns
  repeat = 40;
  turn = 40;
  each_turn = true;
}

-- the words of code of a task that assigns so many shared scalars: all blocks of an `if` count, and a `for` has its block once
abbrev pub words_column : ℕ → Column
words_column scalars = record {
  leaf = 16;
  next_event = 40;
  operator = 16;
  long = 32;
  shift = 16;
  long_shift = 32;
  multiply = 16;
  divide = 16;
  element = 24;
  call = 24;
  call_value = 4;
  body = Nothing;
  assign = 24;
  long_assign = 40;
  store = 60;
  emit = 24;
  transition = 40 + 16 * scalars;
  choose = 0;
  condition = 24;
  long_condition = 8;
  all_blocks = true;
  repeat = 24;
  turn = 0;
  each_turn = false;
}

-- how often `next_event()` stands in a text
abbrev pub events_column : Column
events_column = record {
  leaf = 0;
  next_event = 1;
  operator = 0;
  long = 0;
  shift = 0;
  long_shift = 0;
  multiply = 0;
  divide = 0;
  element = 0;
  call = 0;
  call_value = 0;
  body = Nothing;
  assign = 0;
  long_assign = 0;
  store = 0;
  emit = 0;
  transition = 0;
  choose = 0;
  condition = 0;
  long_condition = 0;
  all_blocks = true;
  repeat = 0;
  turn = 0;
  each_turn = false;
}

-- a node each, of expressions
abbrev pub nodes_column : Column
nodes_column = record {
  leaf = 1;
  next_event = 1;
  operator = 1;
  long = 1;
  shift = 1;
  long_shift = 1;
  multiply = 1;
  divide = 1;
  element = 1;
  call = 1;
  call_value = 0;
  body = Nothing;
  assign = 0;
  long_assign = 0;
  store = 0;
  emit = 0;
  transition = 0;
  choose = 0;
  condition = 0;
  long_condition = 0;
  all_blocks = false;
  repeat = 0;
  turn = 0;
  each_turn = false;
}

-- what a column counts of a function's body at each call of it
abbrev pub body_price : Body → Summary → ℕ
body_price Cycles s = s.cycles
body_price Emits s = s.emits
body_price Nothing s = 0

-- the same of the function of a number, nothing where there is none
abbrev pub called_price : List Summary → Column → ℕ → ℕ
called_price known c k = slice_index (map (body_price c.body) known) k

-- an operator between two parts of a joined type
abbrev pub operator_price : Column → BinaryOperator → WordType → ℕ
operator_price c Multiply t = c.multiply
operator_price c Divide t = c.divide
operator_price c Remainder t = c.divide
operator_price c _ t = by_width t c.operator c.long

abbrev mutual
  -- an expression, whose calls are of functions that these are the summaries of
  pub expression_price : List Summary → Column → CheckedExpression → ℕ
  expression_price known c (number _) = c.leaf
  expression_price known c (long_number _) = c.long
  expression_price known c (name x) = by_width x.word_type c.leaf c.long
  expression_price known c sense = c.leaf
  expression_price known c next_event = c.next_event
  expression_price known c (call f values) = c.call + values_price known c values + called_price known c f.function
  expression_price known c (unary _ e) = by_width (type_of e) c.operator c.long + expression_price known c e
  expression_price known c (binary op a b) =
      operator_price c op.operator (joined_type (type_of a) (type_of b)) + expression_price known c a + expression_price known c b
  expression_price known c (short_circuit _ a b) =
      by_width (joined_type (type_of a) (type_of b)) c.operator c.long + expression_price known c a + expression_price known c b
  expression_price known c (shift _ left _) = by_width (type_of left) c.shift c.long_shift + expression_price known c left
  expression_price known c (element _ index) = c.element + expression_price known c index

  pub values_price : List Summary → Column → CheckedValues → ℕ
  values_price known c no_value = 0
  values_price known c (value e more) = c.call_value + expression_price known c e + values_price known c more

-- two blocks of an `if`: both, or the greater
abbrev pub blocks_together : Column → ℕ → ℕ → ℕ
blocks_together c a b = if c.all_blocks then a + b else max a b

-- n turns of a `for`: each, or the code of one
abbrev pub turns_together : Column → ℕ → ℕ → ℕ
turns_together c n turn = if c.each_turn then n * turn else turn

abbrev mutual
  pub statement_price : List Summary → Column → CheckedStatement → ℕ
  statement_price known c (declare _ _ None) = 0
  statement_price known c (declare _ _ (Some e)) = c.assign + expression_price known c e
  statement_price known c (assign x e) = by_width x.word_type c.assign c.long_assign + expression_price known c e
  statement_price known c (store _ index e) = c.store + expression_price known c index + expression_price known c e
  statement_price known c (emit e) = c.emit + expression_price known c e
  statement_price known c (give _ e) = c.assign + expression_price known c e
  statement_price known c (transition _ _) = c.transition
  statement_price known c (choose choice) = c.choose + conditions_price known c choice + blocks_price known c choice
  statement_price known c (loop _ from _ below _ body) = c.repeat + turns_together c (below - from) (c.turn + block_price known c body)

  pub conditions_price : List Summary → Column → CheckedChoice → ℕ
  conditions_price known c nothing = 0
  conditions_price known c (otherwise _) = 0
  conditions_price known c (test condition _ more) =
      c.condition + by_width (type_of condition) 0 c.long_condition + expression_price known c condition + conditions_price known c more

  pub blocks_price : List Summary → Column → CheckedChoice → ℕ
  blocks_price known c nothing = 0
  blocks_price known c (otherwise block) = block_price known c block
  blocks_price known c (test _ block more) = blocks_together c (block_price known c block) (blocks_price known c more)

  pub block_price : List Summary → Column → CheckedBlock → ℕ
  block_price known c end = 0
  block_price known c (step s more) = statement_price known c s + block_price known c more
