-- What stands where it may: a call of a function stands behind it, `return` in functions and `transition_to` in tasks.
use Rattle.std.specs.Prelude.{◌≡◌, ℕ, suc, Bool, true, false, not, ◌&&◌, nat_lt, List, [], ◌∷◌, length, Option, Some, None, All}
use Rattle.task_ast.specs.Tree as t
use Rattle.task_ast.specs.Paths.{CheckedExpression, CheckedValues, CheckedStatement, CheckedChoice, CheckedBlock, CheckedFunction, CheckedTask, CheckedProgram}
use Rattle.task_ast.specs.Calls.{CallsAreKnown}

-- ---- `return` and `transition_to`

abbrev mutual
  -- whether a statement ends what it stands in as it may: in a task by transitions, in a function by returns
  pub statement_ends : Bool → CheckedStatement → Bool
  statement_ends in_task (t.declare of v value) = true
  statement_ends in_task (t.assign v e) = true
  statement_ends in_task (t.store v index e) = true
  statement_ends in_task (t.choose c) = choice_ends in_task c
  statement_ends in_task (t.loop v from w below u body) = block_ends in_task body
  statement_ends in_task (t.emit e) = true
  statement_ends in_task (t.give at e) = not in_task
  statement_ends in_task (t.transition at n) = in_task

  pub choice_ends : Bool → CheckedChoice → Bool
  choice_ends in_task t.nothing = true
  choice_ends in_task (t.otherwise b) = block_ends in_task b
  choice_ends in_task (t.test e b more) = block_ends in_task b && choice_ends in_task more

  pub block_ends : Bool → CheckedBlock → Bool
  block_ends in_task t.end = true
  block_ends in_task (t.step s more) = statement_ends in_task s && block_ends in_task more

-- Calls are of functions in front of them; no `return` stands in a task, and no `transition_to` in a function.
pub record IsPlaced (p : CheckedProgram) : Type 0 where
  pub calls : CallsAreKnown p
  pub functions : All (λ f. block_ends false f.body ≡ true) p.functions
  pub tasks : All (λ task. block_ends true task.body ≡ true) p.tasks

-- ---- both at once, as it is tested; so many functions stand in front

abbrev mutual
  pub expression_stands : ℕ → CheckedExpression → Bool
  expression_stands n (t.number w) = true
  expression_stands n (t.long_number w) = true
  expression_stands n (t.name x) = true
  expression_stands n (t.element x index) = expression_stands n index
  expression_stands n t.sense = true
  expression_stands n t.next_event = true
  expression_stands n (t.call f values) = nat_lt f.function n && values_stand n values
  expression_stands n (t.unary op e) = expression_stands n e
  expression_stands n (t.binary op a b) = expression_stands n a && expression_stands n b
  expression_stands n (t.shift op e count) = expression_stands n e
  expression_stands n (t.short_circuit op a b) = expression_stands n a && expression_stands n b

  pub values_stand : ℕ → CheckedValues → Bool
  values_stand n t.no_value = true
  values_stand n (t.value e more) = expression_stands n e && values_stand n more

-- an initial value, if one is written
abbrev pub value_stands : ℕ → Option CheckedExpression → Bool
value_stands n None = true
value_stands n (Some e) = expression_stands n e

abbrev mutual
  pub statement_stands : ℕ → Bool → CheckedStatement → Bool
  statement_stands n in_task (t.declare of v value) = value_stands n value
  statement_stands n in_task (t.assign v e) = expression_stands n e
  statement_stands n in_task (t.store v index e) = expression_stands n index && expression_stands n e
  statement_stands n in_task (t.choose c) = choice_stands n in_task c
  statement_stands n in_task (t.loop v from w below u body) = block_stands n in_task body
  statement_stands n in_task (t.emit e) = expression_stands n e
  statement_stands n in_task (t.give at e) = not in_task && expression_stands n e
  statement_stands n in_task (t.transition at task) = in_task

  pub choice_stands : ℕ → Bool → CheckedChoice → Bool
  choice_stands n in_task t.nothing = true
  choice_stands n in_task (t.otherwise b) = block_stands n in_task b
  choice_stands n in_task (t.test e b more) = (expression_stands n e && block_stands n in_task b) && choice_stands n in_task more

  pub block_stands : ℕ → Bool → CheckedBlock → Bool
  block_stands n in_task t.end = true
  block_stands n in_task (t.step s more) = statement_stands n in_task s && block_stands n in_task more

-- functions, of which the first has so many in front
abbrev pub functions_stand : ℕ → List CheckedFunction → Bool
functions_stand n [] = true
functions_stand n (f ∷ more) = block_stands n false f.body && functions_stand (suc n) more

-- tasks behind so many functions
abbrev pub tasks_stand : ℕ → List CheckedTask → Bool
tasks_stand n [] = true
tasks_stand n (k ∷ more) = block_stands n true k.body && tasks_stand n more

-- a whole source
abbrev pub all_stand : CheckedProgram → Bool
all_stand p = functions_stand 0 p.functions && tasks_stand (length p.functions) p.tasks
