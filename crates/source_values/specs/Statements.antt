-- What statements do: the new words of the variables, the words emitted, the readings and answers left, and whether the task or function
-- goes on; and what functions do.
use Rattle.std.specs.Prelude.{ℕ, zero, suc, ◌+◌, ◌-◌, ◌*◌, ◌/◌, ◌%◌, max, List, [], ◌∷◌, ◌++◌, take, Option, Some, None, if◌then◌else◌}
use Rattle.std.specs.Prelude.{slice_index}
use Rattle.task_ast.specs.Tree.{declare, assign, store, choose, loop, emit, give, transition, nothing, otherwise, test, end, step}
use Rattle.task_ast.specs.Tree.{number, long_number, name, element, sense, next_event, call, unary, binary, shift, short_circuit}
use Rattle.task_ast.specs.Tree as t
use Rattle.task_ast.specs.Answers.{answers}
use Rattle.task_ast.specs.Paths.{CheckedStatement, CheckedChoice, CheckedBlock, CheckedFunction, CheckedProgram}
use Rattle.task_ast.specs.declared.names.Variable.{Variable}
use Rattle.task_ast.specs.declared.names.VariableName.{VariableName}
pub use Rattle.source_values.specs.Values.{Attempt, word_of}
use Rattle.source_values.specs.Values.{CheckedExpression, CheckedValues, Evaluated, Meaning, new_locals, with_word, by_width, type_of, converted, gives}
use Rattle.source_values.specs.Values.{value_of, holds}

-- how statements end: behind the last one, at a transition to a task, at a `return` with a word, or where the readings run out
pub data Outcome : Type 0 where
  goes_on : Attempt → Outcome
  to_task : ℕ → Attempt → Outcome
  returns : ℕ → Attempt → Outcome
  short : Outcome

-- what stands behind runs only where the outcome goes on
abbrev pub and_then : Outcome → (Attempt → Outcome) → Outcome
and_then (goes_on s) next = next s
and_then (to_task t s) next = to_task t s
and_then (returns w s) next = returns w s
and_then short next = short

-- goes on with a value, and the attempt behind it
abbrev pub if_value : Option Evaluated → (ℕ → Attempt → Outcome) → Outcome
if_value None next = short
if_value (Some x) next = next x.value x.behind

-- evaluates an expression, by the functions that are known, and goes on with its value
abbrev pub with_value : List Meaning → CheckedExpression → Attempt → (ℕ → Attempt → Outcome) → Outcome
with_value known e s next = if_value (value_of known e s) next

-- the attempt with another word of a variable
abbrev pub assigned : Attempt → Variable → ℕ → ℕ → Attempt
assigned s x i w = record s { variables = with_word s.variables x i w }

-- the attempt with another value of a scalar: its word, or of a long one its two words, the low one first
abbrev pub assigned_to : Attempt → VariableName → ℕ → Attempt
assigned_to s x w =
    by_width x.word_type (assigned s x.variable 0 w) (assigned (assigned s x.variable 0 (w % 65536)) x.variable 1 (w / 65536))

-- the same with the value of an expression, which becomes one of the scalar's type
abbrev pub assigned_value : Attempt → VariableName → CheckedExpression → ℕ → Attempt
assigned_value s x e w = assigned_to s x (converted (type_of e) x.word_type w)

-- so many turns of a loop over a variable, from number k on; behind them the variable is the number after the last
abbrev pub turns : ℕ → ℕ → Variable → (Attempt → Outcome) → Attempt → Outcome
turns zero k x body s = goes_on (assigned s x 0 k)
turns (suc n) k x body s = and_then (body (assigned s x 0 k)) (turns n (k + 1) x body)

abbrev mutual
  -- A declaration without a value does nothing: no accepted source reads such a local before it is assigned. An index is
  -- evaluated before the value that is stored. A loop is its body for each number from A below B, and leaves its variable
  -- at the greater of the two
  pub run_statement : List Meaning → CheckedStatement → Attempt → Outcome
  run_statement known (declare t x None) s = goes_on s
  run_statement known (declare t x (Some e)) s = with_value known e s (λ w s. goes_on (assigned_value s x e w))
  run_statement known (assign x e) s = with_value known e s (λ w s. goes_on (assigned_value s x e w))
  run_statement known (store x index e) s =
      with_value known index s (λ i s. with_value known e s (λ w s. goes_on (assigned s x.variable i (word_of e w))))
  run_statement known (choose choice) s = run_choice known choice s
  run_statement known (loop x from tested below stepped body) s = turns (below - from) from x.variable (run_block known body) s
  run_statement known (emit e) s = with_value known e s (λ w s. goes_on (record s { emitted = s.emitted ++ word_of e w ∷ [] }))
  run_statement known (give at e) s = with_value known e s (λ w s. returns (word_of e w) s)
  run_statement known (transition at t) s = to_task t.task s

  -- the first block whose condition holds, else the last block, if there is one
  pub run_choice : List Meaning → CheckedChoice → Attempt → Outcome
  run_choice known nothing s = goes_on s
  run_choice known (otherwise block) s = run_block known block s
  run_choice known (test condition block more) s =
      with_value known condition s (λ w s. if holds w then run_block known block s else run_choice known more s)

  -- one statement after another, up to the first transition or `return`
  pub run_block : List Meaning → CheckedBlock → Attempt → Outcome
  run_block known end s = goes_on s
  run_block known (step statement more) s = and_then (run_statement known statement s) (run_block known more)

-- ---- functions

-- an attempt in a function: it has locals of its own, and the words that it is called with are the first of them
abbrev pub entered : List ℕ → Attempt → Attempt
entered words s = record s { variables = record s.variables { locals = take 256 (words ++ new_locals) } }

-- what a function gives whose body ends so: behind it the caller has its own locals again. None where the readings ran out: no accepted
-- function ends without a `return` else
abbrev pub left_with : List ℕ → Outcome → Option Evaluated
left_with locals (returns w s) = gives w (record s { variables = record s.variables { locals = locals } })
left_with locals (goes_on s) = None
left_with locals (to_task t s) = None
left_with locals short = None

-- what a function is, by those in front of it
abbrev pub meaning_of : List Meaning → CheckedFunction → Meaning
meaning_of known f words s = left_with s.variables.locals (run_block known f.body (entered words s))

-- the functions of a source, in the order of the text
abbrev pub meanings : CheckedProgram → List Meaning
meanings p = answers meaning_of p.functions

-- ---- emitted words

abbrev mutual
  -- how many words an expression emits at most, by how many each function does: those of all its calls
  pub expression_emits : List ℕ → CheckedExpression → ℕ
  expression_emits counts (number n) = 0
  expression_emits counts (long_number n) = 0
  expression_emits counts (name x) = 0
  expression_emits counts (element x index) = expression_emits counts index
  expression_emits counts sense = 0
  expression_emits counts next_event = 0
  expression_emits counts (call f values) = values_emits counts values + slice_index counts f.function
  expression_emits counts (unary op e) = expression_emits counts e
  expression_emits counts (binary op a b) = expression_emits counts a + expression_emits counts b
  expression_emits counts (shift op e count) = expression_emits counts e
  expression_emits counts (short_circuit op a b) = expression_emits counts a + expression_emits counts b

  pub values_emits : List ℕ → CheckedValues → ℕ
  values_emits counts t.no_value = 0
  values_emits counts (t.value e more) = expression_emits counts e + values_emits counts more

-- the same of all conditions of an `if`
abbrev pub conditions_emit : List ℕ → CheckedChoice → ℕ
conditions_emit counts nothing = 0
conditions_emit counts (otherwise block) = 0
conditions_emit counts (test condition block more) = expression_emits counts condition + conditions_emit counts more

abbrev mutual
  -- how many words a statement emits at most: those of its calls, of an `if` in all conditions, and those of its greatest block; of a
  -- loop its turns times its body
  pub statement_emits : List ℕ → CheckedStatement → ℕ
  statement_emits counts (declare t x None) = 0
  statement_emits counts (declare t x (Some e)) = expression_emits counts e
  statement_emits counts (assign x e) = expression_emits counts e
  statement_emits counts (store x index e) = expression_emits counts index + expression_emits counts e
  statement_emits counts (choose choice) = conditions_emit counts choice + choice_emits counts choice
  statement_emits counts (loop x from tested below stepped body) = (below - from) * block_emits counts body
  statement_emits counts (emit e) = expression_emits counts e + 1
  statement_emits counts (give at e) = expression_emits counts e
  statement_emits counts (transition at t) = 0

  -- the greatest of the blocks
  pub choice_emits : List ℕ → CheckedChoice → ℕ
  choice_emits counts nothing = 0
  choice_emits counts (otherwise block) = block_emits counts block
  choice_emits counts (test condition block more) = max (block_emits counts block) (choice_emits counts more)

  pub block_emits : List ℕ → CheckedBlock → ℕ
  block_emits counts end = 0
  block_emits counts (step statement more) = statement_emits counts statement + block_emits counts more

-- how many words a function emits at most, by those in front of it
abbrev pub function_emits : List ℕ → CheckedFunction → ℕ
function_emits counts f = block_emits counts f.body

-- the same of each function of a source, in the order of the text
abbrev pub emit_counts : CheckedProgram → List ℕ
emit_counts p = answers function_emits p.functions
