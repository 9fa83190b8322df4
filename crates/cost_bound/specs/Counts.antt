-- How often a task may emit or store to an array, which variables it assigns, and which functions it calls.
use Rattle.std.specs.Prelude.{ℕ, ◌+◌, ◌-◌, ◌*◌, ◌==◌, ◌||◌, Bool, true, false, max, if◌then◌else◌, List, [], ◌∷◌, map, Some, None, slice_index}
pub use Rattle.task_ast.specs.Paths.{CheckedBlock}
use Rattle.task_ast.specs.Paths.{CheckedExpression, CheckedValues, CheckedStatement, CheckedChoice}
use Rattle.task_ast.specs.Tree.{number, long_number, name, element, sense, next_event, call, unary, binary, shift, short_circuit, no_value, value}
use Rattle.task_ast.specs.Tree.{declare, assign, store, choose, loop, emit, give, transition, nothing, otherwise, test, end, step}
use Rattle.task_ast.specs.declared.names.Variable.{Variable}
use Rattle.task_ast.specs.declared.names.Variable.TheVariants.{Shared, Local}
use Rattle.cost_bound.specs.Summary.{Summary}

abbrev mutual
  -- what the calls of an expression count, by what each function does: each by the text, evaluated or not
  pub expression_count : List ℕ → CheckedExpression → ℕ
  expression_count ns (number _) = 0
  expression_count ns (long_number _) = 0
  expression_count ns (name _) = 0
  expression_count ns (element _ index) = expression_count ns index
  expression_count ns sense = 0
  expression_count ns next_event = 0
  expression_count ns (call f values) = values_count ns values + slice_index ns f.function
  expression_count ns (unary _ e) = expression_count ns e
  expression_count ns (binary _ a b) = expression_count ns a + expression_count ns b
  expression_count ns (shift _ e _) = expression_count ns e
  expression_count ns (short_circuit _ a b) = expression_count ns a + expression_count ns b

  pub values_count : List ℕ → CheckedValues → ℕ
  values_count ns no_value = 0
  values_count ns (value e more) = expression_count ns e + values_count ns more

-- a statement by itself, of the kind or not
abbrev pub own_count : (CheckedStatement → Bool) → CheckedStatement → ℕ
own_count is s = if is s then 1 else 0

abbrev mutual
  -- how often a task comes by statements of a kind at most: 1 where one stands and what its calls count, a block the sum, an `if` its
  -- conditions and its greatest block, a `for` its turns times its block
  pub statement_count : List ℕ → (CheckedStatement → Bool) → CheckedStatement → ℕ
  statement_count ns is (choose choice) = conditions_count ns choice + choice_count ns is choice
  statement_count ns is (loop _ from _ below _ body) = (below - from) * block_count ns is body
  statement_count ns is (declare w n None) = own_count is (declare w n None)
  statement_count ns is (declare w n (Some e)) = expression_count ns e + own_count is (declare w n (Some e))
  statement_count ns is (assign n e) = expression_count ns e + own_count is (assign n e)
  statement_count ns is (store n i e) = expression_count ns i + expression_count ns e + own_count is (store n i e)
  statement_count ns is (emit e) = expression_count ns e + own_count is (emit e)
  statement_count ns is (give at e) = expression_count ns e + own_count is (give at e)
  statement_count ns is (transition at t) = own_count is (transition at t)

  pub conditions_count : List ℕ → CheckedChoice → ℕ
  conditions_count ns nothing = 0
  conditions_count ns (otherwise _) = 0
  conditions_count ns (test condition _ more) = expression_count ns condition + conditions_count ns more

  pub choice_count : List ℕ → (CheckedStatement → Bool) → CheckedChoice → ℕ
  choice_count ns is nothing = 0
  choice_count ns is (otherwise block) = block_count ns is block
  choice_count ns is (test _ block more) = max (block_count ns is block) (choice_count ns is more)

  pub block_count : List ℕ → (CheckedStatement → Bool) → CheckedBlock → ℕ
  block_count ns is end = 0
  block_count ns is (step s more) = statement_count ns is s + block_count ns is more

abbrev pub is_emit : CheckedStatement → Bool
is_emit (emit _) = true
is_emit _ = false

-- whether a variable is the shared one of a number
abbrev pub is_shared : ℕ → Variable → Bool
is_shared i (Shared j) = j == i
is_shared i (Local _) = false

-- an assignment to an element of a shared array
abbrev pub is_store_to : ℕ → CheckedStatement → Bool
is_store_to i (store n _ _) = is_shared i n.variable
is_store_to i _ = false

-- the counted emits of each function
abbrev pub called_emits : List Summary → List ℕ
called_emits known = map (λ s. s.emits) known

-- counted emits
unfoldable pub emits_of : List Summary → CheckedBlock → ℕ
emits_of known b = block_count (called_emits known) is_emit b

-- the counted stores of each function to a shared array
abbrev pub called_stores : List Summary → ℕ → List ℕ
called_stores known i = map (λ s. s.stores i) known

-- counted stores to a shared array
unfoldable pub stores_of : List Summary → ℕ → CheckedBlock → ℕ
stores_of known i b = block_count (called_stores known i) (is_store_to i) b

abbrev mutual
  -- whether a shared variable stands on the left of an assignment in the text itself
  pub statement_assigns : ℕ → CheckedStatement → Bool
  statement_assigns i (assign n _) = is_shared i n.variable
  statement_assigns i (store n _ _) = is_shared i n.variable
  statement_assigns i (choose choice) = choice_assigns i choice
  statement_assigns i (loop _ _ _ _ _ body) = block_assigns i body
  statement_assigns i (declare _ _ _) = false
  statement_assigns i (emit _) = false
  statement_assigns i (give _ _) = false
  statement_assigns i (transition _ _) = false

  pub choice_assigns : ℕ → CheckedChoice → Bool
  choice_assigns i nothing = false
  choice_assigns i (otherwise block) = block_assigns i block
  choice_assigns i (test _ block more) = block_assigns i block || choice_assigns i more

  pub block_assigns : ℕ → CheckedBlock → Bool
  block_assigns i end = false
  block_assigns i (step s more) = statement_assigns i s || block_assigns i more

abbrev mutual
  -- whether the function of a number is called in the text itself
  pub expression_calls : ℕ → CheckedExpression → Bool
  expression_calls k (number _) = false
  expression_calls k (long_number _) = false
  expression_calls k (name _) = false
  expression_calls k (element _ index) = expression_calls k index
  expression_calls k sense = false
  expression_calls k next_event = false
  expression_calls k (call f values) = f.function == k || values_call k values
  expression_calls k (unary _ e) = expression_calls k e
  expression_calls k (binary _ a b) = expression_calls k a || expression_calls k b
  expression_calls k (shift _ e _) = expression_calls k e
  expression_calls k (short_circuit _ a b) = expression_calls k a || expression_calls k b

  pub values_call : ℕ → CheckedValues → Bool
  values_call k no_value = false
  values_call k (value e more) = expression_calls k e || values_call k more

abbrev mutual
  pub statement_calls : ℕ → CheckedStatement → Bool
  statement_calls k (declare _ _ None) = false
  statement_calls k (declare _ _ (Some e)) = expression_calls k e
  statement_calls k (assign _ e) = expression_calls k e
  statement_calls k (store _ i e) = expression_calls k i || expression_calls k e
  statement_calls k (choose choice) = choice_calls k choice
  statement_calls k (loop _ _ _ _ _ body) = block_calls k body
  statement_calls k (emit e) = expression_calls k e
  statement_calls k (give _ e) = expression_calls k e
  statement_calls k (transition _ _) = false

  pub choice_calls : ℕ → CheckedChoice → Bool
  choice_calls k nothing = false
  choice_calls k (otherwise block) = block_calls k block
  choice_calls k (test condition block more) = expression_calls k condition || (block_calls k block || choice_calls k more)

  pub block_calls : ℕ → CheckedBlock → Bool
  block_calls k end = false
  block_calls k (step s more) = statement_calls k s || block_calls k more

-- whether this is so of one of the functions that are called, the first of them being that of a number
abbrev pub some_called_from : (ℕ → Bool) → (Summary → Bool) → ℕ → List Summary → Bool
some_called_from calls is k [] = false
some_called_from calls is k (s ∷ more) = (if calls k then is s else false) || some_called_from calls is (k + 1) more

-- the greatest of those of the functions that are called
abbrev pub most_called_from : (ℕ → Bool) → (Summary → ℕ) → ℕ → List Summary → ℕ
most_called_from calls of k [] = 0
most_called_from calls of k (s ∷ more) = max (if calls k then of s else 0) (most_called_from calls of (k + 1) more)

-- the sum of those of the functions of the marks
abbrev pub all_called_from : (ℕ → Bool) → (Summary → ℕ) → ℕ → List Summary → ℕ
all_called_from marks of k [] = 0
all_called_from marks of k (s ∷ more) = (if marks k then of s else 0) + all_called_from marks of (k + 1) more

-- whether a shared variable stands on the left of an assignment in the text or in a function that it calls
abbrev pub assigns_of : List Summary → ℕ → CheckedBlock → Bool
assigns_of known i b = some_called_from (λ k. block_calls k b) (λ s. s.assigns i) 0 known || block_assigns i b

-- whether the text calls the function of a number, or one that reaches it
abbrev pub reaches_of : List Summary → ℕ → CheckedBlock → Bool
reaches_of known j b = some_called_from (λ k. block_calls k b) (λ s. s.reaches j) 0 known || block_calls j b

-- the words of the code of the functions that a text reaches, with what each has beside its body
abbrev pub routine_words : List Summary → CheckedBlock → ℕ
routine_words known b = all_called_from (λ k. reaches_of known k b) (λ s. 40 + s.words) 0 known
