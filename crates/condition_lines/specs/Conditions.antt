-- The conditions of a task, numbered from 0 in the order of the text.
use Rattle.std.specs.Prelude.{ℕ, suc, ◌+◌, List, [], ◌∷◌, ◌++◌, map}
use Rattle.std.specs.Global.{Vec}
use Rattle.task_ast.specs.Tree.{Statement, declare, assign, store, choose, loop, emit, give, transition, Choice, nothing, otherwise, test, Block, end, step}

abbrev mutual
  -- how many there are
  pub statement_conditions : {V T F : Type 0} → Statement V T F → ℕ
  statement_conditions (choose choice) = choice_conditions choice
  statement_conditions (loop x from tested below stepped body) = block_conditions body
  statement_conditions (declare of x e) = 0
  statement_conditions (assign x e) = 0
  statement_conditions (store x index e) = 0
  statement_conditions (emit e) = 0
  statement_conditions (give at e) = 0
  statement_conditions (transition at t) = 0

  pub choice_conditions : {V T F : Type 0} → Choice V T F → ℕ
  choice_conditions nothing = 0
  choice_conditions (otherwise block) = block_conditions block
  choice_conditions (test e block more) = suc (block_conditions block + choice_conditions more)

  pub block_conditions : {V T F : Type 0} → Block V T F → ℕ
  block_conditions end = 0
  block_conditions (step s more) = statement_conditions s + block_conditions more

-- the numbers of an `if`'s own conditions, of which the first has this one: behind a condition come those of its block
abbrev pub own_numbers : {V T F : Type 0} → ℕ → Choice V T F → List ℕ
own_numbers k nothing = []
own_numbers k (otherwise block) = []
own_numbers k (test e block more) = k ∷ own_numbers (suc k + block_conditions block) more

abbrev mutual
  -- the numbers of the conditions of each `if`, in the order of the text
  pub statement_ifs : {V T F : Type 0} → ℕ → Statement V T F → List (List ℕ)
  statement_ifs k (choose choice) = own_numbers k choice ∷ choice_ifs k choice
  statement_ifs k (loop x from tested below stepped body) = block_ifs k body
  statement_ifs k (declare of x e) = []
  statement_ifs k (assign x e) = []
  statement_ifs k (store x index e) = []
  statement_ifs k (emit e) = []
  statement_ifs k (give at e) = []
  statement_ifs k (transition at t) = []

  pub choice_ifs : {V T F : Type 0} → ℕ → Choice V T F → List (List ℕ)
  choice_ifs k nothing = []
  choice_ifs k (otherwise block) = block_ifs k block
  choice_ifs k (test e block more) = block_ifs (suc k) block ++ choice_ifs (suc k + block_conditions block) more

  pub block_ifs : {V T F : Type 0} → ℕ → Block V T F → List (List ℕ)
  block_ifs k end = []
  block_ifs k (step s more) = statement_ifs k s ++ block_ifs (k + statement_conditions s) more

-- lists of numbers as the program has them
abbrev pub lists_of : List (Vec ℕ) → List (List ℕ)
lists_of ifs = map (λ numbers. numbers.items) ifs
