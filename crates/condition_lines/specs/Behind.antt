-- The lines of the `if`s that stand behind those of others, from the lines of these on.
use Rattle.std.specs.Prelude.{ℕ, List, [], ◌∷◌, drop}
use Rattle.task_ast.specs.Tree.{Statement, declare, assign, store, choose, loop, emit, give, transition, Choice, nothing, otherwise, test, Block, end, step}
use Rattle.task_ast.specs.Paths.{CheckedFunction}

abbrev mutual
  -- behind those of a statement: one is that of an `if` itself
  pub statement_behind : {V T F : Type 0} → List ℕ → Statement V T F → List ℕ
  statement_behind lines (choose choice) = choice_behind (drop 1 lines) choice
  statement_behind lines (loop x from tested below stepped body) = block_behind lines body
  statement_behind lines (declare of x e) = lines
  statement_behind lines (assign x e) = lines
  statement_behind lines (store x index e) = lines
  statement_behind lines (emit e) = lines
  statement_behind lines (give at e) = lines
  statement_behind lines (transition at t) = lines

  pub choice_behind : {V T F : Type 0} → List ℕ → Choice V T F → List ℕ
  choice_behind lines nothing = lines
  choice_behind lines (otherwise block) = block_behind lines block
  choice_behind lines (test e block more) = choice_behind (block_behind lines block) more

  pub block_behind : {V T F : Type 0} → List ℕ → Block V T F → List ℕ
  block_behind lines end = lines
  block_behind lines (step s more) = block_behind (statement_behind lines s) more

-- behind those of all functions
abbrev pub functions_behind : List ℕ → List CheckedFunction → List ℕ
functions_behind lines [] = lines
functions_behind lines (f ∷ fs) = functions_behind (block_behind lines f.body) fs
