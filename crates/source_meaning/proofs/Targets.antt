-- What the statements of a source without a fault may do: those of a task go only to tasks that the source names, and those of a function only return.
use Rattle.std.proofs.Common.{◌≡◌, ◌<◌, ℕ, Bool, true, false, List, [], ◌∷◌, nat_lt, ltb-true}
use Rattle.std.specs.List.{list_all}
use Rattle.std.proofs.lemmas.Bool.{and_parts}
use Rattle.task_ast.specs.Tree as t
use Rattle.task_ast.specs.Paths.{CheckedStatement, CheckedChoice, CheckedBlock, CheckedFunction}
use Rattle.task_check.specs.LookedUp.{statement_targets, choice_targets, block_targets, function_targets}
use Rattle.task_check.specs.Placed.{statement_ends, choice_ends, block_ends}
use Rattle.source_meaning.proofs.Ends.{StatementMay, ChoiceMay, BlockMay}

abbrev pub below : ℕ → List ℕ → Bool
below k targets = list_all (λ n. nat_lt n k) targets

-- a task goes to tasks with a number below k, and doesn't return
abbrev pub IsTaskTarget : ℕ → ℕ → Type 0
IsTaskTarget k n = n < k

abbrev pub TaskMay : ℕ → CheckedBlock → Type 0
TaskMay k b = BlockMay (IsTaskTarget k) ⊥ b

-- a function goes to no task
abbrev pub NoTarget : ℕ → Type 0
NoTarget n = ⊥

abbrev pub FunctionMay : CheckedBlock → Type 0
FunctionMay b = BlockMay NoTarget (Unit {0}) b

-- what may be done, and what stands behind it
pub record MayAndRest (k : ℕ) (May : Type 0) (more : List ℕ) : Type 0 where
  pub may : May
  pub rest : below k more ≡ true

module _ (k : ℕ) where
  mutual
    statement_in_task : (s : CheckedStatement) (more : List ℕ) → statement_ends true s ≡ true → below k (statement_targets s more) ≡ true
        → MayAndRest k (StatementMay (IsTaskTarget k) ⊥ s) more
    statement_in_task (t.declare of x e) more ends h = record { may = tt; rest = h }
    statement_in_task (t.assign x e) more ends h = record { may = tt; rest = h }
    statement_in_task (t.store x index e) more ends h = record { may = tt; rest = h }
    statement_in_task (t.choose choice) more ends h = let c = choice_in_task choice more ends h in record { may = c.may; rest = c.rest }
    statement_in_task (t.loop x from tested under stepped body) more ends h =
        let b = block_in_task body more ends h in record { may = b.may; rest = b.rest }
    statement_in_task (t.emit e) more ends h = record { may = tt; rest = h }
    statement_in_task (t.give at e) more ends h = absurd (let never : false ≡ true = ends in cc)
    statement_in_task (t.transition at task) more ends h =
        let p = and_parts (nat_lt task.task k) (below k more) h in record { may = ltb-true task.task k p.0; rest = p.1 }

    choice_in_task : (c : CheckedChoice) (more : List ℕ) → choice_ends true c ≡ true → below k (choice_targets c more) ≡ true
        → MayAndRest k (ChoiceMay (IsTaskTarget k) ⊥ c) more
    choice_in_task t.nothing more ends h = record { may = tt; rest = h }
    choice_in_task (t.otherwise block) more ends h = let b = block_in_task block more ends h in record { may = b.may; rest = b.rest }
    choice_in_task (t.test e block others) more ends h =
        let parts = and_parts (block_ends true block) (choice_ends true others) ends in
        let b = block_in_task block (choice_targets others more) parts.0 h in
        let c = choice_in_task others more parts.1 b.rest in
        record { may = (b.may, c.may); rest = c.rest }

    pub block_in_task : (b : CheckedBlock) (more : List ℕ) → block_ends true b ≡ true → below k (block_targets b more) ≡ true
        → MayAndRest k (TaskMay k b) more
    block_in_task t.end more ends h = record { may = tt; rest = h }
    block_in_task (t.step s others) more ends h =
        let parts = and_parts (statement_ends true s) (block_ends true others) ends in
        let one = statement_in_task s (block_targets others more) parts.0 h in
        let two = block_in_task others more parts.1 one.rest in
        record { may = (one.may, two.may); rest = two.rest }

  mutual
    statement_rest : (s : CheckedStatement) (more : List ℕ) → below k (statement_targets s more) ≡ true → below k more ≡ true
    statement_rest (t.declare of x e) more h = h
    statement_rest (t.assign x e) more h = h
    statement_rest (t.store x index e) more h = h
    statement_rest (t.choose choice) more h = choice_rest choice more h
    statement_rest (t.loop x from tested under stepped body) more h = block_rest body more h
    statement_rest (t.emit e) more h = h
    statement_rest (t.give at e) more h = h
    statement_rest (t.transition at task) more h = (and_parts (nat_lt task.task k) (below k more) h).1

    choice_rest : (c : CheckedChoice) (more : List ℕ) → below k (choice_targets c more) ≡ true → below k more ≡ true
    choice_rest t.nothing more h = h
    choice_rest (t.otherwise block) more h = block_rest block more h
    choice_rest (t.test e block others) more h = choice_rest others more (block_rest block (choice_targets others more) h)

    block_rest : (b : CheckedBlock) (more : List ℕ) → below k (block_targets b more) ≡ true → below k more ≡ true
    block_rest t.end more h = h
    block_rest (t.step s others) more h = block_rest others more (statement_rest s (block_targets others more) h)

  -- the targets behind the functions
  pub functions_rest : (fs : List CheckedFunction) (more : List ℕ) → below k (function_targets fs more) ≡ true → below k more ≡ true
  functions_rest [] more h = h
  functions_rest (f ∷ others) more h = functions_rest others more (block_rest f.body (function_targets others more) h)

mutual
  statement_in_function : (s : CheckedStatement) → statement_ends false s ≡ true → StatementMay NoTarget (Unit {0}) s
  statement_in_function (t.declare of x e) ends = tt
  statement_in_function (t.assign x e) ends = tt
  statement_in_function (t.store x index e) ends = tt
  statement_in_function (t.choose choice) ends = choice_in_function choice ends
  statement_in_function (t.loop x from tested under stepped body) ends = block_in_function body ends
  statement_in_function (t.emit e) ends = tt
  statement_in_function (t.give at e) ends = tt
  statement_in_function (t.transition at task) ends = let never : false ≡ true = ends in cc

  choice_in_function : (c : CheckedChoice) → choice_ends false c ≡ true → ChoiceMay NoTarget (Unit {0}) c
  choice_in_function t.nothing ends = tt
  choice_in_function (t.otherwise block) ends = block_in_function block ends
  choice_in_function (t.test e block more) ends =
      let parts = and_parts (block_ends false block) (choice_ends false more) ends in
      (block_in_function block parts.0, choice_in_function more parts.1)

  pub block_in_function : (b : CheckedBlock) → block_ends false b ≡ true → FunctionMay b
  block_in_function t.end ends = tt
  block_in_function (t.step s more) ends =
      let parts = and_parts (statement_ends false s) (block_ends false more) ends in
      (statement_in_function s parts.0, block_in_function more parts.1)
