-- The room that a body's expressions need on the stack: two words for each node of its largest statement, and no more than is enough for the tokens
-- of a row.
use Rattle.std.proofs.Common.{◌≡◌, ℕ, ◌+◌, ◌*◌, ◌≤◌, Some, None, List, [], refl, arith}
use Rattle.std.specs.Prelude.{min}
use Rattle.task_ast.specs.Tree as t
use Rattle.task_ast.specs.declared.SharedDeclaration.{SharedDeclaration}
use Rattle.task_ast.specs.Paths.{CheckedExpression, CheckedValues, CheckedStatement, CheckedChoice, CheckedBlock}
use Rattle.task_ast.specs.declared.WordType.{WordType}
use Rattle.task_ast.specs.declared.WordType.TheVariants.{Unsigned, Int, Long}
use Rattle.task_ast.specs.Types.{by_width, type_of}
use Rattle.cost_bound.specs.Table.{nodes_column, values_price}
use Rattle.cost_bound.specs.Frames.{expression_nodes, statement_nodes, choice_nodes, block_nodes}
use Rattle.checked_trees.specs.WellFormed.{stack_words, value_words, enough, WellFormedStatement, WellFormedChoice, WellFormedBlock}

-- there is room for an expression above so many words
abbrev pub IsRoomFor : (room beneath : ℕ) → CheckedExpression → Type 0
IsRoomFor room beneath e = stack_words e + beneath ≤ room

abbrev mutual
  -- for each expression of a statement, an index waiting beneath the value that is stored
  pub StatementRoom : ℕ → CheckedStatement → Type 0
  StatementRoom room (t.declare of x None) = Unit {0}
  StatementRoom room (t.declare of x (Some e)) = IsRoomFor room 0 e
  StatementRoom room (t.assign x e) = IsRoomFor room 0 e
  StatementRoom room (t.store x index e) = IsRoomFor room 0 index × IsRoomFor room 1 e
  StatementRoom room (t.choose choice) = ChoiceRoom room choice
  StatementRoom room (t.loop x from tested below stepped body) = BlockRoom room body
  StatementRoom room (t.emit e) = IsRoomFor room 0 e
  StatementRoom room (t.give at e) = IsRoomFor room 0 e
  StatementRoom room (t.transition at task) = Unit {0}

  pub ChoiceRoom : ℕ → CheckedChoice → Type 0
  ChoiceRoom room t.nothing = Unit {0}
  ChoiceRoom room (t.otherwise block) = BlockRoom room block
  ChoiceRoom room (t.test e block more) = IsRoomFor room 0 e × BlockRoom room block × ChoiceRoom room more

  pub BlockRoom : ℕ → CheckedBlock → Type 0
  BlockRoom room t.end = Unit {0}
  BlockRoom room (t.step s more) = StatementRoom room s × BlockRoom room more

-- ---- two words for each node

one_each : (of : WordType) → ◌≡◌ {A = ℕ} (by_width of 1 1) 1
one_each Long = refl
one_each Int = refl
one_each Unsigned = refl

mutual
  -- an expression has a node
  one_node : (e : CheckedExpression) → 1 ≤ expression_nodes e
  one_node (t.number w) = omega arith
  one_node (t.long_number w) = omega arith
  one_node (t.name x) = let one = one_each x.word_type in omega (arith, one)
  one_node (t.element x index) = let few = one_node index in omega (arith, few)
  one_node t.sense = omega arith
  one_node t.next_event = omega arith
  one_node (t.call f values) = omega arith
  one_node (t.unary op e) = let few = one_node e in omega (arith, few)
  one_node (t.binary op a b) = let few = one_node a in omega (arith, few)
  one_node (t.shift op e count) = let few = one_node e in omega (arith, few)
  one_node (t.short_circuit op a b) = let few = one_node a in omega (arith, few)

  words_by_nodes : (e : CheckedExpression) → stack_words e ≤ 2 * expression_nodes e
  words_by_nodes (t.number w) = omega arith
  words_by_nodes (t.long_number w) = omega arith
  words_by_nodes (t.name x) = let one = one_each x.word_type in omega (arith, one)
  words_by_nodes (t.element x index) = let few = words_by_nodes index in omega (arith, few)
  words_by_nodes t.sense = omega arith
  words_by_nodes t.next_event = omega arith
  words_by_nodes (t.call f values) = let few = values_by_nodes values in omega (arith, few)
  words_by_nodes (t.unary op e) = let one = one_each (type_of e) in let few = words_by_nodes e in omega (arith, one, few)
  words_by_nodes (t.binary op a b) =
      let one = one_node a in
      let left = words_by_nodes a in
      let right = words_by_nodes b in
      omega (arith, one, left, right)
  words_by_nodes (t.shift op e count) = let few = words_by_nodes e in omega (arith, few)
  words_by_nodes (t.short_circuit op a b) =
      let left = words_by_nodes a in
      let right = words_by_nodes b in
      omega (arith, left, right)

  values_by_nodes : (values : CheckedValues) → value_words values ≤ 2 * values_price [] nodes_column values
  values_by_nodes t.no_value = omega arith
  values_by_nodes (t.value e more) =
      let one = one_node e in
      let here = words_by_nodes e in
      let others = values_by_nodes more in
      omega (arith, one, here, others)

mutual
  -- room is enough where more is needed
  statement_widened : (m n : ℕ) → m ≤ n → (s : CheckedStatement) → StatementRoom m s → StatementRoom n s
  statement_widened m n l (t.declare of x None) h = tt
  statement_widened m n l (t.declare of x (Some e)) h = omega (arith, l, h)
  statement_widened m n l (t.assign x e) h = omega (arith, l, h)
  statement_widened m n l (t.store x index e) h = let first = h.0 in let second = h.1 in (omega (arith, l, first), omega (arith, l, second))
  statement_widened m n l (t.choose choice) h = choice_widened m n l choice h
  statement_widened m n l (t.loop x from tested below stepped body) h = block_widened m n l body h
  statement_widened m n l (t.emit e) h = omega (arith, l, h)
  statement_widened m n l (t.give at e) h = omega (arith, l, h)
  statement_widened m n l (t.transition at task) h = tt

  choice_widened : (m n : ℕ) → m ≤ n → (c : CheckedChoice) → ChoiceRoom m c → ChoiceRoom n c
  choice_widened m n l t.nothing h = tt
  choice_widened m n l (t.otherwise block) h = block_widened m n l block h
  choice_widened m n l (t.test e block more) h =
      let first = h.0 in (omega (arith, l, first), block_widened m n l block h.1, choice_widened m n l more h.2)

  block_widened : (m n : ℕ) → m ≤ n → (b : CheckedBlock) → BlockRoom m b → BlockRoom n b
  block_widened m n l t.end h = tt
  block_widened m n l (t.step s more) h = (statement_widened m n l s h.0, block_widened m n l more h.1)

mutual
  statement_by_nodes : (s : CheckedStatement) → StatementRoom (2 * statement_nodes s) s
  statement_by_nodes (t.declare of x None) = tt
  statement_by_nodes (t.declare of x (Some e)) = let few = words_by_nodes e in omega (arith, few)
  statement_by_nodes (t.assign x e) = let few = words_by_nodes e in omega (arith, few)
  statement_by_nodes (t.store x index e) =
      let one = one_node index in
      let first = words_by_nodes index in
      let second = words_by_nodes e in
      (omega (arith, first), omega (arith, one, second))
  statement_by_nodes (t.choose choice) = choice_by_nodes choice
  statement_by_nodes (t.loop x from tested below stepped body) = block_by_nodes body
  statement_by_nodes (t.emit e) = let few = words_by_nodes e in omega (arith, few)
  statement_by_nodes (t.give at e) = let few = words_by_nodes e in omega (arith, few)
  statement_by_nodes (t.transition at task) = tt

  choice_by_nodes : (c : CheckedChoice) → ChoiceRoom (2 * choice_nodes c) c
  choice_by_nodes t.nothing = tt
  choice_by_nodes (t.otherwise block) = block_by_nodes block
  choice_by_nodes (t.test e block more) =
      let all = 2 * choice_nodes (t.test e block more) in
      let few = words_by_nodes e in (
        omega (arith, few),
        block_widened (2 * block_nodes block) all (omega arith) block (block_by_nodes block),
        choice_widened (2 * choice_nodes more) all (omega arith) more (choice_by_nodes more),
      )

  block_by_nodes : (b : CheckedBlock) → BlockRoom (2 * block_nodes b) b
  block_by_nodes t.end = tt
  block_by_nodes (t.step s more) =
      let all = 2 * block_nodes (t.step s more) in (
        statement_widened (2 * statement_nodes s) all (omega arith) s (statement_by_nodes s),
        block_widened (2 * block_nodes more) all (omega arith) more (block_by_nodes more),
      )

-- ---- by the tokens of a row

module _ (shared : List SharedDeclaration) where
  mutual
    statement_by_tokens : (s : CheckedStatement) → WellFormedStatement shared s → StatementRoom enough s
    statement_by_tokens (t.declare of x None) is = tt
    statement_by_tokens (t.declare of x (Some e)) is = is.3
    statement_by_tokens (t.assign x e) is = is.3
    statement_by_tokens (t.store x index e) is = (is.4, is.5)
    statement_by_tokens (t.choose choice) is = choice_by_tokens choice is
    statement_by_tokens (t.loop x from tested below stepped body) is = block_by_tokens body is.1
    statement_by_tokens (t.emit e) is = is.1
    statement_by_tokens (t.give at e) is = is.1
    statement_by_tokens (t.transition at task) is = tt

    choice_by_tokens : (c : CheckedChoice) → WellFormedChoice shared c → ChoiceRoom enough c
    choice_by_tokens t.nothing is = tt
    choice_by_tokens (t.otherwise block) is = block_by_tokens block is
    choice_by_tokens (t.test e block more) is = (is.3, block_by_tokens block is.1, choice_by_tokens more is.2)

    block_by_tokens : (b : CheckedBlock) → WellFormedBlock shared b → BlockRoom enough b
    block_by_tokens t.end is = tt
    block_by_tokens (t.step s more) is = (statement_by_tokens s is.0, block_by_tokens more is.1)

-- ---- both

mutual
  statement_both : (m n : ℕ) (s : CheckedStatement) → StatementRoom m s → StatementRoom n s → StatementRoom (min m n) s
  statement_both m n (t.declare of x None) h k = tt
  statement_both m n (t.declare of x (Some e)) h k = omega (arith, h, k)
  statement_both m n (t.assign x e) h k = omega (arith, h, k)
  statement_both m n (t.store x index e) h k =
      let a = h.0 in let b = k.0 in let c = h.1 in let d = k.1 in (omega (arith, a, b), omega (arith, c, d))
  statement_both m n (t.choose choice) h k = choice_both m n choice h k
  statement_both m n (t.loop x from tested below stepped body) h k = block_both m n body h k
  statement_both m n (t.emit e) h k = omega (arith, h, k)
  statement_both m n (t.give at e) h k = omega (arith, h, k)
  statement_both m n (t.transition at task) h k = tt

  choice_both : (m n : ℕ) (c : CheckedChoice) → ChoiceRoom m c → ChoiceRoom n c → ChoiceRoom (min m n) c
  choice_both m n t.nothing h k = tt
  choice_both m n (t.otherwise block) h k = block_both m n block h k
  choice_both m n (t.test e block more) h k =
      let a = h.0 in let b = k.0 in (omega (arith, a, b), block_both m n block h.1 k.1, choice_both m n more h.2 k.2)

  block_both : (m n : ℕ) (b : CheckedBlock) → BlockRoom m b → BlockRoom n b → BlockRoom (min m n) b
  block_both m n t.end h k = tt
  block_both m n (t.step s more) h k = (statement_both m n s h.0 k.0, block_both m n more h.1 k.1)

-- the room of a body
abbrev pub room_of : CheckedBlock → ℕ
room_of b = min (2 * block_nodes b) enough

pub has_room : (shared : List SharedDeclaration) (b : CheckedBlock) → WellFormedBlock shared b → BlockRoom (room_of b) b
has_room shared b is = block_both (2 * block_nodes b) enough b (block_by_nodes b) (block_by_tokens shared b is)
