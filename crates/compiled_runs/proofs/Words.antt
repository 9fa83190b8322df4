-- The words of statements without a transition don't depend on the private scalars, whose entries a transition has.
use Rattle.std.proofs.Common.{◌≡◌, ℕ, true, false, List, Some, None, refl, arith}
use Rattle.std.proofs.lemmas.Bool.{and_parts}
use Rattle.task_ast.specs.Tree as t
use Rattle.task_ast.specs.Paths.{CheckedExpression, CheckedValues, CheckedStatement, CheckedChoice, CheckedBlock}
use Rattle.task_ast.specs.Types.{joined_type, type_of}
use Rattle.task_ast.specs.declared.WordType.{WordType}
use Rattle.task_ast.specs.declared.BinaryOperator.{BinaryOperator}
use Rattle.task_ast.specs.declared.BinaryOperator.TheVariants.{Multiply}
use Rattle.task_check.specs.Placed.{statement_ends, choice_ends, block_ends}
use Rattle.cost_bound.specs.Summary.{Summary}
use Rattle.cost_bound.specs.Table.{words_column, operator_price, expression_price, values_price, statement_price, conditions_price, blocks_price, block_price}

module _ (known : List Summary) (s n : ℕ) where
  -- the first clause makes it a proof by cases
  operator_same : (op : BinaryOperator) (of : WordType) → operator_price (words_column s) op of ≡ operator_price (words_column n) op of
  operator_same Multiply of = refl
  operator_same op of = refl

  mutual
    expression_same : (e : CheckedExpression) → expression_price known (words_column s) e ≡ expression_price known (words_column n) e
    expression_same (t.number w) = refl
    expression_same (t.long_number w) = refl
    expression_same (t.name x) = refl
    expression_same (t.element x index) = let same = expression_same index in omega (arith, same)
    expression_same t.sense = refl
    expression_same t.next_event = refl
    expression_same (t.call f values) = let same = values_same values in omega (arith, same)
    expression_same (t.unary op e) = let same = expression_same e in omega (arith, same)
    expression_same (t.binary op a b) =
        let own = operator_same op.operator (joined_type (type_of a) (type_of b)) in
        let left = expression_same a in
        let right = expression_same b in
        omega (arith, own, left, right)
    expression_same (t.shift op e count) = let same = expression_same e in omega (arith, same)
    expression_same (t.short_circuit op a b) =
        let left = expression_same a in
        let right = expression_same b in
        omega (arith, left, right)

    values_same : (values : CheckedValues) → values_price known (words_column s) values ≡ values_price known (words_column n) values
    values_same t.no_value = refl
    values_same (t.value e more) =
        let first = expression_same e in
        let others = values_same more in
        omega (arith, first, others)

  conditions_same : (c : CheckedChoice) → conditions_price known (words_column s) c ≡ conditions_price known (words_column n) c
  conditions_same t.nothing = refl
  conditions_same (t.otherwise block) = refl
  conditions_same (t.test e block more) =
      let first = expression_same e in
      let others = conditions_same more in
      omega (arith, first, others)

  mutual
    statement_same : (x : CheckedStatement) → statement_ends false x ≡ true
        → statement_price known (words_column s) x ≡ statement_price known (words_column n) x
    statement_same (t.declare of x None) h = refl
    statement_same (t.declare of x (Some e)) h = let same = expression_same e in omega (arith, same)
    statement_same (t.assign x e) h = let same = expression_same e in omega (arith, same)
    statement_same (t.store x index e) h =
        let first = expression_same index in
        let second = expression_same e in
        omega (arith, first, second)
    statement_same (t.choose choice) h =
        let conditions = conditions_same choice in
        let blocks = blocks_same choice h in
        omega (arith, conditions, blocks)
    statement_same (t.loop x from tested below stepped body) h = let same = block_same body h in omega (arith, same)
    statement_same (t.emit e) h = let same = expression_same e in omega (arith, same)
    statement_same (t.give at e) h = let same = expression_same e in omega (arith, same)
    statement_same (t.transition at task) h = absurd (let never : false ≡ true = h in cc)

    blocks_same : (c : CheckedChoice) → choice_ends false c ≡ true → blocks_price known (words_column s) c ≡ blocks_price known (words_column n) c
    blocks_same t.nothing h = refl
    blocks_same (t.otherwise block) h = block_same block h
    blocks_same (t.test e block more) h =
        let both = and_parts (block_ends false block) (choice_ends false more) h in
        let first = block_same block both.0 in
        let others = blocks_same more both.1 in
        omega (arith, first, others)

    pub block_same : (b : CheckedBlock) → block_ends false b ≡ true → block_price known (words_column s) b ≡ block_price known (words_column n) b
    block_same t.end h = refl
    block_same (t.step x more) h =
        let both = and_parts (statement_ends false x) (block_ends false more) h in
        let first = statement_same x both.0 in
        let others = block_same more both.1 in
        omega (arith, first, others)
