-- The column that counts emits.
use Rattle.std.proofs.Common.{◌≡◌, ℕ, ◌-◌, ◌*◌, true, false, List, Some, None, ap, refl, arith}
use Rattle.task_ast.specs.Tree.{number, long_number, name, element, sense, next_event, call, unary, binary, shift, short_circuit, no_value, value}
use Rattle.task_ast.specs.Tree.{declare, assign, store, choose, loop, emit, give, transition, nothing, otherwise, test, end, step}
use Rattle.task_ast.specs.Paths.{CheckedExpression, CheckedValues, CheckedStatement, CheckedChoice, CheckedBlock}
use Rattle.task_ast.specs.declared.BinaryOperator.{BinaryOperator}
use Rattle.task_ast.specs.declared.BinaryOperator.TheVariants.{Multiply, Divide, Remainder}
use Rattle.task_ast.specs.declared.WordType.{WordType}
use Rattle.task_ast.specs.declared.WordType.TheVariants.{Unsigned, Int, Long}
use Rattle.task_ast.specs.Types.{by_width, joined_type, type_of}
use Rattle.cost_bound.specs.Summary.{Summary}
use Rattle.cost_bound.specs.Table.{expression_price, values_price, operator_price, statement_price, conditions_price, blocks_price, block_price}
use Rattle.cost_bound.specs.Counts.{is_emit, called_emits, expression_count, values_count, statement_count, conditions_count, choice_count, block_count}
use Rattle.cost_bound.specs.Counts.{emits_of}
use Rattle.cost_bound.specs.declared.prices.Column.{Column}
use Rattle.cost_bound.specs.declared.prices.Body.TheVariants.{Emits}

abbrev pub emits_column : Column
emits_column = record {
  leaf = 0;
  next_event = 0;
  operator = 0;
  long = 0;
  shift = 0;
  long_shift = 0;
  multiply = 0;
  divide = 0;
  element = 0;
  call = 0;
  call_value = 0;
  body = Emits;
  assign = 0;
  long_assign = 0;
  store = 0;
  emit = 1;
  transition = 0;
  choose = 0;
  condition = 0;
  long_condition = 0;
  all_blocks = false;
  repeat = 0;
  turn = 0;
  each_turn = true;
}

-- of each width alike
free_width : (t : WordType) → by_width {A = ℕ} t 0 0 ≡ 0
free_width Long = refl
free_width Int = refl
free_width Unsigned = refl

-- of each operator alike: the first clause makes it a proof by cases
free_operator : (op : BinaryOperator) (t : WordType) → operator_price emits_column op t ≡ 0
free_operator Multiply t = refl
free_operator Divide t = refl
free_operator Remainder t = refl
free_operator _ t = free_width t

module _ (known : List Summary) where
  mutual
    of_expression : (e : CheckedExpression) → expression_price known emits_column e ≡ expression_count (called_emits known) e
    of_expression (number _) = refl
    of_expression (long_number _) = refl
    of_expression (name x) = free_width x.word_type
    of_expression sense = refl
    of_expression next_event = refl
    of_expression (call f values) = let a = of_values values in omega arith
    of_expression (unary _ e) = let x = free_width (type_of e) in let a = of_expression e in omega arith
    of_expression (binary op a b) =
        let x = free_operator op.operator (joined_type (type_of a) (type_of b)) in let y = of_expression a in let z = of_expression b in omega arith
    of_expression (short_circuit _ a b) =
        let x = free_width (joined_type (type_of a) (type_of b)) in let y = of_expression a in let z = of_expression b in omega arith
    of_expression (shift _ e _) = let x = free_width (type_of e) in let a = of_expression e in omega arith
    of_expression (element _ e) = let a = of_expression e in omega arith

    of_values : (values : CheckedValues) → values_price known emits_column values ≡ values_count (called_emits known) values
    of_values no_value = refl
    of_values (value e more) = let a = of_expression e in let b = of_values more in omega arith

  mutual
    of_statement : (s : CheckedStatement) → statement_price known emits_column s ≡ statement_count (called_emits known) is_emit s
    of_statement (declare _ _ None) = refl
    of_statement (declare _ _ (Some e)) = let a = of_expression e in omega arith
    of_statement (assign x e) = let w = free_width x.word_type in let a = of_expression e in omega arith
    of_statement (store _ i e) = let a = of_expression i in let b = of_expression e in omega arith
    of_statement (emit e) = let a = of_expression e in omega arith
    of_statement (give _ e) = let a = of_expression e in omega arith
    of_statement (transition _ _) = refl
    of_statement (choose c) = let a = of_conditions c in let b = of_blocks c in omega arith
    of_statement (loop _ from _ below _ body) = let a = of_block body in let b = ap (λ n. (below - from) * n) a in omega (arith, b)

    of_conditions : (c : CheckedChoice) → conditions_price known emits_column c ≡ conditions_count (called_emits known) c
    of_conditions nothing = refl
    of_conditions (otherwise _) = refl
    of_conditions (test e _ more) = let w = free_width (type_of e) in let a = of_expression e in let b = of_conditions more in omega arith

    of_blocks : (c : CheckedChoice) → blocks_price known emits_column c ≡ choice_count (called_emits known) is_emit c
    of_blocks nothing = refl
    of_blocks (otherwise b) = of_block b
    of_blocks (test _ b more) = let x = of_block b in let y = of_blocks more in omega arith

    of_block : (b : CheckedBlock) → block_price known emits_column b ≡ block_count (called_emits known) is_emit b
    of_block end = refl
    of_block (step s more) = let a = of_statement s in let b = of_block more in omega arith

  pub block_price-emits : (b : CheckedBlock) → block_price known emits_column b ≡ emits_of known b
  unfolding emits_of
  block_price-emits b = of_block b
