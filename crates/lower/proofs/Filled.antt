-- The programs as they are made, with the bodies of functions in their calls, are those that behave.
use Rattle.lower.proofs.Names.{◌≡◌, ℕ, ◌%◌, Bool, true, false, List, [], ◌∷◌, Option, Some, None, refl, sym, ap, ◌∙◌, if◌then◌else◌, CheckedExpression}
use Rattle.lower.proofs.Names.{CheckedValues}
use Rattle.lower.proofs.Names.{CheckedStatement, CheckedChoice, CheckedBlock, PlacedOperator, UnaryOperator, BinaryOperator, ShiftOperator, Literal}
use Rattle.lower.proofs.Names.{ShortCircuitOperator, BothHold, OneHolds, WordType, Int, Unsigned, Long, Variable, Shared, Local, Places, RoutinePlace}
use Rattle.lower.proofs.Names.{routine_of, VariablePlace, Scalar, Array, ArrayPlace, ListPlace, Logging, Redo, Undo, PlainOperation, Step, Test, Program}
use Rattle.lower.proofs.Names.{nothing}
use Rattle.lower.proofs.Names.{joined, one, truth, binary, unary, shift, long, call, give, emit_word, freeze_events, choose, repeat, word_place, Gate, Base}
use Rattle.lower.proofs.Names.{SentBase, NextTask, ListLength, EmitCount, Run, runs_of, Plain, And, Or, Xor, Negate, Complement, Subtract, BinaryMeaning}
use Rattle.lower.proofs.Names.{Calculates, CommonBits, Holds, Fails, LongQuestion, LongMeaning, binary_meaning, long_meaning, shift_operation, long_shift}
use Rattle.lower.proofs.Names.{operand_type, Lowering, as_word, as_test, as_bits, as_long, word_program, value_test, widening, long_words, long_program}
use Rattle.lower.proofs.Names.{long_zero, name_lowering, operand_lowering, binary_lowering, answer, long_binary_lowering, sides_lowering, shift_lowering}
use Rattle.lower.proofs.Names.{sides_test, widened_type, lowering, arguments, call_at, call_count, lowered_expression, lowered_long, lowered_test}
use Rattle.lower.proofs.Names.{read_step, write_step, update_step, write_long, element_read, element_step, own_read, own_write, own_update, stored_array}
use Rattle.lower.proofs.Names.{list_place, array_place, store_step, update_element_step, updating, of_words, sides_set, setting, long_setting, assignment}
use Rattle.lower.proofs.Names.{doubling, shift_set}
use Rattle.lower.proofs.Names.{scalar_assignment, index_and_value, element_setting, element_updating, element_sides_set, element_assignment, emission}
use Rattle.lower.proofs.Names.{entries, freezing, lowered_transition, lowered_statement, lowered_choice, lowered_block, loop_local}
use Rattle.std.proofs.Common.{slice_get}
use Rattle.std.specs.Prelude.{slice_index_or}
use Rattle.source_values.specs.Values.{joined_type, type_of}
use Rattle.array_versions.specs.Program.{filled, step_filled, test_filled}
use Rattle.array_versions.proofs.Interface.{filled_joined}
use Rattle.task_ast.specs.Tree as t
use Rattle.task_ast.specs.declared.UnaryOperator.TheVariants as unary_operator
use Rattle.task_ast.specs.declared.ShiftOperator.TheVariants as shift_operator
use Rattle.array_versions.specs.Program as words
use Rattle.array_versions.specs.declared.operations.LongOperation.TheVariants as with_longs
use Rattle.lower.specs.declared.operations.LongQuestion.TheVariants as question
use Rattle.lower.specs.declared.operations.LongMeaning.TheVariants as meaning

-- the bodies of functions by where their code begins: those of the functions of a task, and at 0 none
pub record FillsIn (p : Places) (rs : List Program) (bodies : ℕ → Program) : Type 0 where
  pub none : bodies 0 ≡ nothing
  pub routines : (i : ℕ) (r : RoutinePlace) → routine_of p i ≡ Some r → bodies r.code.address ≡ slice_index_or rs i nothing

module _ (bodies : ℕ → Program) where
  abbrev F : Program → Program
  F q = filled bodies q

  -- what an expression comes to, with the bodies
  abbrev filled_lowering : Lowering → Lowering
  filled_lowering (as_word q) = as_word (F q)
  filled_lowering (as_test c) = as_test (test_filled bodies c)
  filled_lowering (as_bits q) = as_bits (F q)
  filled_lowering (as_long q) = as_long (F q)

  -- ---- words, tests and longs

  behind_filled : (q : Program) (s : Step) → F (joined q (one s)) ≡ joined (F q) (one (step_filled bodies s))
  behind_filled q s = filled_joined bodies q (one s)

  word_filled : (l : Lowering) → F (word_program l) ≡ word_program (filled_lowering l)
  word_filled (as_word q) = refl
  word_filled (as_test c) = refl
  word_filled (as_bits q) = behind_filled q (binary (Plain And))
  word_filled (as_long q) = behind_filled q (long with_longs.LowWord)

  value_test_filled : (l : Lowering) → test_filled bodies (value_test l) ≡ value_test (filled_lowering l)
  value_test_filled (as_word q) = refl
  value_test_filled (as_test c) = refl
  value_test_filled (as_bits q) = refl
  value_test_filled (as_long q) = ap words.holds (behind_filled q (binary (Plain Or)))

  widening_filled : (of : WordType) → F (widening of) ≡ widening of
  widening_filled Int = refl
  widening_filled Unsigned = refl
  widening_filled Long = refl

  widened_filled : (of : WordType) (q : Program) → F (joined q (widening of)) ≡ joined (F q) (widening of)
  widened_filled of q = filled_joined bodies q (widening of) ∙ ap (joined (F q)) (widening_filled of)

  long_words_filled : (l : Lowering) → F (long_words l) ≡ long_words (filled_lowering l)
  long_words_filled (as_word q) = widened_filled Long q
  long_words_filled (as_test c) = refl
  long_words_filled (as_bits q) =
      widened_filled Long (joined q (one (binary (Plain And)))) ∙ ap (λ r. joined r (widening Long)) (behind_filled q (binary (Plain And)))
  long_words_filled (as_long q) = refl

  long_filled : (of : WordType) (l : Lowering) → F (long_program of l) ≡ long_program of (filled_lowering l)
  long_filled Long l = long_words_filled l
  long_filled of l = widened_filled of (word_program l) ∙ ap (λ r. joined r (widening of)) (word_filled l)

  -- ---- operators

  operand_filled : (of : WordType) (op : UnaryOperator) (l : Lowering)
      → filled_lowering (operand_lowering of op l) ≡ operand_lowering of op (filled_lowering l)
  operand_filled Long unary_operator.Negate l =
      let sides = joined long_zero (long_words l) in
      let last = long (with_longs.Calculate Subtract) in
      ap as_long (behind_filled sides last
      ∙ ap (λ r. joined r (one last)) (filled_joined bodies long_zero (long_words l) ∙ ap (joined long_zero) (long_words_filled l)))
  operand_filled Long unary_operator.Complement l =
      let last = long with_longs.Complement in
      ap as_long (behind_filled (long_words l) last ∙ ap (λ r. joined r (one last)) (long_words_filled l))
  operand_filled Long unary_operator.Not l = ap (λ c. as_test (words.fails c)) (value_test_filled l)
  operand_filled of unary_operator.Negate l =
      ap as_word (behind_filled (word_program l) (unary Negate) ∙ ap (λ r. joined r (one (unary Negate))) (word_filled l))
  operand_filled of unary_operator.Complement l =
      ap as_word (behind_filled (word_program l) (unary Complement) ∙ ap (λ r. joined r (one (unary Complement))) (word_filled l))
  operand_filled of unary_operator.Not l = ap (λ c. as_test (words.fails c)) (value_test_filled l)

  binary_filled : (meaning : BinaryMeaning) (sides : Program) → filled_lowering (binary_lowering meaning sides) ≡ binary_lowering meaning (F sides)
  binary_filled (Calculates op) sides = ap as_word (behind_filled sides (binary op))
  binary_filled CommonBits sides = refl
  binary_filled (Holds c) sides = refl
  binary_filled (Fails c) sides = refl

  answer_filled : (q : LongQuestion) (sides : Program) → F (answer q sides) ≡ answer q (F sides)
  answer_filled question.Below sides = behind_filled sides (long with_longs.Below)
  answer_filled question.Above sides = behind_filled sides (long with_longs.Above)
  answer_filled question.Differ sides =
      let differ = long (with_longs.Calculate Xor) in
      behind_filled (joined sides (one differ)) (binary (Plain Or)) ∙ ap (λ r. joined r (one (binary (Plain Or)))) (behind_filled sides differ)

  long_binary_filled : (m : LongMeaning) (sides : Program) → filled_lowering (long_binary_lowering m sides) ≡ long_binary_lowering m (F sides)
  long_binary_filled (meaning.Calculates op) sides = ap as_long (behind_filled sides (long (with_longs.Calculate op)))
  long_binary_filled (meaning.Holds q) sides = ap (λ r. as_test (words.holds r)) (answer_filled q sides)
  long_binary_filled (meaning.Fails q) sides = ap (λ r. as_test (words.fails (words.holds r))) (answer_filled q sides)

  -- both sides one behind the other
  both_filled : (a b c d : Program) → F a ≡ c → F b ≡ d → F (joined a b) ≡ joined c d
  both_filled a b c d x y = filled_joined bodies a b ∙ (λ i. joined (x i) (y i))

  sides_filled : (is : WordType) (op : BinaryOperator) (u v : WordType) (l r : Lowering)
      → filled_lowering (sides_lowering is op u v l r) ≡ sides_lowering is op u v (filled_lowering l) (filled_lowering r)
  sides_filled Long op u v l r =
      long_binary_filled (long_meaning op) (joined (long_program u l) (long_program v r))
      ∙ ap (long_binary_lowering (long_meaning op)) (both_filled (long_program u l) (long_program v r) _ _ (long_filled u l) (long_filled v r))
  sides_filled is op u v l r =
      binary_filled (binary_meaning op is) (joined (word_program l) (word_program r))
      ∙ ap (binary_lowering (binary_meaning op is)) (both_filled (word_program l) (word_program r) _ _ (word_filled l) (word_filled r))

  shift_filled : (of : WordType) (op : ShiftOperator) (l : Lowering) (k : ℕ)
      → filled_lowering (shift_lowering of op l k) ≡ shift_lowering of op (filled_lowering l) k
  shift_filled Long shift_operator.Left l k =
      ap as_long (behind_filled (long_words l) (long (with_longs.ShiftLeft k)) ∙ ap (λ r. joined r (one (long (with_longs.ShiftLeft k)))) (long_words_filled l))
  shift_filled Long shift_operator.Right l k =
      ap as_long (behind_filled (long_words l) (long (with_longs.ShiftRight k)) ∙ ap (λ r. joined r (one (long (with_longs.ShiftRight k))))
      (long_words_filled l))
  shift_filled of op l k =
      let last = shift (shift_operation op of) k in
      ap as_word (behind_filled (word_program l) last ∙ ap (λ r. joined r (one last)) (word_filled l))

  sides_test_filled : (op : ShortCircuitOperator) (c d : Test)
      → test_filled bodies (sides_test op c d) ≡ sides_test op (test_filled bodies c) (test_filled bodies d)
  sides_test_filled BothHold c d = refl
  sides_test_filled OneHolds c d = refl

  -- ---- variables and elements

  name_filled : (p : Places) (of : WordType) (x : Variable) → filled_lowering (name_lowering p of x) ≡ name_lowering p of x
  name_filled p Long (Shared v) = refl
  name_filled p Long (Local n) = refl
  name_filled p of (Shared v) = refl
  name_filled p of (Local n) = refl

  write_filled : (p : Places) (x : Variable) → step_filled bodies (write_step p x) ≡ write_step p x
  write_filled p (Shared v) = refl
  write_filled p (Local n) = refl

  write_long_filled : (p : Places) (x : Variable) → F (write_long p x) ≡ write_long p x
  write_long_filled p (Shared v) = refl
  write_long_filled p (Local n) = refl

  update_filled : (p : Places) (o : PlainOperation) (x : Variable) → step_filled bodies (update_step p o x) ≡ update_step p o x
  update_filled p o (Shared v) = refl
  update_filled p o (Local n) = refl

  own_read_filled : (logging : Logging) (a : ArrayPlace) (list : ListPlace) → step_filled bodies (own_read logging a list) ≡ own_read logging a list
  own_read_filled Redo a list = refl
  own_read_filled Undo a list = refl

  own_write_filled : (logging : Logging) (a : ArrayPlace) (list : ListPlace) → step_filled bodies (own_write logging a list) ≡ own_write logging a list
  own_write_filled Redo a list = refl
  own_write_filled Undo a list = refl

  own_update_filled : (logging : Logging) (o : PlainOperation) (a : ArrayPlace) (list : ListPlace)
      → step_filled bodies (own_update logging o a list) ≡ own_update logging o a list
  own_update_filled Redo o a list = refl
  own_update_filled Undo o a list = refl

  read_filled : (p : Places) (place : Option VariablePlace) → step_filled bodies (element_read p place) ≡ element_read p place
  read_filled p (Some (Array elements length (Some c))) = own_read_filled p.map.runtime.logging (array_place elements length c) (list_place p)
  read_filled p (Some (Array elements length None)) = refl
  read_filled p (Some (Scalar home copy width)) = refl
  read_filled p None = refl

  element_filled : (p : Places) (x : Variable) → step_filled bodies (element_step p x) ≡ element_step p x
  element_filled p (Shared v) = read_filled p (slice_get p.map.variables v)
  element_filled p (Local n) = refl

  -- ---- transitions

  entries_filled : (count list : ℕ) (runs : List Run) → F (entries count list runs) ≡ entries count list runs
  entries_filled count list [] = refl
  entries_filled count list (r ∷ more) = ap (words.step (words.list_entry count list r.home r.copy r.words)) (entries_filled count list more)

  freezing_filled : (p : Places) → F (freezing p) ≡ freezing p
  freezing_filled p = by p.map.runtime.events
    where
      by : (events : Bool) → F (if events then one freeze_events else nothing) ≡ (if events then one freeze_events else nothing)
      by true = refl
      by false = refl

  transition_filled : (p : Places) (task : ℕ) → F (lowered_transition p task) ≡ lowered_transition p task
  transition_filled p task =
      let gated = words.step (words.store_number (word_place p.map Gate) 1) (one (words.jump p.map.commit.address)) in
      let closing = words.step (words.move_word (word_place p.map Base) (word_place p.map SentBase)) (joined (freezing p) gated) in
      let listed = entries (word_place p.map ListLength) p.map.list.address (runs_of p.privates) in
      let closed : F closing ≡ closing = ap (words.step (words.move_word (word_place p.map Base) (word_place p.map SentBase)))
      (both_filled (freezing p) gated _ _ (freezing_filled p) refl) in
      ap (words.step (words.store_number (word_place p.map NextTask) (task % 65536)))
      (both_filled listed closing _ _ (entries_filled (word_place p.map ListLength) p.map.list.address (runs_of p.privates)) closed)

-- ---- all programs of a task, whatever bodies stood in their calls

module _ (p : Places) (os rs : List Program) (bodies : ℕ → Program) (fills : FillsIn p rs bodies) where
  call_filled : (i count : ℕ) → step_filled bodies (call_at (routine_of p i) count (slice_index_or os i nothing))
      ≡ call_at (routine_of p i) count (slice_index_or rs i nothing)
  call_filled i count = by (routine_of p i) refl
    where
      by : (at : Option RoutinePlace) → routine_of p i ≡ at
          → step_filled bodies (call_at at count (slice_index_or os i nothing)) ≡ call_at at count (slice_index_or rs i nothing)
      by (Some r) is = ap (call r.code.address r.frame r.first count) (fills.routines i r is)
      by None is = ap (call 0 None 0 count) fills.none

  mutual
    lowering_filled : (e : CheckedExpression) → filled_lowering bodies (lowering p os e) ≡ lowering p rs e
    lowering_filled (t.number n) = refl
    lowering_filled (t.long_number n) = refl
    lowering_filled (t.name x) = name_filled bodies p x.word_type x.variable
    lowering_filled (t.element x index) =
        let l = lowering p os index in
        ap as_word (both_filled bodies (word_program l) (one (element_step p x.variable)) _ _ (word_filled bodies l ∙ ap word_program (lowering_filled index))
        (ap one (element_filled bodies p x.variable)))
    lowering_filled t.sense = refl
    lowering_filled t.next_event = refl
    lowering_filled (t.call f values) =
        ap as_word (both_filled bodies (arguments p os values) _ _ _ (arguments_filled values) (ap one (call_filled f.function (call_count values))))
    lowering_filled (t.unary op e) =
        operand_filled bodies (type_of e) op (lowering p os e) ∙ ap (operand_lowering (type_of e) op) (lowering_filled e)
    lowering_filled (t.binary op a b) =
        let is = operand_type op.operator (joined_type (type_of a) (type_of b)) in
        sides_filled bodies is op.operator (widened_type a) (widened_type b) (lowering p os a) (lowering p os b)
        ∙ (λ i. sides_lowering is op.operator (widened_type a) (widened_type b) (lowering_filled a i) (lowering_filled b i))
    lowering_filled (t.shift op e count) =
        shift_filled bodies (type_of e) op (lowering p os e) count.value ∙ ap (λ l. shift_lowering (type_of e) op l count.value) (lowering_filled e)
    lowering_filled (t.short_circuit op a b) =
        let c = value_test (lowering p os a) in
        let d = value_test (lowering p os b) in
        ap as_test (sides_test_filled bodies op c d
        ∙ (λ i. sides_test op ((value_test_filled bodies (lowering p os a) ∙ ap value_test (lowering_filled a)) i)
        ((value_test_filled bodies (lowering p os b) ∙ ap value_test (lowering_filled b)) i)))

    arguments_filled : (values : CheckedValues) → filled bodies (arguments p os values) ≡ arguments p rs values
    arguments_filled t.no_value = refl
    arguments_filled (t.value e more) =
        both_filled bodies (lowered_expression p os e) (arguments p os more) _ _
        (word_filled bodies (lowering p os e) ∙ ap word_program (lowering_filled e)) (arguments_filled more)

  expression_filled : (e : CheckedExpression) → filled bodies (lowered_expression p os e) ≡ lowered_expression p rs e
  expression_filled e = word_filled bodies (lowering p os e) ∙ ap word_program (lowering_filled e)

  long_is_filled : (e : CheckedExpression) → filled bodies (lowered_long p os e) ≡ lowered_long p rs e
  long_is_filled e = long_filled bodies (widened_type e) (lowering p os e) ∙ ap (long_program (widened_type e)) (lowering_filled e)

  test_is_filled : (e : CheckedExpression) → test_filled bodies (lowered_test p os e) ≡ lowered_test p rs e
  test_is_filled e = value_test_filled bodies (lowering p os e) ∙ ap value_test (lowering_filled e)

  -- a step behind a program
  last_filled : (q r : Program) (s : Step) → filled bodies q ≡ r → step_filled bodies s ≡ s → filled bodies (joined q (one s)) ≡ joined r (one s)
  last_filled q r s x y = both_filled bodies q (one s) r (one s) x (ap one y)

  -- ---- assignments

  setting_filled : (x : Variable) (e : CheckedExpression) → filled bodies (setting p os x e) ≡ setting p rs x e
  setting_filled x e = last_filled (lowered_expression p os e) _ (write_step p x) (expression_filled e) (write_filled bodies p x)

  sides_set_filled : (x : Variable) (op : PlacedOperator) (a b : CheckedExpression) (o : Option PlainOperation)
      → filled bodies (sides_set p os x op a b o) ≡ sides_set p rs x op a b o
  sides_set_filled x op a b None = setting_filled x (t.binary op a b)
  sides_set_filled x op a b (Some o) = last_filled (lowered_expression p os b) _ (update_step p o x) (expression_filled b) (update_filled bodies p o x)

  shift_set_filled : (x : Variable) (op : ShiftOperator) (e : CheckedExpression) (count : Literal) (o : Option PlainOperation)
      → filled bodies (shift_set p os x op e count o) ≡ shift_set p rs x op e count o
  shift_set_filled x op e count None = setting_filled x (t.shift op e count)
  shift_set_filled x op e count (Some o) = last_filled (lowered_expression p os e) _ (update_step p o x) (expression_filled e) (update_filled bodies p o x)

  -- the first clause makes it a proof by cases
  assignment_filled : (x : Variable) (e : CheckedExpression) → filled bodies (assignment p os x e) ≡ assignment p rs x e
  assignment_filled x (t.binary op a b) = sides_set_filled x op a b (of_words (joined_type (type_of a) (type_of b)) (updating x op.operator a b))
  assignment_filled x (t.shift op e count) = shift_set_filled x op e count (of_words (type_of e) (doubling x op e count.value))
  assignment_filled x e = setting_filled x e

  scalar_filled : (of : WordType) (x : Variable) (e : CheckedExpression) → filled bodies (scalar_assignment p os of x e) ≡ scalar_assignment p rs of x e
  scalar_filled Long x e = both_filled bodies (lowered_long p os e) (write_long p x) _ _ (long_is_filled e) (write_long_filled bodies p x)
  scalar_filled of x e = assignment_filled x e

  both_values_filled : (index e : CheckedExpression) → filled bodies (index_and_value p os index e) ≡ index_and_value p rs index e
  both_values_filled index e =
      both_filled bodies (lowered_expression p os index) (lowered_expression p os e) _ _ (expression_filled index) (expression_filled e)

  element_setting_filled : (x : Variable) (index e : CheckedExpression) → filled bodies (element_setting p os x index e) ≡ element_setting p rs x index e
  element_setting_filled x index e =
      last_filled (index_and_value p os index e) _ (store_step p x) (both_values_filled index e)
      (own_write_filled bodies p.map.runtime.logging (stored_array p x) (list_place p))

  element_sides_filled : (x : Variable) (index : CheckedExpression) (op : PlacedOperator) (a b : CheckedExpression) (o : Option PlainOperation)
      → filled bodies (element_sides_set p os x index op a b o) ≡ element_sides_set p rs x index op a b o
  element_sides_filled x index op a b None = element_setting_filled x index (t.binary op a b)
  element_sides_filled x index op a b (Some o) =
      last_filled (index_and_value p os index b) _ (update_element_step p o x) (both_values_filled index b)
      (own_update_filled bodies p.map.runtime.logging o (stored_array p x) (list_place p))

  -- the first clause makes it a proof by cases
  element_is_filled : (x : Variable) (index e : CheckedExpression) → filled bodies (element_assignment p os x index e) ≡ element_assignment p rs x index e
  element_is_filled x index (t.binary op a b) =
      element_sides_filled x index op a b (of_words (joined_type (type_of a) (type_of b)) (element_updating x index op.operator a b))
  element_is_filled x index e = element_setting_filled x index e

  -- ---- statements

  mutual
    statement_filled : (s : CheckedStatement) → filled bodies (lowered_statement p os s) ≡ lowered_statement p rs s
    statement_filled (t.declare of x None) = refl
    statement_filled (t.declare of x (Some e)) = assignment_filled x.variable e
    statement_filled (t.assign x e) = scalar_filled x.word_type x.variable e
    statement_filled (t.store x index e) = element_is_filled x.variable index e
    statement_filled (t.choose choice) = choice_filled choice
    statement_filled (t.loop x from tested below stepped body) = ap (λ q. one (repeat (loop_local p x.variable) from below q)) (block_filled body)
    statement_filled (t.emit e) =
        last_filled (lowered_expression p os e) _ (emit_word (word_place p.map EmitCount) p.map.emits.address) (expression_filled e) refl
    statement_filled (t.give at e) = last_filled (lowered_expression p os e) _ give (expression_filled e) refl
    statement_filled (t.transition at task) = transition_filled bodies p task.task

    choice_filled : (c : CheckedChoice) → filled bodies (lowered_choice p os c) ≡ lowered_choice p rs c
    choice_filled t.nothing = refl
    choice_filled (t.otherwise block) = block_filled block
    choice_filled (t.test e block more) = λ i. one (choose (test_is_filled e i) (block_filled block i) (choice_filled more i))

    pub block_filled : (b : CheckedBlock) → filled bodies (lowered_block p os b) ≡ lowered_block p rs b
    block_filled t.end = refl
    block_filled (t.step s more) =
        both_filled bodies (lowered_statement p os s) (lowered_block p os more) _ _ (statement_filled s) (block_filled more)
