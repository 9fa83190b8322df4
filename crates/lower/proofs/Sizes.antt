-- The words of a task's code, and the cycles of its expressions, are within the allowance of a source.
use Rattle.lower.proofs.Names.{freeze_events, freezing, nothing, Logging, Redo, Undo, own_read, own_write, own_update, ArrayPlace, ListPlace, array_place}
use Rattle.lower.proofs.Names.{list_place, stored_array}
use Rattle.lower.proofs.Names.{◌≡◌, ℕ, ◌+◌, ◌*◌, ◌<◌, ◌≤◌, ◌==◌, Bool, true, false, List, [], ◌∷◌, length, Option, Some, None, refl, sym, ap, arith, nat_le}
use Rattle.lower.proofs.Names.{if◌then◌else◌, nat_tests, CheckedExpression, CheckedStatement, CheckedChoice, CheckedBlock, WordType, Unsigned, Int, Long}
use Rattle.lower.proofs.Names.{is_long, binary_type, unary_type, literal_type, UnaryOperator, BinaryOperator, PlacedOperator, ShiftOperator, Literal}
use Rattle.lower.proofs.Names.{ShortCircuitOperator, BothHold, OneHolds, Variable, Shared, Local, width_least, cycles_column, words_column, operator_price}
use Rattle.lower.proofs.Names.{Summary, expression_price, statement_price, conditions_price, blocks_price, block_price, Negate, Complement, Plain}
use Rattle.lower.proofs.Names.{PlainOperation}
use Rattle.lower.proofs.Names.{Subtract, And, Xor, Or, Step, Test, Program, number, truth, unary, binary, shift, long, emit_word, store_number, move_word}
use Rattle.lower.proofs.Names.{jump, step, joined, binary_cycles, step_cycles, test_cycles, cycles_of, entry_words, step_words, test_words, words_of}
use Rattle.lower.proofs.Names.{joined_cycles, steps_keep_to_words, word_place, Gate, ListLength, EmitCount, Base, SentBase, VariablePlace, Scalar, Array}
use Rattle.lower.proofs.Names.{PrivateScalar, Places, private_words, some_words, run_at, runs_of}
use Rattle.lower.proofs.Names.{BinaryMeaning, Calculates, CommonBits, LongQuestion, LongMeaning, binary_meaning, shift_operation, operand_type}
use Rattle.lower.proofs.Names.{long_meaning, long_shift, BlocksKeepToWords, one, read_step, write_step, read_long, write_long, element_read, element_step}
use Rattle.lower.proofs.Names.{store_step, Lowering, as_word, as_test, as_bits, as_long, word_program, value_test, widening, long_words, long_program}
use Rattle.lower.proofs.Names.{name_lowering, unary_lowering, long_zero, operand_lowering, answer, long_binary_lowering, sides_lowering, shift_lowering}
use Rattle.lower.proofs.Names.{update_step, setting, long_setting, updating, of_words, sides_set, scalar_assignment, widened_type, lowered_long}
use Rattle.lower.proofs.Names.{doubling, shift_set}
use Rattle.lower.proofs.Names.{index_and_value, element_setting, update_element_step, element_updating, element_sides_set, binary_lowering, sides_test}
use Rattle.lower.proofs.Names.{lowering, assignment, element_assignment, emission, entries, lowered_transition, lowered_expression, lowered_test}
use Rattle.lower.proofs.Names.{lowered_statement, lowered_choice, lowered_block}
use Rattle.lower.proofs.Names.{CheckedValues, call_count, values_in, values_price, RoutinePlace, routine_of, call, give, call_at, call_step, arguments}
use Rattle.lower.proofs.Names.{BodiesKeep}
use Rattle.std.proofs.Common.{slice_get}
use Rattle.std.specs.Prelude.{slice_index_or}
use Rattle.source_values.specs.Values.{by_width, joined_type, type_of}
use Rattle.array_versions.proofs.Interface.{joined_words}
use Rattle.task_ast.specs.Tree as t
use Rattle.lower.proofs.Neighbours.{of_runs}
use Rattle.task_ast.specs.declared.UnaryOperator.TheVariants as unary_operator
use Rattle.task_ast.specs.declared.BinaryOperator.TheVariants as operator
use Rattle.task_ast.specs.declared.ShiftOperator.TheVariants as shift_operator
use Rattle.array_versions.specs.declared.operations.LongOperation.TheVariants as with_longs
use Rattle.lower.specs.declared.operations.LongQuestion.TheVariants as question
use Rattle.lower.specs.declared.operations.LongMeaning.TheVariants as meaning

-- ---- single steps

-- so many words and cycles
record Price : Type 0 where
  words : ℕ
  cycles : ℕ

-- so many more of both
abbrev beside : ℕ → ℕ → Price → Price
beside m n x = record { words = m + x.words; cycles = n + x.cycles }

-- a step has no more
abbrev StepCosts : Step → ℕ → ℕ → Type 0
StepCosts s m n = (step_words s ≤ m) × (step_cycles s ≤ n)

read_costs : (p : Places) (x : Variable) → StepCosts (read_step p x) 4 5
read_costs p (Shared v) = (omega arith, omega arith)
read_costs p (Local n) = (omega arith, omega arith)

write_costs : (p : Places) (x : Variable) → StepCosts (write_step p x) 4 5
write_costs p (Shared v) = (omega arith, omega arith)
write_costs p (Local n) = (omega arith, omega arith)

update_costs : (p : Places) (o : PlainOperation) (x : Variable) → StepCosts (update_step p o x) 8 10
update_costs p o (Shared v) = (omega arith, omega arith)
update_costs p o (Local n) = (omega arith, omega arith)

own_read_costs : (logging : Logging) (a : ArrayPlace) (list : ListPlace) → StepCosts (own_read logging a list) 18 23
own_read_costs Redo a list = (omega arith, omega arith)
own_read_costs Undo a list = (omega arith, omega arith)

own_write_costs : (logging : Logging) (a : ArrayPlace) (list : ListPlace) → StepCosts (own_write logging a list) 59 79
own_write_costs Redo a list = (omega arith, omega arith)
own_write_costs Undo a list = (omega arith, omega arith)

own_update_costs : (logging : Logging) (o : PlainOperation) (a : ArrayPlace) (list : ListPlace) → StepCosts (own_update logging o a list) 70 86
own_update_costs Redo o a list = (omega arith, omega arith)
own_update_costs Undo o a list = (omega arith, omega arith)

read_array_costs : (p : Places) (place : Option VariablePlace) → StepCosts (element_read p place) 18 23
read_array_costs p (Some (Array elements length (Some c))) = own_read_costs p.map.runtime.logging (array_place elements length c) (list_place p)
read_array_costs p (Some (Array elements length None)) = (omega arith, omega arith)
read_array_costs p (Some (Scalar home copy width)) = (omega arith, omega arith)
read_array_costs p None = (omega arith, omega arith)

element_costs : (p : Places) (x : Variable) → StepCosts (element_step p x) 18 23
element_costs p (Shared v) = read_array_costs p (slice_get p.map.variables v)
element_costs p (Local n) = (omega arith, omega arith)

long_shift_costs : (op : ShiftOperator) (k : ℕ) → StepCosts (long (long_shift op k)) 26 32
long_shift_costs shift_operator.Left k = (omega arith, omega arith)
long_shift_costs shift_operator.Right k = (omega arith, omega arith)

-- the words and the cycles of a node are no fewer than those of one of one word
record Least (of : WordType) : Type 0 where
  words : 16 ≤ by_width of 16 32
  cycles : 40 ≤ by_width of 40 80

least : (of : WordType) → Least of
least of = record { words = width_least of 16 16 32 (omega arith) (omega arith); cycles = width_least of 40 40 80 (omega arith) (omega arith) }

-- an operation takes 32 cycles less than its row
abbrev operation_cycles : BinaryMeaning → ℕ
operation_cycles (Calculates op) = binary_cycles op
operation_cycles _ = 8

-- the row of an operator
record Row (s : ℕ) (op : BinaryOperator) (is of : WordType) : Type 0 where
  words : 16 ≤ operator_price (words_column s) op of
  cycles : operation_cycles (binary_meaning op is) + 32 ≤ operator_price cycles_column op of

-- of each operator alike: the first clause makes it a proof by cases
row : (s : ℕ) (op : BinaryOperator) (is of : WordType) → Row s op is of
row s operator.Multiply is of = record { words = omega arith; cycles = omega arith }
row s _ is of = record { words = omega (arith, least of); cycles = omega (arith, least of) }

-- in place of long the type is unsigned
no_long : (of : WordType) → (if is_long of then Unsigned else of) ≡ Long → ⊥
no_long Long e = absurd (cc)
no_long of e = absurd (cc)

-- longs are taken where the joined type is long, by an operator with the price of one of longs
record TakesLongs (s : ℕ) (op : BinaryOperator) (of : WordType) : Type 0 where
  is_long : of ≡ Long
  words : operator_price (words_column s) op of ≡ 32
  cycles : operator_price cycles_column op of ≡ 80

takes_longs : (s : ℕ) (op : BinaryOperator) (of : WordType) → operand_type op of ≡ Long → TakesLongs s op of
takes_longs s operator.Multiply of e = absurd (no_long of e)
takes_longs s operator.Divide of e = absurd (no_long of e)
takes_longs s operator.Remainder of e = absurd (no_long of e)
takes_longs s _ of e = record { is_long = e; words = ap (λ z. by_width z 16 32) e; cycles = ap (λ z. by_width z 40 80) e }

-- ---- expressions

-- a program has no more words, and takes no more cycles than these but 11, so that a test has them
abbrev Costs : Program → Price → Type 0
Costs q x = (words_of q ≤ x.words) × (cycles_of q + 11 ≤ x.cycles)

-- one program behind another has the words and the cycles of both
added : (q r : Program) → (words_of (joined q r) ≡ words_of q + words_of r) × (cycles_of (joined q r) ≡ cycles_of q + cycles_of r)
added q r = (joined_words q r, joined_cycles q r)

-- a word is widened by 7 words, and what is long already by no more than 2
abbrev wider : WordType → ℕ
wider of = by_width of 7 2

-- what an expression comes to keeps to a price; its test has five words more and takes 8 cycles of the 11, and as a long it has the words by
-- which it is widened, and takes 12 cycles more
record HasPrice (of : WordType) (l : Lowering) (x : Price) : Type 0 where
  word : Costs (word_program l) x
  test : (test_words (value_test l) ≤ 5 + x.words) × (test_cycles (value_test l) + 3 ≤ x.cycles)
  long : Costs (long_program of l) (beside (wider of) 12 x)

has_more : (of : WordType) (l : Lowering) (x y : Price) → x.words ≤ y.words → x.cycles ≤ y.cycles → HasPrice of l x → HasPrice of l y
has_more of l x y m n h = record {
  word = (omega (arith, m, h.word), omega (arith, n, h.word));
  test = (omega (arith, m, h.test), omega (arith, n, h.test));
  long = (omega (arith, m, h.long), omega (arith, n, h.long));
}

-- one word and its widening
widened_has : (of : WordType) (q : Program) (x : Price) → Costs q x → Costs (joined q (widening of)) (beside (wider of) 12 x)
widened_has Long q x h = let l = added q (widening Long) in (omega (arith, l, h), omega (arith, l, h))
widened_has of q x h = let l = added q (widening of) in (omega (arith, l, h), omega (arith, l, h))

long_has : (of : WordType) (l : Lowering) (x : Price) → Costs (word_program l) x → Costs (long_words l) (beside 2 12 x)
    → Costs (long_program of l) (beside (wider of) 12 x)
long_has Long l x h k = k
long_has of l x h k = widened_has of (word_program l) x h

word_has : (of : WordType) (q : Program) (x : Price) → Costs q x → HasPrice of (as_word q) x
word_has of q x h = record { word = h; test = (omega (arith, h), omega (arith, h)); long = long_has of (as_word q) x h (widened_has Long q x h) }

test_has : (of : WordType) (c : Test) (x : Price) → test_words c + 3 ≤ x.words → test_cycles c + 16 ≤ x.cycles → HasPrice of (as_test c) x
test_has of c x h k = record {
  word = (omega (arith, h), omega (arith, k));
  test = (omega (arith, h), omega (arith, k));
  long = long_has of (as_test c) x (omega (arith, h), omega (arith, k)) (widened_has Long (one (truth c)) x (omega (arith, h), omega (arith, k)));
}

bits_have : (of : WordType) (sides : Program) (x : Price) → words_of sides + 4 ≤ x.words → cycles_of sides + 19 ≤ x.cycles → HasPrice of (as_bits sides) x
bits_have of sides x h k = record {
  word = word;
  test = (omega (arith, h), omega (arith, k));
  long = long_has of (as_bits sides) x word (widened_has Long (joined sides (one (binary (Plain And)))) x word);
}
  where
    word : Costs (joined sides (one (binary (Plain And)))) x
    word = let l = added sides (one (binary (Plain And))) in (omega (arith, l, h), omega (arith, l, k))

long_value_has : (of : WordType) (q : Program) (x : Price) → words_of q + 4 ≤ x.words → cycles_of q + 19 ≤ x.cycles → HasPrice of (as_long q) x
long_value_has of q x h k =
    let low = added q (one (long with_longs.LowWord)) in
    let both = added q (one (binary (Plain Or))) in
    record {
      word = (omega (arith, low, h), omega (arith, low, k));
      test = (omega (arith, both, h), omega (arith, both, k));
      long = long_has of (as_long q) x (omega (arith, low, h), omega (arith, low, k)) (omega (arith, h), omega (arith, k));
    }

-- a step behind a word
last_has : (of : WordType) (q : Program) (s : Step) (m n : ℕ) (x : Price) → StepCosts s m n → Costs q x
    → HasPrice of (as_word (joined q (one s))) (beside m n x)
last_has of q s m n x c h = let l = added q (one s) in word_has of _ (beside m n x) (omega (arith, l, c, h), omega (arith, l, c, h))

name_has : (p : Places) (of : WordType) (x : Variable) → HasPrice of (name_lowering p of x) (record { words = by_width of 16 32; cycles = by_width of 40 80 })
name_has p Long (Shared v) = long_value_has Long (read_long p (Shared v)) _ (omega arith) (omega arith)
name_has p Long (Local n) = long_value_has Long (read_long p (Local n)) _ (omega arith) (omega arith)
name_has p of x = let a = read_costs p x in word_has of (one (read_step p x)) _ (omega (arith, a), omega (arith, a))

unary_has : (of : WordType) (op : UnaryOperator) (l : Lowering) (x : Price) → HasPrice of l x
    → HasPrice (unary_type op of) (unary_lowering op l) (beside 16 40 x)
unary_has of unary_operator.Negate l x h = last_has of (word_program l) (unary Negate) 16 40 x (omega arith, omega arith) h.word
unary_has of unary_operator.Complement l x h = last_has of (word_program l) (unary Complement) 16 40 x (omega arith, omega arith) h.word
unary_has of unary_operator.Not l x h = test_has Int _ (beside 16 40 x) (omega (arith, h.test)) (omega (arith, h.test))

operand_has : (of : WordType) (op : UnaryOperator) (l : Lowering) (x : Price) → HasPrice of l x
    → HasPrice (unary_type op of) (operand_lowering of op l) (beside (by_width of 16 32) (by_width of 40 80) x)
operand_has Long unary_operator.Negate l x h =
    let beneath = added long_zero (long_words l) in
    let all = added (joined long_zero (long_words l)) (one (long (with_longs.Calculate Subtract))) in
    long_value_has Long _ (beside 32 80 x) (omega (arith, all, beneath, h.long)) (omega (arith, all, beneath, h.long))
operand_has Long unary_operator.Complement l x h =
    let all = added (long_words l) (one (long with_longs.Complement)) in
    long_value_has Long _ (beside 32 80 x) (omega (arith, all, h.long)) (omega (arith, all, h.long))
operand_has Long unary_operator.Not l x h = test_has Int _ (beside 32 80 x) (omega (arith, h.test)) (omega (arith, h.test))
operand_has of op l x h = unary_has of op l x h

binary_has : (of : WordType) (meaning : BinaryMeaning) (sides : Program) (x : Price) → words_of sides ≤ x.words → cycles_of sides + 22 ≤ x.cycles
    → HasPrice of (binary_lowering meaning sides) (beside 16 (operation_cycles meaning + 32) x)
binary_has of (Calculates op) sides x h k =
    let l = added sides (one (binary op)) in
    word_has of _ (beside 16 (binary_cycles op + 32) x) (omega (arith, l, steps_keep_to_words (binary op), h), omega (arith, l, k))
binary_has of CommonBits sides x h k = bits_have of sides (beside 16 40 x) (omega (arith, h)) (omega (arith, k))
binary_has of meaning sides x h k = test_has of _ (beside 16 40 x) (omega (arith, h)) (omega (arith, k))

-- an answer behind two longs has 12 words at most, and takes 24 cycles at most
answer_costs : (q : LongQuestion) (sides : Program)
    → (words_of (answer q sides) ≤ words_of sides + 12) × (cycles_of (answer q sides) ≤ cycles_of sides + 24)
answer_costs question.Below sides = let l = added sides (one (long with_longs.Below)) in (omega (arith, l), omega (arith, l))
answer_costs question.Above sides = let l = added sides (one (long with_longs.Above)) in (omega (arith, l), omega (arith, l))
answer_costs question.Differ sides =
    let differ = one (long (with_longs.Calculate Xor)) in
    let l = added sides differ in
    let k = added (joined sides differ) (one (binary (Plain Or))) in
    (omega (arith, k, l), omega (arith, k, l))

long_binary_has : (of : WordType) (m : LongMeaning) (sides : Program) (x : Price) → words_of sides ≤ 9 + x.words → cycles_of sides ≤ 2 + x.cycles
    → HasPrice of (long_binary_lowering m sides) (beside 32 80 x)
long_binary_has of (meaning.Calculates op) sides x h k =
    let l = added sides (one (long (with_longs.Calculate op))) in long_value_has of _ (beside 32 80 x) (omega (arith, l, h)) (omega (arith, l, k))
long_binary_has of (meaning.Holds q) sides x h k =
    let a = answer_costs q sides in test_has of _ (beside 32 80 x) (omega (arith, a, h)) (omega (arith, a, k))
long_binary_has of (meaning.Fails q) sides x h k =
    let a = answer_costs q sides in test_has of _ (beside 32 80 x) (omega (arith, a, h)) (omega (arith, a, k))

-- with a long among two operands no more than one is widened
wider_together : (s of : WordType) → joined_type s of ≡ Long → wider s + wider of ≤ 9
wider_together Long Long e = omega arith
wider_together Long of e = omega arith
wider_together s Long e = omega arith
wider_together Int Int e = absurd (cc)
wider_together s of e = absurd (cc)

-- the prices of two sides together
abbrev together : Price → Price → Price
together x y = record { words = x.words + y.words; cycles = x.cycles + y.cycles }

-- those of an operator with its sides
abbrev operator_and_sides : ℕ → BinaryOperator → WordType → Price → Price → Price
operator_and_sides s op of x y = record {
  words = operator_price (words_column s) op of + x.words + y.words;
  cycles = operator_price cycles_column op of + x.cycles + y.cycles;
}

-- two operands of these types, which become long by others
record BothHave (first second u v : WordType) (l r : Lowering) (x y : Price) : Type 0 where
  left : HasPrice u l x
  right : HasPrice v r y
  left_wider : wider u ≡ wider first
  right_wider : wider v ≡ wider second

module _ (s : ℕ) where
  word_sides_have : (is joined_as of : WordType) (op : BinaryOperator) (l r : Lowering) (x y : Price) → Costs (word_program l) x → Costs (word_program r) y
      → HasPrice of (binary_lowering (binary_meaning op is) (joined (word_program l) (word_program r))) (operator_and_sides s op joined_as x y)
  word_sides_have is joined_as of op l r x y h k =
      let sides = added (word_program l) (word_program r) in
      let most = row s op is joined_as in
      has_more of _ (beside 16 (operation_cycles (binary_meaning op is) + 32) (together x y)) _ (omega (arith, most)) (omega (arith, most))
      (binary_has of (binary_meaning op is) _ (together x y) (omega (arith, sides, h, k)) (omega (arith, sides, h, k)))

  sides_have : (is first second u v : WordType) (op : BinaryOperator) (l r : Lowering) (x y : Price) → operand_type op (joined_type first second) ≡ is
      → BothHave first second u v l r x y
      → HasPrice (binary_type op first second) (sides_lowering is op u v l r) (operator_and_sides s op (joined_type first second) x y)
  sides_have Long first second u v op l r x y e h =
      let takes = takes_longs s op (joined_type first second) e in
      let sides = added (long_program u l) (long_program v r) in
      let few = wider_together first second takes.is_long in
      has_more (binary_type op first second) _ (beside 32 80 (together x y)) _ (omega (arith, takes.words)) (omega (arith, takes.cycles))
      (long_binary_has (binary_type op first second) (long_meaning op) _ (together x y)
      (omega (arith, sides, few, h.left.long, h.right.long, h.left_wider, h.right_wider)) (omega (arith, sides, h.left.long, h.right.long)))
  sides_have is first second u v op l r x y e h = word_sides_have is (joined_type first second) _ op l r x y h.left.word h.right.word

word_shift_has : (of : WordType) (op : ShiftOperator) (l : Lowering) (x : Price) (k : ℕ) → HasPrice of l x
    → HasPrice of (as_word (joined (word_program l) (one (shift (shift_operation op of) k)))) (beside 16 100 x)
word_shift_has of op l x k h =
    let operation = shift (shift_operation op of) k in
    last_has of (word_program l) operation 16 100 x (omega (arith, steps_keep_to_words operation), omega arith) h.word

shift_has : (of : WordType) (op : ShiftOperator) (l : Lowering) (x : Price) (k : ℕ) → HasPrice of l x
    → HasPrice of (shift_lowering of op l k) (beside (by_width of 16 32) (by_width of 100 400) x)
shift_has Long op l x k h =
    let all = added (long_words l) (one (long (long_shift op k))) in
    let few = long_shift_costs op k in
    long_value_has Long _ (beside 32 400 x) (omega (arith, all, few, h.long)) (omega (arith, all, few, h.long))
shift_has of op l x k h = word_shift_has of op l x k h

both_cost : (op : ShortCircuitOperator) (c d : Test)
    → (test_words (sides_test op c d) ≡ test_words c + test_words d) × (test_cycles (sides_test op c d) ≡ test_cycles c + test_cycles d)
both_cost BothHold c d = (refl, refl)
both_cost OneHolds c d = (refl, refl)

-- a number is widened by no more, with whatever sign
literal_wider : (n : ℕ) → wider (literal_type n) ≡ 7
literal_wider n = by (nat_le n 32767)
  where
    by : (b : Bool) → wider (if b then Int else Unsigned) ≡ 7
    by true = refl
    by false = refl

same_wider : (e : CheckedExpression) → wider (widened_type e) ≡ wider (type_of e)
same_wider (t.number n) = sym (literal_wider n)
same_wider e = refl

-- the same by the type by which an expression becomes long
widened_type_has : (p : Places) (rs : List Program) (e : CheckedExpression) (x : Price) → HasPrice (type_of e) (lowering p rs e) x
    → HasPrice (widened_type e) (lowering p rs e) x
widened_type_has p rs (t.number w) x h = word_has Unsigned (one (number w)) x h.word
widened_type_has p rs e x h = h

-- a call of so many values
call_costs : (at : Option RoutinePlace) (count : ℕ) (body : Program) → StepCosts (call_at at count body) (8 + 2 * count) (16 + 5 * count + cycles_of body)
call_costs None count body = (omega arith, omega arith)
call_costs (Some r) count body = by r.frame
  where
    by : (frame : Option ℕ) → StepCosts (call r.code.address frame r.first count body) (8 + 2 * count) (16 + 5 * count + cycles_of body)
    by None = (omega arith, omega arith)
    by (Some f) = (omega arith, omega arith)

-- the price of an expression in the allowance of a source
abbrev price : List Summary → ℕ → CheckedExpression → Price
price known s e = record { words = expression_price known (words_column s) e; cycles = expression_price known cycles_column e }

-- the values of a call keep to theirs, with 4 words and 11 cycles to spare for each
abbrev ValuesKeep : List Summary → ℕ → CheckedValues → Program → Type 0
ValuesKeep known s values q =
    (words_of q + 4 * values_in values ≤ values_price known (words_column s) values)
    × (cycles_of q + 11 * values_in values ≤ values_price known cycles_column values)

-- with these answers of the functions in front, and their bodies
module _ (known : List Summary) (rs : List Program) (cheap : BodiesKeep known rs) where
  mutual
    lowering_has : (p : Places) (s : ℕ) (e : CheckedExpression) → HasPrice (type_of e) (lowering p rs e) (price known s e)
    lowering_has p s (t.number n) = word_has _ _ _ (omega arith, omega arith)
    lowering_has p s (t.long_number n) = long_value_has Long _ _ (omega arith) (omega arith)
    lowering_has p s (t.name x) = name_has p x.word_type x.variable
    lowering_has p s (t.element x index) =
        let few = element_costs p x.variable in
        last_has x.word_type (lowered_expression p rs index) (element_step p x.variable) 24 60 (price known s index) (omega (arith, few), omega (arith, few))
        (lowering_has p s index).word
    lowering_has p s t.sense = word_has Unsigned _ _ (omega arith, omega arith)
    lowering_has p s t.next_event = word_has Unsigned _ _ (omega arith, omega arith)
    lowering_has p s (t.call f values) =
        let i = f.function in
        let last = call_step p rs i (call_count values) in
        let each = arguments_have p s values in
        let few = call_costs (routine_of p i) (call_count values) (slice_index_or rs i nothing) in
        let body = cheap i in
        let l = added (arguments p rs values) (one last) in
        word_has f.word_type _ (price known s (t.call f values)) (omega (arith, l, each, few), omega (arith, l, each, few, body))
    lowering_has p s (t.unary op e) = operand_has (type_of e) op (lowering p rs e) (price known s e) (lowering_has p s e)
    lowering_has p s (t.binary op a b) =
        let both : BothHave (type_of a) (type_of b) (widened_type a) (widened_type b) (lowering p rs a) (lowering p rs b) (price known s a)
        (price known s b) = record {
          left = widened_type_has p rs a (price known s a) (lowering_has p s a);
          right = widened_type_has p rs b (price known s b) (lowering_has p s b);
          left_wider = same_wider a;
          right_wider = same_wider b;
        } in
        sides_have s (operand_type op.operator (joined_type (type_of a) (type_of b))) (type_of a) (type_of b) (widened_type a) (widened_type b) op.operator
        (lowering p rs a) (lowering p rs b) (price known s a) (price known s b) refl both
    lowering_has p s (t.shift op e count) = shift_has (type_of e) op (lowering p rs e) (price known s e) count.value (lowering_has p s e)
    lowering_has p s (t.short_circuit op a b) =
        let first = (lowering_has p s a).test in
        let second = (lowering_has p s b).test in
        let both = both_cost op (lowered_test p rs a) (lowered_test p rs b) in
        let few = least (joined_type (type_of a) (type_of b)) in
        test_has Int _ _ (omega (arith, both, first, second, few)) (omega (arith, both, first, second, few))

    arguments_have : (p : Places) (s : ℕ) (values : CheckedValues) → ValuesKeep known s values (arguments p rs values)
    arguments_have p s t.no_value = (omega arith, omega arith)
    arguments_have p s (t.value e more) =
        let first = (lowering_has p s e).word in
        let others = arguments_have p s more in
        let l = added (lowered_expression p rs e) (arguments p rs more) in
        (omega (arith, l, first, others), omega (arith, l, first, others))

-- ---- words of transitions

-- an entry has no more than the words of its scalars
one_entry : (words : ℕ) → 0 < words → entry_words words ≤ 16 * words
one_entry words some = by (words == 1) refl
  where
    by : (b : Bool) → (words == 1) ≡ b → (if b then 16 else 17) ≤ 16 * words
    by true e = omega (arith, some)
    by false e = let more : 2 ≤ words = grind (arith, nat_tests) in omega (arith, more)

entries_words : (count list : ℕ) (privates : List PrivateScalar) → words_of (entries count list (runs_of privates)) ≤ 16 * private_words privates
entries_words count list [] = omega arith
entries_words count list (s ∷ more) =
    let rest = of_runs (λ r privates rs. 0 < r.words → words_of (entries count list rs) ≤ 16 * (r.words + private_words privates))
    (λ r some. let one = one_entry r.words some in omega (arith, one))
    (λ r s more rs e h some. let joined = h (omega (arith, some)) in omega (arith, joined))
    (λ r s more rs h some. let one = one_entry r.words some in let apart = h (some_words s.width) in omega (arith, one, apart))
    (run_at s) more (some_words s.width) in
    omega (arith, rest)

-- what SE takes where there are events
pub freezing_costs : (p : Places) → (words_of (freezing p) ≤ 6) × (cycles_of (freezing p) ≤ 10)
freezing_costs p = by p.map.runtime.events
  where
    by : (events : Bool) → (let q : Program = if events then one freeze_events else nothing in (words_of q ≤ 6) × (cycles_of q ≤ 10))
    by true = (omega arith, omega arith)
    by false = (omega arith, omega arith)

transition_words : (p : Places) (s task : ℕ) → private_words p.privates ≤ s → words_of (lowered_transition p task) ≤ 40 + 16 * s
transition_words p s task few =
    let a = entries_words (word_place p.map ListLength) p.map.list.address p.privates in
    let gated : Program = step (store_number (word_place p.map Gate) 1) (one (jump p.map.commit.address)) in
    let close : Program = step (move_word (word_place p.map Base) (word_place p.map SentBase)) (joined (freezing p) gated) in
    let l = joined_words (entries (word_place p.map ListLength) p.map.list.address (runs_of p.privates)) close in
    let last = joined_words (freezing p) gated in
    let frozen = freezing_costs p in
    omega (arith, a, l, last, frozen, few)

-- ---- assignments and emits

-- a program has no more words and takes no more cycles
abbrev Keeps : Program → Price → Type 0
Keeps q x = (words_of q ≤ x.words) × (cycles_of q ≤ x.cycles)

module _ (known : List Summary) (rs : List Program) (cheap : BodiesKeep known rs) where
  setting_keeps : (p : Places) (s : ℕ) (x : Variable) (e : CheckedExpression) → Keeps (setting p rs x e) (beside 24 40 (price known s e))
  setting_keeps p s x e =
      let l = added (lowered_expression p rs e) (one (write_step p x)) in
      let a = write_costs p x in
      let h = (lowering_has known rs cheap p s e).word in
      (omega (arith, a, l, h), omega (arith, a, l, h))

  sides_set_keeps : (p : Places) (s : ℕ) (x : Variable) (op : PlacedOperator) (a b : CheckedExpression) (o : Option PlainOperation)
      → Keeps (sides_set p rs x op a b o) (beside 24 40 (price known s (t.binary op a b)))
  sides_set_keeps p s x op a b None = setting_keeps p s x (t.binary op a b)
  sides_set_keeps p s x op a b (Some o) =
      let l = added (lowered_expression p rs b) (one (update_step p o x)) in
      let c = update_costs p o x in
      let h = (lowering_has known rs cheap p s b).word in
      (omega (arith, c, l, h), omega (arith, c, l, h))

  shift_set_keeps : (p : Places) (s : ℕ) (x : Variable) (op : ShiftOperator) (e : CheckedExpression) (count : Literal) (o : Option PlainOperation)
      → Keeps (shift_set p rs x op e count o) (beside 24 40 (price known s (t.shift op e count)))
  shift_set_keeps p s x op e count None = setting_keeps p s x (t.shift op e count)
  shift_set_keeps p s x op e count (Some o) =
      let l = added (lowered_expression p rs e) (one (update_step p o x)) in
      let c = update_costs p o x in
      let h = (lowering_has known rs cheap p s e).word in
      (omega (arith, c, l, h), omega (arith, c, l, h))

  -- the first clause makes it a proof by cases
  pub assignment_keeps : (p : Places) (s : ℕ) (x : Variable) (e : CheckedExpression) → Keeps (assignment p rs x e) (beside 24 40 (price known s e))
  assignment_keeps p s x (t.binary op a b) =
      sides_set_keeps p s x op a b (of_words (joined_type (type_of a) (type_of b)) (updating x op.operator a b))
  assignment_keeps p s x (t.shift op e count) = shift_set_keeps p s x op e count (of_words (type_of e) (doubling x op e count.value))
  assignment_keeps p s x e = setting_keeps p s x e

  long_setting_keeps : (p : Places) (s : ℕ) (x : Variable) (e : CheckedExpression) → Keeps (long_setting p rs x e) (beside 40 80 (price known s e))
  long_setting_keeps p s x e =
      let l = added (lowered_long p rs e) (write_long p x) in
      let h = (widened_type_has p rs e (price known s e) (lowering_has known rs cheap p s e)).long in
      let few = most_wider (widened_type e) in
      let a = writes x in
      (omega (arith, l, a, h, few), omega (arith, l, a, h))
    where
      most_wider : (of : WordType) → wider of ≤ 7
      most_wider Long = omega arith
      most_wider of = omega arith

      writes : (x : Variable) → Keeps (write_long p x) (record { words = 5; cycles = 10 })
      writes (Shared v) = (omega arith, omega arith)
      writes (Local n) = (omega arith, omega arith)

  pub scalar_keeps : (p : Places) (s : ℕ) (of : WordType) (x : Variable) (e : CheckedExpression)
      → Keeps (scalar_assignment p rs of x e) (beside (by_width of 24 40) (by_width of 40 80) (price known s e))
  scalar_keeps p s Long x e = long_setting_keeps p s x e
  scalar_keeps p s of x e = assignment_keeps p s x e

  -- an assignment to an element keeps to its row and those of its parts
  abbrev ElementKeeps : ℕ → CheckedExpression → CheckedExpression → Program → Type 0
  ElementKeeps s index e q = Keeps q (record {
    words = 60 + expression_price known (words_column s) index + expression_price known (words_column s) e;
    cycles = 120 + expression_price known cycles_column index + expression_price known cycles_column e;
  })

  element_setting_keeps : (p : Places) (s : ℕ) (x : Variable) (index e : CheckedExpression) → ElementKeeps s index e (element_setting p rs x index e)
  element_setting_keeps p s x index e =
      let l = added (lowered_expression p rs index) (lowered_expression p rs e) in
      let m = added (index_and_value p rs index e) (one (store_step p x)) in
      let last = own_write_costs p.map.runtime.logging (stored_array p x) (list_place p) in
      let h = (lowering_has known rs cheap p s index).word in
      let k = (lowering_has known rs cheap p s e).word in
      (omega (arith, l, m, h, k, last), omega (arith, l, m, h, k, last))

  element_sides_keep : (p : Places) (s : ℕ) (x : Variable) (index : CheckedExpression) (op : PlacedOperator) (a b : CheckedExpression)
      (o : Option PlainOperation) → ElementKeeps s index (t.binary op a b) (element_sides_set p rs x index op a b o)
  element_sides_keep p s x index op a b None = element_setting_keeps p s x index (t.binary op a b)
  element_sides_keep p s x index op a b (Some o) =
      let most = row s op.operator Unsigned (joined_type (type_of a) (type_of b)) in
      let l = added (lowered_expression p rs index) (lowered_expression p rs b) in
      let m = added (index_and_value p rs index b) (one (update_element_step p o x)) in
      let last = own_update_costs p.map.runtime.logging o (stored_array p x) (list_place p) in
      let h = (lowering_has known rs cheap p s index).word in
      let k = (lowering_has known rs cheap p s b).word in
      (omega (arith, most, l, m, h, k, last), omega (arith, most, l, m, h, k, last))

  -- the first clause makes it a proof by cases
  pub element_keeps : (p : Places) (s : ℕ) (x : Variable) (index e : CheckedExpression) → ElementKeeps s index e (element_assignment p rs x index e)
  element_keeps p s x index (t.binary op a b) =
      element_sides_keep p s x index op a b (of_words (joined_type (type_of a) (type_of b)) (element_updating x index op.operator a b))
  element_keeps p s x index e = element_setting_keeps p s x index e

  pub emission_keeps : (p : Places) (s : ℕ) (e : CheckedExpression) → Keeps (emission p rs e) (beside 24 60 (price known s e))
  emission_keeps p s e =
      let l = added (lowered_expression p rs e) (one (emit_word (word_place p.map EmitCount) p.map.emits.address)) in
      let h = (lowering_has known rs cheap p s e).word in
      (omega (arith, l, h), omega (arith, l, h))

  pub give_keeps : (p : Places) (s : ℕ) (e : CheckedExpression) → Keeps (joined (lowered_expression p rs e) (one give)) (beside 24 40 (price known s e))
  give_keeps p s e =
      let l = added (lowered_expression p rs e) (one give) in
      let h = (lowering_has known rs cheap p s e).word in
      (omega (arith, l, h), omega (arith, l, h))

  -- ---- words of statements

  mutual
    pub statement_words : (p : Places) (s : ℕ) → private_words p.privates ≤ s → (x : CheckedStatement)
        → words_of (lowered_statement p rs x) ≤ statement_price known (words_column s) x
    statement_words p s few (t.declare of x None) = omega arith
    statement_words p s few (t.declare of x (Some e)) = (assignment_keeps p s x.variable e).0
    statement_words p s few (t.assign x e) = (scalar_keeps p s x.word_type x.variable e).0
    statement_words p s few (t.store x index e) = (element_keeps p s x.variable index e).0
    statement_words p s few (t.choose choice) = let a = choice_words p s few choice in omega (arith, a)
    statement_words p s few (t.loop x from tested below stepped body) = let a = block_words p s few body in omega (arith, a)
    statement_words p s few (t.emit e) = (emission_keeps p s e).0
    statement_words p s few (t.give at e) = (give_keeps p s e).0
    statement_words p s few (t.transition at task) = transition_words p s task.task few

    pub choice_words : (p : Places) (s : ℕ) → private_words p.privates ≤ s → (c : CheckedChoice)
        → words_of (lowered_choice p rs c) ≤ conditions_price known (words_column s) c + blocks_price known (words_column s) c
    choice_words p s few t.nothing = omega arith
    choice_words p s few (t.otherwise block) = let a = block_words p s few block in omega (arith, a)
    choice_words p s few (t.test e block more) =
        let a = block_words p s few block in
        let b = choice_words p s few more in
        let h = (lowering_has known rs cheap p s e).test in
        omega (arith, a, b, h)

    pub block_words : (p : Places) (s : ℕ) → private_words p.privates ≤ s → (b : CheckedBlock)
        → words_of (lowered_block p rs b) ≤ block_price known (words_column s) b
    block_words p s few t.end = omega arith
    block_words p s few (t.step x more) =
        let a = statement_words p s few x in
        let b = block_words p s few more in
        let l = joined_words (lowered_statement p rs x) (lowered_block p rs more) in
        omega (arith, a, b, l)

  -- ---- cycles of expressions: 11 less than is allowed, so that a test has them

  pub expression_cycles : (p : Places) (e : CheckedExpression) → cycles_of (lowered_expression p rs e) + 11 ≤ expression_price known cycles_column e
  expression_cycles p e = (lowering_has known rs cheap p 0 e).word.1

  -- a choice has 3 more for a branch
  pub test_cycles_kept : (p : Places) (e : CheckedExpression) → test_cycles (lowered_test p rs e) + 3 ≤ expression_price known cycles_column e
  test_cycles_kept p e = (lowering_has known rs cheap p 0 e).test.1

pub blocks_keep_to_words : BlocksKeepToWords
blocks_keep_to_words known rs cheap p s block few = block_words known rs cheap p s few block
