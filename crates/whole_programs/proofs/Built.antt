-- The fold over lowered programs: a fact that holds of steps, and of what is put together of what has it, holds of expressions and statements.
use Rattle.std.proofs.Common.{◌≡◌, ℕ, suc, ◌+◌, ◌/◌, ◌%◌, ◌<◌, ◌≤◌, ◌||◌, Bool, true, false, List, [], ◌∷◌, Option, Some, None, arith}
use Rattle.std.proofs.Common.{if◌then◌else◌, subst, slice_get}
use Rattle.std.proofs.lemmas.Bool.{or_parts, not-true}
use Rattle.std.specs.List.{AllByRecursion}
use Rattle.alp_words.specs.Words.{IsWord}
use Rattle.task_ast.specs.Tree as t
use Rattle.task_ast.specs.Paths.{CheckedExpression, CheckedValues, CheckedStatement, CheckedChoice, CheckedBlock}
use Rattle.task_ast.specs.declared.SharedDeclaration.{SharedDeclaration}
use Rattle.task_ast.specs.declared.WordType.{WordType}
use Rattle.task_ast.specs.declared.WordType.TheVariants.{Unsigned, Int, Long}
use Rattle.task_ast.specs.declared.BinaryOperator.{BinaryOperator}
use Rattle.task_ast.specs.declared.ShiftOperator.{ShiftOperator}
use Rattle.task_ast.specs.declared.Literal.{Literal}
use Rattle.task_ast.specs.declared.ShiftOperator.TheVariants as shift_operator
use Rattle.task_ast.specs.declared.UnaryOperator.{UnaryOperator}
use Rattle.task_ast.specs.declared.UnaryOperator.TheVariants as unary_operator
use Rattle.task_ast.specs.declared.PlacedOperator.{PlacedOperator}
use Rattle.task_ast.specs.declared.ShortCircuitOperator.{ShortCircuitOperator}
use Rattle.task_ast.specs.declared.ShortCircuitOperator.TheVariants.{And as BothHold, Or as OneHolds}
use Rattle.task_ast.specs.declared.names.Variable.{Variable}
use Rattle.task_ast.specs.declared.names.Variable.TheVariants.{Shared, Local}
use Rattle.path_checks.specs.Loops.{is_same_local, statement_assigns, choice_assigns, block_assigns}
use Rattle.source_values.specs.Values.{joined_type, type_of}
use Rattle.array_versions.specs.declared.operations.UnaryOperation.{UnaryOperation}
use Rattle.array_versions.specs.declared.operations.UnaryOperation.TheVariants.{Negate, Complement}
use Rattle.array_versions.specs.declared.operations.BinaryOperation.{BinaryOperation}
use Rattle.array_versions.specs.declared.operations.BinaryOperation.TheVariants.{Plain}
use Rattle.array_versions.specs.declared.operations.PlainOperation.{PlainOperation}
use Rattle.array_versions.specs.declared.operations.PlainOperation.TheVariants.{Subtract, And, Xor, Or}
use Rattle.array_versions.specs.declared.operations.Comparison.{Comparison}
use Rattle.array_versions.specs.declared.operations.Comparison.TheVariants.{CommonBit}
use Rattle.array_versions.specs.declared.operations.ShiftOperation.{ShiftOperation}
use Rattle.array_versions.specs.declared.operations.LongOperation.TheVariants as with_longs
use Rattle.array_versions.specs.declared.program.ArrayPlace.{ArrayPlace}
use Rattle.array_versions.specs.declared.program.ListPlace.{ListPlace}
use Rattle.array_versions.specs.Program.{Step, Test, Program, number, load, keep, local, set_local, update_local, unary, binary, shift, long, element}
use Rattle.array_versions.specs.Program.{update, emit_word, list_entry, versioned_read, sense, next_event, freeze_events, truth, choose, repeat}
use Rattle.array_versions.specs.Program.{store_number, move_word, jump, give}
use Rattle.array_versions.specs.Program.{holds, compares, both, either, fails, nothing, step, joined}
use Rattle.array_versions.specs.Form.{ArrayOfWords, ListOfWords, StepOfWords}
use Rattle.memory_map.specs.MemoryMap.{word_place}
use Rattle.memory_map.specs.declared.words.RuntimeWord.TheVariants.{NextTask, Gate, ListLength, EmitCount, Base, SentBase, Version}
use Rattle.memory_map.specs.declared.place.VariablePlace.{VariablePlace}
use Rattle.memory_map.specs.declared.place.VariablePlace.TheVariants.{Scalar, Array}
use Rattle.memory_map.specs.Spots.{Places, address_of}
use Rattle.lower.specs.declared.runs.Run.{Run}
use Rattle.lower.specs.Runs.{runs_of}
use Rattle.lower.specs.declared.operations.BinaryMeaning.{BinaryMeaning}
use Rattle.lower.specs.declared.operations.BinaryMeaning.TheVariants.{Calculates, CommonBits, Holds, Fails}
use Rattle.lower.specs.declared.operations.LongMeaning.{LongMeaning}
use Rattle.lower.specs.declared.operations.LongMeaning.TheVariants as of_longs
use Rattle.lower.specs.declared.operations.LongQuestion.{LongQuestion}
use Rattle.lower.specs.declared.operations.LongQuestion.TheVariants as question
use Rattle.lower.specs.Operations.{binary_meaning, shift_operation, operand_type, long_meaning, long_shift}
use Rattle.lower.specs.Lowered.{one, read_step, write_step, update_step, read_long, write_long, high_address, array_place, list_place, written_array}
use Rattle.lower.specs.Lowered.{stored_array, element_read, element_step, store_step, update_element_step, Lowering, as_word, as_test, as_bits, as_long}
use Rattle.lower.specs.Lowered.{word_program, value_test, widening, long_words, long_program, name_lowering, unary_lowering, long_zero, operand_lowering}
use Rattle.lower.specs.Lowered.{binary_lowering, answer, long_binary_lowering, sides_lowering, shift_lowering, sides_test, widened_type, lowering}
use Rattle.lower.specs.Lowered.{lowered_expression, lowered_long, lowered_test, setting, updating, of_words, sides_set, assignment, scalar_assignment}
use Rattle.lower.specs.Lowered.{doubling, shift_set}
use Rattle.lower.specs.Lowered.{own_read, own_write, own_update, logged_place}
use Rattle.array_versions.specs.Program.{versioned_write, versioned_update, logged_write, logged_update}
use Rattle.memory_map.specs.declared.runtime.Logging.{Logging}
use Rattle.memory_map.specs.declared.runtime.Logging.TheVariants.{Redo, Undo}
use Rattle.lower.specs.Lowered.{index_and_value, element_updating, element_sides_set, element_assignment, loop_local, entries, freezing}
use Rattle.lower.specs.Lowered.{lowered_transition, local_number, arguments, call_step, call_count}
use Rattle.lower.specs.Lowered.{lowered_statement, lowered_choice, lowered_block}
use Rattle.lower.proofs.Interface.{RunOfWords, runs_of_words}
use Rattle.checked_trees.specs.WellFormed.{IsWordName, IsLocal, IsBelow, values_in, stack_words, value_words, WellFormedExpression, WellFormedValues}
use Rattle.checked_trees.specs.WellFormed.{ExpressionNames, ValuesName}
use Rattle.whole_programs.proofs.Placed.{PlaceOfWords, PlacesOfWords}
use Rattle.whole_programs.proofs.Rooms.{IsRoomFor}
use Rattle.whole_programs.proofs.Fit.{OfCalls, ExpressionEachCall, ValuesEachCall, Setting, IsFitExpression, IsFitStatement, IsFitChoice, IsFitBlock}
use Rattle.whole_programs.proofs.Fit.{right_fit, shifted_fit, first_fit, rest_fit, choice_fit, otherwise_fit, taken_fit, passed_fit}

-- ---- steps of expressions

-- a step of an expression that names no local, with the words on the stack before it and behind it
pub data Leaf : ℕ → ℕ → Step → Type 0 where
  a_number : {d : ℕ} (w : ℕ) → Leaf d (suc d) (number w)
  a_load : {d : ℕ} (a : ℕ) → Leaf d (suc d) (load a)
  a_reading : {d : ℕ} → Leaf d (suc d) sense
  an_event : {d : ℕ} → Leaf d (suc d) next_event
  a_unary : {d : ℕ} (op : UnaryOperation) → Leaf (suc d) (suc d) (unary op)
  a_shift : {d : ℕ} (op : ShiftOperation) (k : ℕ) → Leaf (suc d) (suc d) (shift op k)
  an_element : {d : ℕ} (base length : ℕ) → Leaf (suc d) (suc d) (element base length)
  a_version : {d : ℕ} (place : ArrayPlace) (list : ListPlace) → Leaf (suc d) (suc d) (versioned_read place list)
  a_binary : {d : ℕ} (op : BinaryOperation) → Leaf (suc (suc d)) (suc d) (binary op)
  a_widening : {d : ℕ} → Leaf (suc d) (suc (suc d)) (long with_longs.Widen)
  a_join : {d : ℕ} → Leaf (suc (suc d)) (suc (suc d)) (long with_longs.Join)
  a_low_word : {d : ℕ} → Leaf (suc (suc d)) (suc d) (long with_longs.LowWord)
  a_complement : {d : ℕ} → Leaf (suc (suc d)) (suc (suc d)) (long with_longs.Complement)
  a_left_shift : {d : ℕ} (k : ℕ) → Leaf (suc (suc d)) (suc (suc d)) (long (with_longs.ShiftLeft k))
  a_right_shift : {d : ℕ} (k : ℕ) → Leaf (suc (suc d)) (suc (suc d)) (long (with_longs.ShiftRight k))
  a_calculation : {d : ℕ} (op : PlainOperation) → Leaf (suc (suc (suc (suc d)))) (suc (suc d)) (long (with_longs.Calculate op))
  is_below : {d : ℕ} → Leaf (suc (suc (suc (suc d)))) (suc d) (long with_longs.Below)
  is_above : {d : ℕ} → Leaf (suc (suc (suc (suc d)))) (suc d) (long with_longs.Above)

zero_is_word : IsWord 0
zero_is_word = omega arith

list_of_words : (p : Places) → PlacesOfWords p → ListOfWords (list_place p)
list_of_words p words = (words.words Version, words.words ListLength, words.list)

-- what is asked of each local that an expression reads
abbrev pub ReadOf : (ℕ → Type 0) → Variable → Type 0
ReadOf F (Shared v) = Unit {0}
ReadOf F (Local n) = F n

abbrev mutual
  pub Reads : (ℕ → Type 0) → CheckedExpression → Type 0
  Reads F (t.number w) = Unit {0}
  Reads F (t.long_number w) = Unit {0}
  Reads F (t.name x) = ReadOf F x.variable
  Reads F (t.element x index) = Reads F index
  Reads F t.sense = Unit {0}
  Reads F t.next_event = Unit {0}
  Reads F (t.call f values) = ValuesRead F values
  Reads F (t.unary op e) = Reads F e
  Reads F (t.binary op a b) = Reads F a × Reads F b
  Reads F (t.shift op e count) = Reads F e
  Reads F (t.short_circuit op a b) = Reads F a × Reads F b

  pub ValuesRead : (ℕ → Type 0) → CheckedValues → Type 0
  ValuesRead F t.no_value = Unit {0}
  ValuesRead F (t.value e more) = Reads F e × ValuesRead F more

-- an expression leaves a word, or two
two_needed : (e : CheckedExpression) → 2 ≤ stack_words e
two_needed (t.number w) = omega arith
two_needed (t.long_number w) = omega arith
two_needed (t.name x) = omega arith
two_needed (t.element x index) = two_needed index
two_needed t.sense = omega arith
two_needed t.next_event = omega arith
two_needed (t.call f values) = omega arith
two_needed (t.unary op e) = omega arith
two_needed (t.binary op a b) = let few = two_needed a in omega (arith, few)
two_needed (t.shift op e count) = two_needed e
two_needed (t.short_circuit op a b) = let few = two_needed a in omega (arith, few)

pub two_fit : (room d : ℕ) (e : CheckedExpression) → stack_words e + d ≤ room → suc (suc d) ≤ room
two_fit room d e few = let two = two_needed e in omega (arith, two, few)

-- ---- a fact

-- a fact of steps and of programs, with the words on the stack before and behind, and of tests, which leave as many; what it asks of the
-- locals that are read and of calls; and that it holds of single steps and of what is put together of what has it
pub record Fact {ℓ} (p : Places) (rs : List Program) (room : ℕ) : Type (ℓ + 1) where
  pub of_step : ℕ → ℕ → Step → Type ℓ
  pub of_program : ℕ → ℕ → Program → Type ℓ
  pub of_test : ℕ → Test → Type ℓ
  pub of_local : ℕ → Type 0
  pub of_call : OfCalls
  pub leaf : (d e : ℕ) (s : Step) → Leaf d e s → StepOfWords s → e ≤ room → of_step d e s
  pub reads : (d n : ℕ) → of_local n → suc d ≤ room → of_step d (suc d) (local (local_number p n))
  pub called : (d k count : ℕ) → count ≤ 256 → of_call k count → suc d ≤ room → of_step (count + d) (suc d) (call_step p rs k (count % 65536))
  pub asked : (d : ℕ) (c : Test) → suc d ≤ room → of_test d c → of_step d (suc d) (truth c)
  pub empty : (d : ℕ) → of_program d d nothing
  pub alone : (d e : ℕ) (s : Step) → of_step d e s → of_program d e (one s)
  pub chain : (d e f : ℕ) (q r : Program) → of_program d e q → of_program e f r → of_program d f (joined q r)
  pub not_zero : (d : ℕ) (q : Program) → suc d ≤ room → of_program d (suc d) q → of_test d (holds q)
  pub compared : (d : ℕ) (c : Comparison) (q : Program) → suc (suc d) ≤ room → of_program d (suc (suc d)) q → of_test d (compares c q)
  pub both_hold : (d : ℕ) (b c : Test) → of_test d b → of_test d c → of_test d (both b c)
  pub one_holds : (d : ℕ) (b c : Test) → of_test d b → of_test d c → of_test d (either b c)
  pub turned : (d : ℕ) (c : Test) → of_test d c → of_test d (fails c)

module _ {ℓ} {p : Places} {rs : List Program} {room : ℕ} (F : Fact {ℓ} p rs room) where
  -- the fact holds of what an expression comes to, as a word, as a test and as a long
  pub record Built (d : ℕ) (l : Lowering) : Type ℓ where
    pub word : F.of_program d (suc d) (word_program l)
    pub test : F.of_test d (value_test l)
    pub long : F.of_program d (suc (suc d)) (long_words l)

  single : (d e : ℕ) (s : Step) → Leaf d e s → StepOfWords s → e ≤ room → F.of_program d e (one s)
  single d e s k numbers few = F.alone d e s (F.leaf d e s k numbers few)

  -- a step behind a program
  last : (d e f : ℕ) (q : Program) (s : Step) → F.of_program d e q → Leaf e f s → StepOfWords s → f ≤ room → F.of_program d f (joined q (one s))
  last d e f q s h k numbers few = F.chain d e f q (one s) h (single e f s k numbers few)

  -- a word becomes a long
  long_of_word : (d : ℕ) → suc (suc d) ≤ room → F.of_program (suc d) (suc (suc d)) (widening Long)
  long_of_word d two =
      last (suc d) (suc (suc d)) (suc (suc d)) (one (number 0)) (long with_longs.Join)
      (single (suc d) (suc (suc d)) (number 0) (a_number 0) zero_is_word two) a_join tt two

  widened : (d : ℕ) (of : WordType) → suc (suc d) ≤ room → F.of_program (suc d) (suc (suc d)) (widening of)
  widened d Int two = single (suc d) (suc (suc d)) (long with_longs.Widen) a_widening tt two
  widened d Unsigned two = long_of_word d two
  widened d Long two = long_of_word d two

  word_built : (d : ℕ) (q : Program) → suc (suc d) ≤ room → F.of_program d (suc d) q → Built d (as_word q)
  word_built d q two h = record {
    word = h;
    test = F.not_zero d q (omega (arith, two)) h;
    long = F.chain d (suc d) (suc (suc d)) q (widening Long) h (long_of_word d two);
  }

  test_built : (d : ℕ) (c : Test) → suc (suc d) ≤ room → F.of_test d c → Built d (as_test c)
  test_built d c two h = record { word = word; test = h; long = F.chain d (suc d) (suc (suc d)) (one (truth c)) (widening Long) word (long_of_word d two) }
    where
      word : F.of_program d (suc d) (one (truth c))
      word = let few : suc d ≤ room = omega (arith, two) in F.alone d (suc d) (truth c) (F.asked d c few h)

  -- two words become one
  combined : (d : ℕ) (q : Program) (op : BinaryOperation) → suc (suc d) ≤ room → F.of_program d (suc (suc d)) q
      → F.of_program d (suc d) (joined q (one (binary op)))
  combined d q op two h = last d (suc (suc d)) (suc d) q (binary op) h (a_binary op) tt (omega (arith, two))

  bits_built : (d : ℕ) (q : Program) → suc (suc d) ≤ room → F.of_program d (suc (suc d)) q → Built d (as_bits q)
  bits_built d q two h = record {
    word = combined d q (Plain And) two h;
    test = F.compared d CommonBit q two h;
    long =
        F.chain d (suc d) (suc (suc d)) (joined q (one (binary (Plain And)))) (widening Long) (combined d q (Plain And) two h) (long_of_word d two);
  }

  long_built : (d : ℕ) (q : Program) → suc (suc d) ≤ room → F.of_program d (suc (suc d)) q → Built d (as_long q)
  long_built d q two h = record {
    word = last d (suc (suc d)) (suc d) q (long with_longs.LowWord) h a_low_word tt (omega (arith, two));
    test = F.not_zero d (joined q (one (binary (Plain Or)))) (omega (arith, two)) (combined d q (Plain Or) two h);
    long = h;
  }

  -- a long by the type of what it is made of
  pub long_has : (d : ℕ) (of : WordType) (l : Lowering) → suc (suc d) ≤ room → Built d l → F.of_program d (suc (suc d)) (long_program of l)
  long_has d Int l two h = F.chain d (suc d) (suc (suc d)) (word_program l) (widening Int) h.word (widened d Int two)
  long_has d Unsigned l two h = F.chain d (suc d) (suc (suc d)) (word_program l) (widening Unsigned) h.word (widened d Unsigned two)
  long_has d Long l two h = h.long

  -- ---- operators in front

  unary_has : (d : ℕ) (op : UnaryOperator) (l : Lowering) → suc (suc d) ≤ room → Built d l → Built d (unary_lowering op l)
  unary_has d unary_operator.Negate l two h =
      word_built d _ two (last d (suc d) (suc d) (word_program l) (unary Negate) h.word (a_unary Negate) tt (omega (arith, two)))
  unary_has d unary_operator.Complement l two h =
      word_built d _ two (last d (suc d) (suc d) (word_program l) (unary Complement) h.word (a_unary Complement) tt (omega (arith, two)))
  unary_has d unary_operator.Not l two h = test_built d _ two (F.turned d (value_test l) h.test)

  -- two longs become one
  calculated : (d : ℕ) (q : Program) (op : PlainOperation) → suc (suc d) ≤ room → F.of_program d (suc (suc (suc (suc d)))) q
      → F.of_program d (suc (suc d)) (joined q (one (long (with_longs.Calculate op))))
  calculated d q op two h = last d (suc (suc (suc (suc d)))) (suc (suc d)) q (long (with_longs.Calculate op)) h (a_calculation op) tt two

  zero_has : (d : ℕ) → suc (suc d) ≤ room → F.of_program d (suc (suc d)) long_zero
  zero_has d two =
      last d (suc d) (suc (suc d)) (one (number 0)) (number 0) (single d (suc d) (number 0) (a_number 0) zero_is_word (omega (arith, two)))
      (a_number 0) zero_is_word two

  -- a long that waits has 0 beneath it
  operand_has : (d : ℕ) (of : WordType) (op : UnaryOperator) (l : Lowering) → suc (suc d) ≤ room → Built d l → Built (suc (suc d)) l
      → Built d (operand_lowering of op l)
  operand_has d Int op l two h above = unary_has d op l two h
  operand_has d Unsigned op l two h above = unary_has d op l two h
  operand_has d Long unary_operator.Negate l two h above =
      long_built d _ two
      (calculated d (joined long_zero (long_words l)) Subtract two
      (F.chain d (suc (suc d)) (suc (suc (suc (suc d)))) long_zero (long_words l) (zero_has d two) above.long))
  operand_has d Long unary_operator.Complement l two h above =
      long_built d _ two (last d (suc (suc d)) (suc (suc d)) (long_words l) (long with_longs.Complement) h.long a_complement tt two)
  operand_has d Long unary_operator.Not l two h above = test_built d _ two (F.turned d (value_test l) h.test)

  -- ---- operators between two sides

  binary_has : (d : ℕ) (meaning : BinaryMeaning) (q : Program) → suc (suc d) ≤ room → F.of_program d (suc (suc d)) q
      → Built d (binary_lowering meaning q)
  binary_has d (Calculates op) q two h = word_built d _ two (combined d q op two h)
  binary_has d CommonBits q two h = bits_built d q two h
  binary_has d (Holds c) q two h = test_built d _ two (F.compared d c q two h)
  binary_has d (Fails c) q two h = test_built d _ two (F.turned d (compares c q) (F.compared d c q two h))

  answer_has : (d : ℕ) (asks : LongQuestion) (q : Program) → suc (suc d) ≤ room → F.of_program d (suc (suc (suc (suc d)))) q
      → F.of_program d (suc d) (answer asks q)
  answer_has d question.Below q two h = last d (suc (suc (suc (suc d)))) (suc d) q (long with_longs.Below) h is_below tt (omega (arith, two))
  answer_has d question.Above q two h = last d (suc (suc (suc (suc d)))) (suc d) q (long with_longs.Above) h is_above tt (omega (arith, two))
  answer_has d question.Differ q two h = combined d (joined q (one (long (with_longs.Calculate Xor)))) (Plain Or) two (calculated d q Xor two h)

  answered : (d : ℕ) (asks : LongQuestion) (q : Program) → suc (suc d) ≤ room → F.of_program d (suc (suc (suc (suc d)))) q
      → F.of_test d (holds (answer asks q))
  answered d asks q two h = F.not_zero d (answer asks q) (omega (arith, two)) (answer_has d asks q two h)

  long_binary_has : (d : ℕ) (meaning : LongMeaning) (q : Program) → suc (suc d) ≤ room → F.of_program d (suc (suc (suc (suc d)))) q
      → Built d (long_binary_lowering meaning q)
  long_binary_has d (of_longs.Calculates op) q two h = long_built d _ two (calculated d q op two h)
  long_binary_has d (of_longs.Holds asks) q two h = test_built d _ two (answered d asks q two h)
  long_binary_has d (of_longs.Fails asks) q two h = test_built d _ two (F.turned d (holds (answer asks q)) (answered d asks q two h))

  word_sides_have : (d : ℕ) (of : WordType) (op : BinaryOperator) (left right : Lowering) → suc (suc d) ≤ room → Built d left → Built (suc d) right
      → Built d (binary_lowering (binary_meaning op of) (joined (word_program left) (word_program right)))
  word_sides_have d of op left right two h k =
      binary_has d (binary_meaning op of) _ two (F.chain d (suc d) (suc (suc d)) (word_program left) (word_program right) h.word k.word)

  -- the right side has one word beneath it where both are words, and two where they are longs
  sides_have : (d : ℕ) (of : WordType) (op : BinaryOperator) (s t : WordType) (left right : Lowering) → suc (suc (suc (suc d))) ≤ room
      → Built d left → Built (suc d) right → Built (suc (suc d)) right → Built d (sides_lowering of op s t left right)
  sides_have d Int op s t left right four h k above = word_sides_have d Int op left right (omega (arith, four)) h k
  sides_have d Unsigned op s t left right four h k above = word_sides_have d Unsigned op left right (omega (arith, four)) h k
  sides_have d Long op s t left right four h k above =
      let two : suc (suc d) ≤ room = omega (arith, four) in
      long_binary_has d (long_meaning op) _ two
      (F.chain d (suc (suc d)) (suc (suc (suc (suc d)))) (long_program s left) (long_program t right) (long_has d s left two h)
      (long_has (suc (suc d)) t right four above))

  shift_has : (d : ℕ) (of : WordType) (op : ShiftOperator) (l : Lowering) (k : ℕ) → IsWord k → suc (suc d) ≤ room → Built d l
      → Built d (shift_lowering of op l k)
  shift_has d Int op l k is two h =
      word_built d _ two (last d (suc d) (suc d) (word_program l) (shift (shift_operation op Int) k) h.word (a_shift _ k) is (omega (arith, two)))
  shift_has d Unsigned op l k is two h =
      word_built d _ two (last d (suc d) (suc d) (word_program l) (shift (shift_operation op Unsigned) k) h.word (a_shift _ k) is (omega (arith, two)))
  shift_has d Long op l k is two h =
      long_built d _ two (by_operator op)
    where
      by_operator : (op : ShiftOperator) → F.of_program d (suc (suc d)) (joined (long_words l) (one (long (long_shift op k))))
      by_operator shift_operator.Left =
          last d (suc (suc d)) (suc (suc d)) (long_words l) (long (with_longs.ShiftLeft k)) h.long (a_left_shift k) is two
      by_operator shift_operator.Right =
          last d (suc (suc d)) (suc (suc d)) (long_words l) (long (with_longs.ShiftRight k)) h.long (a_right_shift k) is two

  both_have : (d : ℕ) (op : ShortCircuitOperator) (b c : Test) → F.of_test d b → F.of_test d c → F.of_test d (sides_test op b c)
  both_have d BothHold b c h k = F.both_hold d b c h k
  both_have d OneHolds b c h k = F.one_holds d b c h k

  -- ---- expressions

  module _ (words : PlacesOfWords p) (shared : List SharedDeclaration) where
    read_has : (d : ℕ) (x : Variable) → suc d ≤ room → ReadOf F.of_local x → F.of_program d (suc d) (one (read_step p x))
    read_has d (Shared v) few r = single d (suc d) (load (address_of p v)) (a_load (address_of p v)) (words.addresses v) few
    read_has d (Local n) few r = F.alone d (suc d) (local (local_number p n)) (F.reads d n r few)

    read_long_has : (d : ℕ) (x : Variable) → suc (suc d) ≤ room → ReadOf F.of_local x → F.of_program d (suc (suc d)) (read_long p x)
    read_long_has d (Shared v) two r =
        let high = load (high_address (address_of p v)) in
        let few : suc d ≤ room = omega (arith, two) in
        F.chain d (suc d) (suc (suc d)) (one (load (address_of p v))) (step high (one (long with_longs.Join))) (read_has d (Shared v) few r)
        (last (suc d) (suc (suc d)) (suc (suc d)) (one high) (long with_longs.Join)
        (single (suc d) (suc (suc d)) high (a_load (high_address (address_of p v))) (omega arith) two) a_join tt two)
    read_long_has d (Local n) two r =
        let few : suc d ≤ room = omega (arith, two) in
        F.chain d (suc d) (suc (suc d)) (one (local (local_number p n))) (widening Long) (read_has d (Local n) few r) (long_of_word d two)

    name_has : (d : ℕ) (of : WordType) (x : Variable) → suc (suc d) ≤ room → ReadOf F.of_local x → Built d (name_lowering p of x)
    name_has d Long x two r = long_built d _ two (read_long_has d x two r)
    name_has d Int x two r = let few : suc d ≤ room = omega (arith, two) in word_built d _ two (read_has d x few r)
    name_has d Unsigned x two r = let few : suc d ≤ room = omega (arith, two) in word_built d _ two (read_has d x few r)

    element_has : (d : ℕ) (x : Variable) → suc d ≤ room → F.of_program (suc d) (suc d) (one (element_step p x))
    element_has d (Local n) few = single (suc d) (suc d) (element 0 0) (an_element 0 0) (zero_is_word, zero_is_word) few
    element_has d (Shared v) few = by_place (slice_get p.map.variables v) (words.places v)
      where
        own_read_has : (logging : Logging) (a : ArrayPlace) → ArrayOfWords a → F.of_program (suc d) (suc d) (one (own_read logging a (list_place p)))
        own_read_has Redo a h = single (suc d) (suc d) (versioned_read a (list_place p)) (a_version a (list_place p)) (h, list_of_words p words) few
        own_read_has Undo a h = single (suc d) (suc d) (element a.elements a.length) (an_element a.elements a.length) (h.0, h.3) few

        by_place : (o : Option VariablePlace) → PlaceOfWords o → F.of_program (suc d) (suc d) (one (element_read p o))
        by_place None h = single (suc d) (suc d) (element 0 0) (an_element 0 0) (zero_is_word, zero_is_word) few
        by_place (Some (Scalar home copy width)) h = single (suc d) (suc d) (element 0 0) (an_element 0 0) (zero_is_word, zero_is_word) few
        by_place (Some (Array elements length None)) h =
            single (suc d) (suc d) (element elements length) (an_element elements length) (h.0, h.1) few
        by_place (Some (Array elements length (Some c))) h = own_read_has p.map.runtime.logging (array_place elements length c) (h.0, h.2.0, h.2.1, h.1)

    mutual
      -- the fact holds of each well-formed expression that has room, on the locals that it reads and on its calls
      pub lowering_has : (d : ℕ) (e : CheckedExpression) → WellFormedExpression shared e → stack_words e + d ≤ room → Reads F.of_local e
          → ExpressionEachCall F.of_call e → Built d (lowering p rs e)
      lowering_has d (t.number w) is few r c =
          let two = two_fit room d (t.number w) few in word_built d _ two (single d (suc d) (number w) (a_number w) is (omega (arith, two)))
      lowering_has d (t.long_number w) is few r c =
          let two = two_fit room d (t.long_number w) few in
          let high : IsWord (w / 65536) = omega (arith, is) in
          long_built d _ two
          (last d (suc d) (suc (suc d)) (one (number (w % 65536))) (number (w / 65536))
          (single d (suc d) (number (w % 65536)) (a_number (w % 65536)) (omega arith) (omega (arith, two))) (a_number (w / 65536)) high two)
      lowering_has d (t.name x) is few r c = name_has d x.word_type x.variable (two_fit room d (t.name x) few) r
      lowering_has d (t.element x index) is few r c =
          let two = two_fit room d index few in
          word_built d _ two
          (F.chain d (suc d) (suc d) (lowered_expression p rs index) (one (element_step p x.variable)) (lowering_has d index is.1 few r c).word
          (element_has d x.variable (omega (arith, two))))
      lowering_has d t.next_event is few r c =
          let two = two_fit room d t.next_event few in word_built d _ two (single d (suc d) next_event an_event tt (omega (arith, two)))
      lowering_has d t.sense is few r c =
          let two = two_fit room d t.sense few in word_built d _ two (single d (suc d) sense a_reading tt (omega (arith, two)))
      lowering_has d (t.call f values) is few r c =
          let two = two_fit room d (t.call f values) few in
          let calls = call_step p rs f.function (call_count values) in
          word_built d _ two
          (F.chain d (values_in values + d) (suc d) (arguments p rs values) (one calls) (arguments_have d values is.1 (omega (arith, few)) r c.1)
          (F.alone (values_in values + d) (suc d) calls (F.called d f.function (values_in values) is.2 c.0 (omega (arith, two)))))
      lowering_has d (t.unary op e) is few r c =
          let own : stack_words e + d ≤ room = omega (arith, few) in
          operand_has d (type_of e) op (lowering p rs e) (two_fit room d e own) (lowering_has d e is own r c)
          (lowering_has (suc (suc d)) e is (omega (arith, few)) r c)
      lowering_has d (t.binary op a b) is few r c =
          let right : stack_words b + suc (suc d) ≤ room = omega (arith, few) in
          sides_have d (operand_type op.operator (joined_type (type_of a) (type_of b))) op.operator (widened_type a) (widened_type b)
          (lowering p rs a) (lowering p rs b) (two_fit room (suc (suc d)) b right)
          (lowering_has d a is.0 (omega (arith, few)) r.0 c.0) (lowering_has (suc d) b is.1 (omega (arith, right)) r.1 c.1)
          (lowering_has (suc (suc d)) b is.1 right r.1 c.1)
      lowering_has d (t.shift op e count) is few r c =
          shift_has d (type_of e) op (lowering p rs e) count.value is.1 (two_fit room d e few) (lowering_has d e is.0 few r c)
      lowering_has d (t.short_circuit op a b) is few r c =
          let left : stack_words a + d ≤ room = omega (arith, few) in
          test_built d _ (two_fit room d a left)
          (both_have d op (lowered_test p rs a) (lowered_test p rs b) (lowering_has d a is.0 left r.0 c.0).test
          (lowering_has d b is.1 (omega (arith, few)) r.1 c.1).test)

      -- a call's values wait one above the other
      arguments_have : (d : ℕ) (values : CheckedValues) → WellFormedValues shared values → value_words values + d ≤ room
          → ValuesRead F.of_local values → ValuesEachCall F.of_call values → F.of_program d (values_in values + d) (arguments p rs values)
      arguments_have d t.no_value is few r c =
          let same : d ≡ 0 + d = omega arith in subst (λ n. F.of_program d n nothing) same (F.empty d)
      arguments_have d (t.value e more) is few r c =
          let same : values_in more + suc d ≡ suc (values_in more) + d = omega arith in
          subst (λ n. F.of_program d n (arguments p rs (t.value e more))) same
          (F.chain d (suc d) (values_in more + suc d) (lowered_expression p rs e) (arguments p rs more)
          (lowering_has d e is.0 (omega (arith, few)) r.0 c.0).word (arguments_have (suc d) more is.1 (omega (arith, few)) r.1 c.1))

-- ---- a fact of each step alone

-- a step of a statement that names no local, and holds neither a test nor a program, in a task with these places
pub data Stores (p : Places) : Step → Type 0 where
  a_store : (v : ℕ) → Stores p (keep (address_of p v))
  a_high_store : (v : ℕ) → Stores p (keep (high_address (address_of p v)))
  an_update : (op : PlainOperation) (v : ℕ) → Stores p (update op (address_of p v))
  an_element_store : (x : Variable) → Stores p (versioned_write (stored_array p x) (list_place p))
  an_element_update : (op : PlainOperation) (x : Variable) → Stores p (versioned_update op (stored_array p x) (list_place p))
  a_logged_store : (x : Variable) → Stores p (logged_write (logged_place (stored_array p x)) (list_place p))
  a_logged_update : (op : PlainOperation) (x : Variable) → Stores p (logged_update op (logged_place (stored_array p x)) (list_place p))
  an_emission : Stores p (emit_word (word_place p.map EmitCount) p.map.emits.address)
  an_entry : (r : Run) → Stores p (list_entry (word_place p.map ListLength) p.map.list.address r.home r.copy r.words)
  the_task : (task : ℕ) → Stores p (store_number (word_place p.map NextTask) (task % 65536))
  the_sent_base : Stores p (move_word (word_place p.map Base) (word_place p.map SentBase))
  the_sent_tail : Stores p freeze_events
  the_gate : Stores p (store_number (word_place p.map Gate) 1)

-- a variable that is none of these locals
abbrev pub IsApart : (ℕ → Type 0) → Variable → Type 0
IsApart F x = (y : ℕ) → F y → is_same_local x (Local y) ≡ false

-- a fact of each step whatever the stack: the locals of which it wants that no step assigns them, what it asks of a loop's body beside
-- itself, by the loop's local, and that it holds of single steps and of what is put together of what has it
pub record EachStep (p : Places) (rs : List Program) (g : Setting) : Type 1 where
  pub of_step : Step → Type 0
  pub of_program : Program → Type 0
  pub of_test : Test → Type 0
  pub spared : ℕ → Type 0
  pub of_body : ℕ → Program → Type 0
  pub leaf : (d e : ℕ) (s : Step) → Leaf d e s → StepOfWords s → of_step s
  pub stores : (s : Step) → Stores p s → StepOfWords s → of_step s
  pub jumps : g.in_task ≡ true → IsWord p.map.commit.address → of_step (jump p.map.commit.address)
  pub gives : g.in_task ≡ false → of_step give
  pub called : (k count : ℕ) → count ≤ 256 → g.calls k count → of_step (call_step p rs k (count % 65536))
  pub reads : (n : ℕ) → n < 256 → n < g.own → of_step (local (local_number p n))
  pub writes : (n : ℕ) → n < 256 → n < g.own → IsApart spared (Local n) → of_step (set_local (local_number p n))
  pub updates : (op : PlainOperation) (n : ℕ) → n < 256 → n < g.own → IsApart spared (Local n) → of_step (update_local op (local_number p n))
  pub asked : (c : Test) → of_test c → of_step (truth c)
  pub chosen : (c : Test) (a b : Program) → of_test c → of_program a → of_program b → of_step (choose c a b)
  pub counted : (n from below : ℕ) (body : Program) → n < 256 → n < g.own → IsApart spared (Local n) → IsWord from → IsWord below
      → of_body (local_number p n) body → of_program body → of_step (repeat (local_number p n) from below body)
  pub empty : of_program nothing
  pub alone : (s : Step) → of_step s → of_program (one s)
  pub chain : (q r : Program) → of_program q → of_program r → of_program (joined q r)
  pub not_zero : (q : Program) → of_program q → of_test (holds q)
  pub compared : (c : Comparison) (q : Program) → of_program q → of_test (compares c q)
  pub both_hold : (b c : Test) → of_test b → of_test c → of_test (both b c)
  pub one_holds : (b c : Test) → of_test b → of_test c → of_test (either b c)
  pub turned : (c : Test) → of_test c → of_test (fails c)

-- a local of a body: at most 256, and one of its own
abbrev pub IsOf : Setting → ℕ → Type 0
IsOf g n = n < 256 × n < g.own

-- such a fact of expressions
abbrev whatever_the_stack : {p : Places} {rs : List Program} (g : Setting) → EachStep p rs g → Fact {0} p rs g.room
whatever_the_stack g G = record {
  of_step = λ d e s. G.of_step s;
  of_program = λ d e q. G.of_program q;
  of_test = λ d c. G.of_test c;
  of_local = IsOf g;
  of_call = g.calls;
  leaf = λ d e s k numbers few. G.leaf d e s k numbers;
  reads = λ d n own few. G.reads n own.0 own.1;
  called = λ d k count few h room. G.called k count few h;
  asked = λ d c few h. G.asked c h;
  empty = λ d. G.empty;
  alone = λ d e s h. G.alone s h;
  chain = λ d e f q r h k. G.chain q r h k;
  not_zero = λ d q few h. G.not_zero q h;
  compared = λ d c q two h. G.compared c q h;
  both_hold = λ d b c h k. G.both_hold b c h k;
  one_holds = λ d b c h k. G.one_holds b c h k;
  turned = λ d c h. G.turned c h;
}

module _ (g : Setting) where
  -- a local that stands for a word
  read_own : (v : Variable) → IsWordName g.shared v → IsBelow g.own v → ReadOf (IsOf g) v
  read_own (Shared v) h k = tt
  read_own (Local n) h k = (h, k)

  mutual
    -- the locals of an expression are of the body
    reads_own : (e : CheckedExpression) → WellFormedExpression g.shared e → ExpressionNames g.own e → Reads (IsOf g) e
    reads_own (t.number w) is names = tt
    reads_own (t.long_number w) is names = tt
    reads_own (t.name x) is names = read_own x.variable is.0 names
    reads_own (t.element x index) is names = reads_own index is.1 names
    reads_own t.sense is names = tt
    reads_own t.next_event is names = tt
    reads_own (t.call f values) is names = values_own values is.1 names
    reads_own (t.unary op e) is names = reads_own e is names
    reads_own (t.binary op a b) is names = (reads_own a is.0 names.0, reads_own b is.1 names.1)
    reads_own (t.shift op e count) is names = reads_own e is.0 names
    reads_own (t.short_circuit op a b) is names = (reads_own a is.0 names.0, reads_own b is.1 names.1)

    values_own : (values : CheckedValues) → WellFormedValues g.shared values → ValuesName g.own values → ValuesRead (IsOf g) values
    values_own t.no_value is names = tt
    values_own (t.value e more) is names = (reads_own e is.0 names.0, values_own more is.1 names.1)

-- a local may stand for a word
local_word : (shared : List SharedDeclaration) (x : Variable) → IsLocal x → IsWordName shared x
local_word shared (Shared v) h = absurd h
local_word shared (Local n) h = h

-- a well-formed expression with room above so many words
abbrev pub FitsAbove : List SharedDeclaration → (room d : ℕ) → CheckedExpression → Type 0
FitsAbove shared room d e = WellFormedExpression shared e × IsRoomFor room d e

-- so is the right side of an operator, without the left one
pub right_fits : (shared : List SharedDeclaration) (room d : ℕ) (op : PlacedOperator) (b c : CheckedExpression)
    → FitsAbove shared room d (t.binary op b c) → FitsAbove shared room d c
right_fits shared room d op b c fits = let few = fits.1 in (fits.0.1, omega (arith, few))

module _ (p : Places) (rs : List Program) (g : Setting) (G : EachStep p rs g) (words : PlacesOfWords p) where
  -- a step behind a program
  then_step : (q : Program) (s : Step) → G.of_program q → G.of_step s → G.of_program (joined q (one s))
  then_step q s h k = G.chain q (one s) h (G.alone s k)

  expression_built : (d : ℕ) (e : CheckedExpression) → IsFitExpression g d e → Built (whatever_the_stack g G) d (lowering p rs e)
  expression_built d e is =
      lowering_has (whatever_the_stack g G) words g.shared d e is.formed is.fits (reads_own g e is.formed is.names) is.calls

  word_has : (d : ℕ) (e : CheckedExpression) → IsFitExpression g d e → G.of_program (lowered_expression p rs e)
  word_has d e is = (expression_built d e is).word

  stored_of_words : (x : Variable) → ArrayOfWords (stored_array p x)
  stored_of_words (Local n) = (zero_is_word, zero_is_word, zero_is_word, zero_is_word)
  stored_of_words (Shared v) = by_place (slice_get p.map.variables v) (words.places v)
    where
      by_place : (o : Option VariablePlace) → PlaceOfWords o → ArrayOfWords (written_array o)
      by_place None h = (zero_is_word, zero_is_word, zero_is_word, zero_is_word)
      by_place (Some (Scalar home copy width)) h = (zero_is_word, zero_is_word, zero_is_word, zero_is_word)
      by_place (Some (Array elements length None)) h = (zero_is_word, zero_is_word, zero_is_word, zero_is_word)
      by_place (Some (Array elements length (Some c))) h = (h.0, h.2.0, h.2.1, h.1)

  -- ---- assignments

  -- a variable that is assigned: a shared scalar, or a local of the body that is none of those to spare
  record IsTarget (x : Variable) : Type 0 where
    word : IsWordName g.shared x
    own : IsBelow g.own x
    apart : IsApart G.spared x

  write_has : (x : Variable) → IsTarget x → G.of_step (write_step p x)
  write_has (Shared v) h = G.stores (keep (address_of p v)) (a_store v) (words.addresses v)
  write_has (Local n) h = G.writes n h.word h.own h.apart

  update_has : (o : PlainOperation) (x : Variable) → IsTarget x → G.of_step (update_step p o x)
  update_has o (Shared v) h = G.stores (update o (address_of p v)) (an_update o v) (words.addresses v)
  update_has o (Local n) h = G.updates o n h.word h.own h.apart

  write_long_has : (x : Variable) → IsTarget x → G.of_program (write_long p x)
  write_long_has (Shared v) h =
      let high = keep (high_address (address_of p v)) in
      then_step (one high) (keep (address_of p v)) (G.alone high (G.stores high (a_high_store v) (omega arith))) (write_has (Shared v) h)
  write_long_has (Local n) h =
      let low = long with_longs.LowWord in
      then_step (one low) (set_local (local_number p n)) (G.alone low (G.leaf 2 1 low a_low_word tt)) (G.writes n h.word h.own h.apart)

  setting_has : (x : Variable) (e : CheckedExpression) → IsTarget x → IsFitExpression g 0 e → G.of_program (setting p rs x e)
  setting_has x e h is = then_step (lowered_expression p rs e) (write_step p x) (word_has 0 e is) (write_has x h)

  sides_set_has : (x : Variable) (op : PlacedOperator) (b c : CheckedExpression) (o : Option PlainOperation) → IsTarget x
      → IsFitExpression g 0 (t.binary op b c) → G.of_program (sides_set p rs x op b c o)
  sides_set_has x op b c None h is = setting_has x (t.binary op b c) h is
  sides_set_has x op b c (Some o) h is =
      then_step (lowered_expression p rs c) (update_step p o x) (word_has 0 c (right_fit g 0 op b c is)) (update_has o x h)

  shift_set_has : (x : Variable) (op : ShiftOperator) (e : CheckedExpression) (count : Literal) (o : Option PlainOperation) → IsTarget x
      → IsFitExpression g 0 (t.shift op e count) → G.of_program (shift_set p rs x op e count o)
  shift_set_has x op e count None h is = setting_has x (t.shift op e count) h is
  shift_set_has x op e count (Some o) h is =
      then_step (lowered_expression p rs e) (update_step p o x) (word_has 0 e (shifted_fit g 0 op e count is)) (update_has o x h)

  -- the first clause makes it a proof by cases
  assignment_has : (x : Variable) (e : CheckedExpression) → IsTarget x → IsFitExpression g 0 e → G.of_program (assignment p rs x e)
  assignment_has x (t.binary op b c) h is = sides_set_has x op b c (of_words (joined_type (type_of b) (type_of c)) (updating x op.operator b c)) h is
  assignment_has x (t.shift op e count) h is = shift_set_has x op e count (of_words (type_of e) (doubling x op e count.value)) h is
  assignment_has x e h is = setting_has x e h is

  typed_assignment_has : (of : WordType) (x : Variable) (e : CheckedExpression) → IsTarget x → IsFitExpression g 0 e
      → G.of_program (scalar_assignment p rs of x e)
  typed_assignment_has Int x e h is = assignment_has x e h is
  typed_assignment_has Unsigned x e h is = assignment_has x e h is
  typed_assignment_has Long x e h is =
      let long = long_has (whatever_the_stack g G) 0 (widened_type e) (lowering p rs e) (two_fit g.room 0 e is.fits) (expression_built 0 e is) in
      G.chain (lowered_long p rs e) (write_long p x) long (write_long_has x h)

  -- a step behind an index and a value
  index_and_value_have : (index e : CheckedExpression) (s : Step) → G.of_program (lowered_expression p rs index)
      → G.of_program (lowered_expression p rs e) → G.of_step s → G.of_program (joined (index_and_value p rs index e) (one s))
  index_and_value_have index e s h k l =
      then_step (index_and_value p rs index e) s (G.chain (lowered_expression p rs index) (lowered_expression p rs e) h k) l

  -- stores to an element, by the runtime
  own_write_has : (logging : Logging) (x : Variable) → G.of_step (own_write logging (stored_array p x) (list_place p))
  own_write_has Redo x =
      G.stores (versioned_write (stored_array p x) (list_place p)) (an_element_store x) (stored_of_words x, list_of_words p words)
  own_write_has Undo x =
      let h = stored_of_words x in
      G.stores (logged_write (logged_place (stored_array p x)) (list_place p)) (a_logged_store x) ((h.0, h.2, h.3), list_of_words p words)

  own_update_has : (logging : Logging) (o : PlainOperation) (x : Variable) → G.of_step (own_update logging o (stored_array p x) (list_place p))
  own_update_has Redo o x =
      G.stores (versioned_update o (stored_array p x) (list_place p)) (an_element_update o x) (stored_of_words x, list_of_words p words)
  own_update_has Undo o x =
      let h = stored_of_words x in
      G.stores (logged_update o (logged_place (stored_array p x)) (list_place p)) (a_logged_update o x) ((h.0, h.2, h.3), list_of_words p words)

  store_has : (x : Variable) (index e : CheckedExpression) → IsFitExpression g 0 index → IsFitExpression g 1 e
      → G.of_program (joined (index_and_value p rs index e) (one (store_step p x)))
  store_has x index e h k =
      index_and_value_have index e (store_step p x) (word_has 0 index h) (word_has 1 e k) (own_write_has p.map.runtime.logging x)

  element_sides_have : (x : Variable) (index : CheckedExpression) (op : PlacedOperator) (b c : CheckedExpression) (o : Option PlainOperation)
      → IsFitExpression g 0 index → IsFitExpression g 1 (t.binary op b c) → G.of_program (element_sides_set p rs x index op b c o)
  element_sides_have x index op b c None h is = store_has x index (t.binary op b c) h is
  element_sides_have x index op b c (Some o) h is =
      index_and_value_have index c (update_element_step p o x) (word_has 0 index h) (word_has 1 c (right_fit g 1 op b c is))
      (own_update_has p.map.runtime.logging o x)

  -- the first clause makes it a proof by cases
  element_assignment_has : (x : Variable) (index e : CheckedExpression) → IsFitExpression g 0 index → IsFitExpression g 1 e
      → G.of_program (element_assignment p rs x index e)
  element_assignment_has x index (t.binary op b c) h is =
      element_sides_have x index op b c (of_words (joined_type (type_of b) (type_of c)) (element_updating x index op.operator b c)) h is
  element_assignment_has x index e h is = store_has x index e h is

  -- ---- statements

  entries_have : (runs : List Run) → AllByRecursion RunOfWords runs → G.of_program (entries (word_place p.map ListLength) p.map.list.address runs)
  entries_have [] h = G.empty
  entries_have (r ∷ more) h =
      let entry = list_entry (word_place p.map ListLength) p.map.list.address r.home r.copy r.words in
      G.chain (one entry) (entries (word_place p.map ListLength) p.map.list.address more)
      (G.alone entry (G.stores entry (an_entry r) (words.words ListLength, words.list, h.0.home, h.0.copy, h.0.words))) (entries_have more h.1)

  frozen_has : (events : Bool) → G.of_program (if events then one freeze_events else nothing)
  frozen_has true = G.alone freeze_events (G.stores freeze_events the_sent_tail tt)
  frozen_has false = G.empty

  transition_has : (task : ℕ) → g.in_task ≡ true → G.of_program (lowered_transition p task)
  transition_has task ends =
      let next = store_number (word_place p.map NextTask) (task % 65536) in
      let sent = move_word (word_place p.map Base) (word_place p.map SentBase) in
      let gate = store_number (word_place p.map Gate) 1 in
      let leaves = jump p.map.commit.address in
      let runs = entries (word_place p.map ListLength) p.map.list.address (runs_of p.privates) in
      let last = step gate (one leaves) in
      let closes = step sent (joined (freezing p) last) in
      G.chain (one next) (joined runs closes) (G.alone next (G.stores next (the_task task) (words.words NextTask, omega arith)))
      (G.chain runs closes (entries_have (runs_of p.privates) (runs_of_words p.privates words.privates))
      (G.chain (one sent) (joined (freezing p) last) (G.alone sent (G.stores sent the_sent_base (words.words Base, words.words SentBase)))
      (G.chain (freezing p) last (frozen_has p.map.runtime.events)
      (then_step (one gate) leaves (G.alone gate (G.stores gate the_gate (words.words Gate, omega arith))) (G.jumps ends words.commit)))))

  -- no local that the fact wants spared is assigned
  abbrev LeavesAlone : (Variable → Bool) → Type 0
  LeavesAlone assigns = (y : ℕ) → G.spared y → assigns (Local y) ≡ false

  first_leaves : (f g : Variable → Bool) → LeavesAlone (λ v. f v || g v) → LeavesAlone f
  first_leaves f g h y s = (or_parts (f (Local y)) (g (Local y)) (h y s)).0

  second_leaves : (f g : Variable → Bool) → LeavesAlone (λ v. f v || g v) → LeavesAlone g
  second_leaves f g h y s = (or_parts (f (Local y)) (g (Local y)) (h y s)).1

  -- what the fact asks of the bodies of loops beside itself holds of each that doesn't assign the loop's local
  module _ (body_has : (n : ℕ) (b : CheckedBlock) → n < 256 → block_assigns (Local n) b ≡ false → IsFitBlock g b
      → G.of_body (local_number p n) (lowered_block p rs b)) where
    -- a loop by its local
    loop_has : (v : Variable) (from below : ℕ) (b : CheckedBlock) → IsLocal v → IsBelow g.own v → IsApart G.spared v → IsWord from → IsWord below
        → block_assigns v b ≡ false → IsFitBlock g b → G.of_program (lowered_block p rs b)
        → G.of_step (repeat (loop_local p v) from below (lowered_block p rs b))
    loop_has (Shared v) from below b low own a i j s is h = absurd low
    loop_has (Local n) from below b low own a i j s is h = G.counted n from below (lowered_block p rs b) low own a i j (body_has n b low s is) h

    mutual
      statement_has : (s : CheckedStatement) → LeavesAlone (λ v. statement_assigns v s) → IsFitStatement g s → G.of_program (lowered_statement p rs s)
      statement_has (t.declare of x None) a is = G.empty
      statement_has (t.declare of x (Some e)) a is =
          assignment_has x.variable e (record { word = local_word g.shared x.variable is.formed.0; own = is.names.0; apart = a })
          (record { formed = is.formed.1; fits = is.fits; names = is.names.1; calls = is.calls })
      statement_has (t.assign x e) a is =
          typed_assignment_has x.word_type x.variable e (record { word = is.formed.0; own = is.names.0; apart = a })
          (record { formed = is.formed.1; fits = is.fits; names = is.names.1; calls = is.calls })
      statement_has (t.store x index e) a is =
          element_assignment_has x.variable index e (record { formed = is.formed.1; fits = is.fits.0; names = is.names.0; calls = is.calls.0 })
          (record { formed = is.formed.2; fits = is.fits.1; names = is.names.1; calls = is.calls.1 })
      statement_has (t.choose choice) a is = choice_has choice a (choice_fit g choice is)
      statement_has (t.loop x from y below z body) a is =
          let others : Variable → Bool = λ v. is_same_local y.variable v || is_same_local z.variable v in
          let names : Variable → Bool = λ v. is_same_local x.variable v || others v in
          let own = first_leaves (λ v. is_same_local x.variable v) others (first_leaves names (λ v. block_assigns v body) a) in
          let inner : IsFitBlock g body =
          record { formed = is.formed.1; fits = is.fits; below = is.below; names = is.names.1; calls = is.calls; ends = is.ends } in
          let h = block_has body (second_leaves names (λ v. block_assigns v body) a) inner in
          G.alone (repeat (loop_local p x.variable) from below (lowered_block p rs body))
          (loop_has x.variable from below body is.formed.0 is.names.0 own is.formed.2 is.formed.3 is.formed.4 inner h)
      statement_has (t.emit e) a is =
          let emits = emit_word (word_place p.map EmitCount) p.map.emits.address in
          then_step (lowered_expression p rs e) emits (word_has 0 e (record { formed = is.formed.0; fits = is.fits; names = is.names; calls = is.calls }))
          (G.stores emits an_emission (words.words EmitCount, words.emits))
      statement_has (t.give at e) a is =
          then_step (lowered_expression p rs e) give (word_has 0 e (record { formed = is.formed.0; fits = is.fits; names = is.names; calls = is.calls }))
          (G.gives (not-true g.in_task is.ends))
      statement_has (t.transition at task) a is = transition_has task.task is.ends

      choice_has : (c : CheckedChoice) → LeavesAlone (λ v. choice_assigns v c) → IsFitChoice g c → G.of_program (lowered_choice p rs c)
      choice_has t.nothing a is = G.empty
      choice_has (t.otherwise b) a is = block_has b a (otherwise_fit g b is)
      choice_has (t.test e b more) a is =
          let condition : IsFitExpression g 0 e =
          record { formed = is.formed.0; fits = is.fits.0; names = is.names.0; calls = is.calls.0 } in
          let taken = block_has b (first_leaves (λ v. block_assigns v b) (λ v. choice_assigns v more) a) (taken_fit g e b more is) in
          let passed = choice_has more (second_leaves (λ v. block_assigns v b) (λ v. choice_assigns v more) a) (passed_fit g e b more is) in
          G.alone (choose (lowered_test p rs e) (lowered_block p rs b) (lowered_choice p rs more))
          (G.chosen (lowered_test p rs e) (lowered_block p rs b) (lowered_choice p rs more) (expression_built 0 e condition).test taken passed)

      -- the fact holds of the program of each well-formed block
      pub block_has : (b : CheckedBlock) → LeavesAlone (λ v. block_assigns v b) → IsFitBlock g b → G.of_program (lowered_block p rs b)
      block_has t.end a is = G.empty
      block_has (t.step s more) a is =
          G.chain (lowered_statement p rs s) (lowered_block p rs more)
          (statement_has s (first_leaves (λ v. statement_assigns v s) (λ v. block_assigns v more) a) (first_fit g s more is))
          (block_has more (second_leaves (λ v. statement_assigns v s) (λ v. block_assigns v more) a) (rest_fit g s more is))
