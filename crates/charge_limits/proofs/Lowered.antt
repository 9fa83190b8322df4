-- A task's word program takes no more readings than the task's text has.
use Rattle.std.proofs.Common.{◌≡◌, ℕ, zero, suc, ◌+◌, ◌-◌, ◌*◌, ◌≤◌, Bool, true, false, List, [], ◌∷◌, ◌++◌, length, Option, Some, None, refl, arith}
use Rattle.std.proofs.Common.{slice_get, slice_index, slice_index_or, get_or}
use Rattle.std.proofs.lemmas.List.{length_push}
use Rattle.task_ast.specs.Answers.{answers, answers_from}
use Rattle.task_ast.specs.Tree as t
use Rattle.task_ast.specs.Types.{by_width, type_of, joined_type}
use Rattle.task_ast.specs.Paths.{CheckedExpression, CheckedValues, CheckedStatement, CheckedChoice, CheckedBlock, CheckedFunction, CheckedTask}
use Rattle.task_ast.specs.declared.WordType.{WordType}
use Rattle.task_ast.specs.declared.WordType.TheVariants.{Unsigned, Int, Long}
use Rattle.task_ast.specs.declared.UnaryOperator.{UnaryOperator}
use Rattle.task_ast.specs.declared.UnaryOperator.TheVariants.{Negate, Complement, Not}
use Rattle.task_ast.specs.declared.PlacedOperator.{PlacedOperator}
use Rattle.task_ast.specs.declared.ShiftOperator.{ShiftOperator}
use Rattle.task_ast.specs.declared.Literal.{Literal}
use Rattle.task_ast.specs.declared.ShortCircuitOperator.{ShortCircuitOperator}
use Rattle.task_ast.specs.declared.ShortCircuitOperator.TheVariants.{And as BothHold, Or as OneHolds}
use Rattle.task_ast.specs.declared.names.Variable.{Variable}
use Rattle.task_ast.specs.declared.names.Variable.TheVariants.{Shared, Local}
use Rattle.source_values.specs.Runs.{CheckedProgram, body_of, task_body}
use Rattle.array_versions.specs.declared.operations.PlainOperation.{PlainOperation}
use Rattle.array_versions.specs.Program.{Step, Test, Program, nothing, step, joined, behind, store_number, move_word, jump}
use Rattle.memory_map.specs.declared.words.RuntimeWord.TheVariants.{Gate, ListLength, Base, SentBase}
use Rattle.memory_map.specs.declared.place.VariablePlace.{VariablePlace}
use Rattle.memory_map.specs.declared.place.VariablePlace.TheVariants.{Scalar, Array}
use Rattle.memory_map.specs.MemoryMap.{MemoryMap, TaskPlace, word_place}
use Rattle.memory_map.specs.declared.place.RoutinePlace.{RoutinePlace}
use Rattle.memory_map.specs.Spots.{Places, routine_of, routine_places}
use Rattle.array_versions.specs.TaskPrograms.{no_programs}
use Rattle.lower.specs.declared.runs.Run.{Run}
use Rattle.lower.specs.declared.operations.BinaryMeaning.{BinaryMeaning}
use Rattle.lower.specs.declared.operations.BinaryMeaning.TheVariants.{Calculates, CommonBits, Holds, Fails}
use Rattle.lower.specs.declared.operations.LongQuestion.{LongQuestion}
use Rattle.lower.specs.declared.operations.LongQuestion.TheVariants as question
use Rattle.lower.specs.declared.operations.LongMeaning.{LongMeaning}
use Rattle.lower.specs.declared.operations.LongMeaning.TheVariants as meaning
use Rattle.lower.specs.Operations.{binary_meaning, operand_type, long_meaning}
use Rattle.lower.specs.Lowered.{own_read, own_write, own_update, array_place, list_place, stored_array}
use Rattle.array_versions.specs.declared.program.ArrayPlace.{ArrayPlace}
use Rattle.array_versions.specs.declared.program.ListPlace.{ListPlace}
use Rattle.memory_map.specs.declared.runtime.Logging.{Logging}
use Rattle.memory_map.specs.declared.runtime.Logging.TheVariants.{Redo, Undo}
use Rattle.lower.specs.Runs.{runs_of}
use Rattle.lower.specs.Lowered.{Lowering, as_word, as_test, as_bits, as_long, one, read_step, write_step, update_step, read_long, write_long, element_read}
use Rattle.lower.specs.Lowered.{element_step, store_step, update_element_step, word_program, value_test, widening, long_words, long_program, unary_lowering}
use Rattle.lower.specs.Lowered.{long_zero, long_unary_lowering, binary_lowering, answer, long_binary_lowering, sides_test}
use Rattle.lower.specs.Lowered.{widened_type, lowering, lowered_expression, lowered_long, setting, long_setting, updating, of_words, sides_set}
use Rattle.lower.specs.Lowered.{doubling, shift_set}
use Rattle.lower.specs.Lowered.{assignment, index_and_value, element_setting, element_updating, element_sides_set, element_assignment}
use Rattle.lower.specs.Lowered.{entries, freezing, lowered_transition, lowered_statement, lowered_choice, lowered_block, lowered_tasks}
use Rattle.lower.specs.Lowered.{arguments, body_at, call_at, call_count, call_step, routine_body, routine_bodies, task_places}
use Rattle.compiled_model.specs.Parts.{task_program}
use Rattle.task_readings.specs.Readings.{expression_readings, values_readings, statement_readings, choice_readings, block_readings, function_readings}
use Rattle.task_readings.specs.Readings.{reading_counts}
use Rattle.charge_limits.proofs.Senses.{step_senses, test_senses, senses, senses_joined, senses_behind}

-- of what an expression comes to
abbrev lowering_senses : Lowering → ℕ
lowering_senses (as_word q) = senses q
lowering_senses (as_test c) = test_senses c
lowering_senses (as_bits q) = senses q
lowering_senses (as_long q) = senses q

-- a step that takes none, behind a program
behind_few : (n : ℕ) (q : Program) (s : Step) → step_senses s ≡ 0 → senses q ≤ n → senses (behind q s) ≤ n
behind_few n q s none h = let all = senses_behind q s in omega (arith, all, none, h)

joined_few : (a b : ℕ) (q r : Program) → senses q ≤ a → senses r ≤ b → senses (joined q r) ≤ a + b
joined_few a b q r h k = let all = senses_joined q r in omega (arith, all, h, k)

-- one of the two, by the type
program_by : (of : WordType) (q r : Program) (n : ℕ) → senses q ≤ n → senses r ≤ n → senses (by_width of q r) ≤ n
program_by Long q r n h k = k
program_by Int q r n h k = h
program_by Unsigned q r n h k = h

lowering_by : (of : WordType) (a b : Lowering) (n : ℕ) → lowering_senses a ≤ n → lowering_senses b ≤ n → lowering_senses (by_width of a b) ≤ n
lowering_by Long a b n h k = k
lowering_by Int a b n h k = h
lowering_by Unsigned a b n h k = h

word_few : (l : Lowering) (n : ℕ) → lowering_senses l ≤ n → senses (word_program l) ≤ n
word_few (as_word q) n h = h
word_few (as_test c) n h = omega (arith, h)
word_few (as_bits q) n h = behind_few n q _ refl h
word_few (as_long q) n h = behind_few n q _ refl h

test_few : (l : Lowering) (n : ℕ) → lowering_senses l ≤ n → test_senses (value_test l) ≤ n
test_few (as_word q) n h = h
test_few (as_test c) n h = h
test_few (as_bits q) n h = h
test_few (as_long q) n h = behind_few n q _ refl h

widening_none : (of : WordType) → senses (widening of) ≤ 0
widening_none Int = omega arith
widening_none Unsigned = omega arith
widening_none Long = omega arith

-- a program, and what makes a long of its word
widened_few : (of : WordType) (q : Program) (n : ℕ) → senses q ≤ n → senses (joined q (widening of)) ≤ n
widened_few of q n h = let none = widening_none of in let all = senses_joined q (widening of) in omega (arith, all, none, h)

longs_few : (l : Lowering) (n : ℕ) → lowering_senses l ≤ n → senses (long_words l) ≤ n
longs_few (as_word q) n h = widened_few Long q n h
longs_few (as_test c) n h = omega (arith, h)
longs_few (as_bits q) n h = widened_few Long (behind q _) n (behind_few n q _ refl h)
longs_few (as_long q) n h = h

long_few : (of : WordType) (l : Lowering) (n : ℕ) → lowering_senses l ≤ n → senses (long_program of l) ≤ n
long_few of l n h =
    program_by of (joined (word_program l) (widening of)) (long_words l) n (widened_few of (word_program l) n (word_few l n h)) (longs_few l n h)

-- ---- steps of variables

read_none : (p : Places) (x : Variable) → step_senses (read_step p x) ≡ 0
read_none p (Shared v) = refl
read_none p (Local n) = refl

write_none : (p : Places) (x : Variable) → step_senses (write_step p x) ≡ 0
write_none p (Shared v) = refl
write_none p (Local n) = refl

update_none : (p : Places) (op : PlainOperation) (x : Variable) → step_senses (update_step p op x) ≡ 0
update_none p op (Shared v) = refl
update_none p op (Local n) = refl

read_long_none : (p : Places) (x : Variable) → senses (read_long p x) ≤ 0
read_long_none p (Shared v) = omega arith
read_long_none p (Local n) = omega arith

write_long_none : (p : Places) (x : Variable) → senses (write_long p x) ≤ 0
write_long_none p (Shared v) = omega arith
write_long_none p (Local n) = omega arith

-- an element is read and stored, under each runtime
own_read_none : (logging : Logging) (a : ArrayPlace) (list : ListPlace) → step_senses (own_read logging a list) ≡ 0
own_read_none Redo a list = refl
own_read_none Undo a list = refl

own_write_none : (logging : Logging) (a : ArrayPlace) (list : ListPlace) → step_senses (own_write logging a list) ≡ 0
own_write_none Redo a list = refl
own_write_none Undo a list = refl

own_update_none : (logging : Logging) (op : PlainOperation) (a : ArrayPlace) (list : ListPlace) → step_senses (own_update logging op a list) ≡ 0
own_update_none Redo op a list = refl
own_update_none Undo op a list = refl

element_read_none : (p : Places) (o : Option VariablePlace) → step_senses (element_read p o) ≡ 0
element_read_none p (Some (Array elements length (Some c))) = own_read_none p.map.runtime.logging (array_place elements length c) (list_place p)
element_read_none p (Some (Array elements length None)) = refl
element_read_none p (Some (Scalar home copy width)) = refl
element_read_none p None = refl

element_step_none : (p : Places) (x : Variable) → step_senses (element_step p x) ≡ 0
element_step_none p (Shared v) = element_read_none p (slice_get p.map.variables v)
element_step_none p (Local n) = refl

-- ---- operators

unary_few : (op : UnaryOperator) (l : Lowering) (n : ℕ) → lowering_senses l ≤ n → lowering_senses (unary_lowering op l) ≤ n
unary_few Negate l n h = behind_few n (word_program l) _ refl (word_few l n h)
unary_few Complement l n h = behind_few n (word_program l) _ refl (word_few l n h)
unary_few Not l n h = test_few l n h

long_unary_few : (op : UnaryOperator) (l : Lowering) (n : ℕ) → lowering_senses l ≤ n → lowering_senses (long_unary_lowering op l) ≤ n
long_unary_few Negate l n h =
    let words = longs_few l n h in
    let all = senses_joined long_zero (long_words l) in
    behind_few n (joined long_zero (long_words l)) _ refl (omega (arith, words, all))
long_unary_few Complement l n h = behind_few n (long_words l) _ refl (longs_few l n h)
long_unary_few Not l n h = test_few l n h

binary_few : (m : BinaryMeaning) (sides : Program) (n : ℕ) → senses sides ≤ n → lowering_senses (binary_lowering m sides) ≤ n
binary_few (Calculates op) sides n h = behind_few n sides _ refl h
binary_few CommonBits sides n h = h
binary_few (Holds c) sides n h = h
binary_few (Fails c) sides n h = h

answer_few : (q : LongQuestion) (sides : Program) (n : ℕ) → senses sides ≤ n → senses (answer q sides) ≤ n
answer_few question.Below sides n h = behind_few n sides _ refl h
answer_few question.Above sides n h = behind_few n sides _ refl h
answer_few question.Differ sides n h = behind_few n _ _ refl (behind_few n sides _ refl h)

long_binary_few : (m : LongMeaning) (sides : Program) (n : ℕ) → senses sides ≤ n → lowering_senses (long_binary_lowering m sides) ≤ n
long_binary_few (meaning.Calculates op) sides n h = behind_few n sides _ refl h
long_binary_few (meaning.Holds q) sides n h = answer_few q sides n h
long_binary_few (meaning.Fails q) sides n h = answer_few q sides n h

sides_test_few : (op : ShortCircuitOperator) (a b : ℕ) (c d : Test) → test_senses c ≤ a → test_senses d ≤ b → test_senses (sides_test op c d) ≤ a + b
sides_test_few BothHold a b c d h k = omega (arith, h, k)
sides_test_few OneHolds a b c d h k = omega (arith, h, k)

-- ---- expressions, where functions take so many

-- these bodies of functions take no more than so many
abbrev AreFew : List ℕ → List Program → Type 0
AreFew counts rs = (k : ℕ) → senses (slice_index_or rs k nothing) ≤ slice_index counts k

module _ (counts : List ℕ) (rs : List Program) (few : AreFew counts rs) where
  call_few : (p : Places) (k count : ℕ) → step_senses (call_step p rs k count) ≤ slice_index counts k
  call_few p k count = by (routine_of p k)
    where
      by : (o : Option RoutinePlace) → step_senses (call_at o count (slice_index_or rs k nothing)) ≤ slice_index counts k
      by (Some r) = few k
      by None = omega arith

  mutual
    expression_few : (p : Places) (e : CheckedExpression) → lowering_senses (lowering p rs e) ≤ expression_readings counts e
    expression_few p (t.number w) = omega arith
    expression_few p (t.long_number w) = omega arith
    expression_few p (t.name x) =
        let none = read_none p x.variable in
        lowering_by x.word_type (as_word (one (read_step p x.variable))) (as_long (read_long p x.variable)) 0 (omega (arith, none))
        (read_long_none p x.variable)
    expression_few p (t.element x index) =
        behind_few (expression_readings counts index) (word_program (lowering p rs index)) (element_step p x.variable) (element_step_none p x.variable)
        (word_few (lowering p rs index) (expression_readings counts index) (expression_few p index))
    expression_few p t.sense = omega arith
    expression_few p t.next_event = omega arith
    expression_few p (t.call f values) =
        let given = values_few p values in
        let called = call_few p f.function (call_count values) in
        let all = senses_behind (arguments p rs values) (call_step p rs f.function (call_count values)) in
        omega (arith, given, called, all)
    expression_few p (t.unary op e) =
        let n = expression_readings counts e in
        let l = lowering p rs e in
        lowering_by (type_of e) (unary_lowering op l) (long_unary_lowering op l) n (unary_few op l n (expression_few p e))
        (long_unary_few op l n (expression_few p e))
    expression_few p (t.binary op a b) =
        let n = expression_readings counts a in let m = expression_readings counts b in
        let left = lowering p rs a in let right = lowering p rs b in
        let s = widened_type a in let u = widened_type b in
        let of = operand_type op.operator (joined_type (type_of a) (type_of b)) in
        let words = joined (word_program left) (word_program right) in
        let longs = joined (long_program s left) (long_program u right) in
        lowering_by of (binary_lowering (binary_meaning op.operator of) words) (long_binary_lowering (long_meaning op.operator) longs) (n + m)
        (binary_few (binary_meaning op.operator of) words (n + m)
        (joined_few n m (word_program left) (word_program right) (word_few left n (expression_few p a)) (word_few right m (expression_few p b))))
        (long_binary_few (long_meaning op.operator) longs (n + m)
        (joined_few n m (long_program s left) (long_program u right) (long_few s left n (expression_few p a)) (long_few u right m (expression_few p b))))
    expression_few p (t.shift op e count) =
        let n = expression_readings counts e in
        let l = lowering p rs e in
        lowering_by (type_of e) (as_word (behind (word_program l) _)) (as_long (behind (long_words l) _)) n
        (behind_few n (word_program l) _ refl (word_few l n (expression_few p e))) (behind_few n (long_words l) _ refl (longs_few l n (expression_few p e)))
    expression_few p (t.short_circuit op a b) =
        sides_test_few op (expression_readings counts a) (expression_readings counts b) (value_test (lowering p rs a)) (value_test (lowering p rs b))
        (test_few (lowering p rs a) (expression_readings counts a) (expression_few p a))
        (test_few (lowering p rs b) (expression_readings counts b) (expression_few p b))

    values_few : (p : Places) (values : CheckedValues) → senses (arguments p rs values) ≤ values_readings counts values
    values_few p t.no_value = omega arith
    values_few p (t.value e more) =
        let first = word_few (lowering p rs e) (expression_readings counts e) (expression_few p e) in
        let rest = values_few p more in
        let all = senses_joined (word_program (lowering p rs e)) (arguments p rs more) in
        omega (arith, first, rest, all)

  value_few : (p : Places) (e : CheckedExpression) → senses (lowered_expression p rs e) ≤ expression_readings counts e
  value_few p e = word_few (lowering p rs e) (expression_readings counts e) (expression_few p e)

  -- ---- statements

  setting_few : (p : Places) (x : Variable) (e : CheckedExpression) → senses (setting p rs x e) ≤ expression_readings counts e
  setting_few p x e = behind_few (expression_readings counts e) (lowered_expression p rs e) (write_step p x) (write_none p x) (value_few p e)

  long_setting_few : (p : Places) (x : Variable) (e : CheckedExpression) → senses (long_setting p rs x e) ≤ expression_readings counts e
  long_setting_few p x e =
      let none = write_long_none p x in
      let value = long_few (widened_type e) (lowering p rs e) (expression_readings counts e) (expression_few p e) in
      let all = senses_joined (lowered_long p rs e) (write_long p x) in
      omega (arith, none, value, all)

  sides_few : (p : Places) (x : Variable) (op : PlacedOperator) (a b : CheckedExpression) (o : Option PlainOperation)
      → senses (sides_set p rs x op a b o) ≤ expression_readings counts a + expression_readings counts b
  sides_few p x op a b None = setting_few p x (t.binary op a b)
  sides_few p x op a b (Some o) =
      behind_few (expression_readings counts a + expression_readings counts b) (lowered_expression p rs b) (update_step p o x) (update_none p o x)
      (let value = value_few p b in omega (arith, value))

  shift_set_few : (p : Places) (x : Variable) (op : ShiftOperator) (e : CheckedExpression) (count : Literal) (o : Option PlainOperation)
      → senses (shift_set p rs x op e count o) ≤ expression_readings counts e
  shift_set_few p x op e count None = setting_few p x (t.shift op e count)
  shift_set_few p x op e count (Some o) =
      behind_few (expression_readings counts e) (lowered_expression p rs e) (update_step p o x) (update_none p o x) (value_few p e)

  assignment_few : (p : Places) (x : Variable) (e : CheckedExpression) → senses (assignment p rs x e) ≤ expression_readings counts e
  assignment_few p x (t.binary op a b) = sides_few p x op a b (of_words (joined_type (type_of a) (type_of b)) (updating x op.operator a b))
  assignment_few p x (t.number w) = setting_few p x (t.number w)
  assignment_few p x (t.long_number w) = setting_few p x (t.long_number w)
  assignment_few p x (t.name y) = setting_few p x (t.name y)
  assignment_few p x (t.element y index) = setting_few p x (t.element y index)
  assignment_few p x t.sense = setting_few p x t.sense
  assignment_few p x t.next_event = setting_few p x t.next_event
  assignment_few p x (t.call f values) = setting_few p x (t.call f values)
  assignment_few p x (t.unary op e) = setting_few p x (t.unary op e)
  assignment_few p x (t.shift op e count) = shift_set_few p x op e count (of_words (type_of e) (doubling x op e count.value))
  assignment_few p x (t.short_circuit op a b) = setting_few p x (t.short_circuit op a b)

  sides_of_few : (p : Places) (index e : CheckedExpression)
      → senses (index_and_value p rs index e) ≤ expression_readings counts index + expression_readings counts e
  sides_of_few p index e =
      joined_few (expression_readings counts index) (expression_readings counts e) (lowered_expression p rs index) (lowered_expression p rs e)
      (value_few p index) (value_few p e)

  element_setting_few : (p : Places) (x : Variable) (index e : CheckedExpression)
      → senses (element_setting p rs x index e) ≤ expression_readings counts index + expression_readings counts e
  element_setting_few p x index e =
      behind_few (expression_readings counts index + expression_readings counts e) (index_and_value p rs index e) (store_step p x)
      (own_write_none p.map.runtime.logging (stored_array p x) (list_place p)) (sides_of_few p index e)

  element_sides_few : (p : Places) (x : Variable) (index : CheckedExpression) (op : PlacedOperator) (a b : CheckedExpression) (o : Option PlainOperation)
      → senses (element_sides_set p rs x index op a b o) ≤ expression_readings counts index + (expression_readings counts a + expression_readings counts b)
  element_sides_few p x index op a b None = element_setting_few p x index (t.binary op a b)
  element_sides_few p x index op a b (Some o) =
      behind_few (expression_readings counts index + (expression_readings counts a + expression_readings counts b)) (index_and_value p rs index b)
      (update_element_step p o x)
      (own_update_none p.map.runtime.logging o (stored_array p x) (list_place p))
      (let sides = sides_of_few p index b in omega (arith, sides))

  element_few : (p : Places) (x : Variable) (index e : CheckedExpression)
      → senses (element_assignment p rs x index e) ≤ expression_readings counts index + expression_readings counts e
  element_few p x index (t.binary op a b) =
      element_sides_few p x index op a b (of_words (joined_type (type_of a) (type_of b)) (element_updating x index op.operator a b))
  element_few p x index (t.number w) = element_setting_few p x index (t.number w)
  element_few p x index (t.long_number w) = element_setting_few p x index (t.long_number w)
  element_few p x index (t.name y) = element_setting_few p x index (t.name y)
  element_few p x index (t.element y other) = element_setting_few p x index (t.element y other)
  element_few p x index t.sense = element_setting_few p x index t.sense
  element_few p x index t.next_event = element_setting_few p x index t.next_event
  element_few p x index (t.call f values) = element_setting_few p x index (t.call f values)
  element_few p x index (t.unary op e) = element_setting_few p x index (t.unary op e)
  element_few p x index (t.shift op e count) = element_setting_few p x index (t.shift op e count)
  element_few p x index (t.short_circuit op a b) = element_setting_few p x index (t.short_circuit op a b)

  entries_none : (count list : ℕ) (rs : List Run) → senses (entries count list rs) ≤ 0
  entries_none count list [] = omega arith
  entries_none count list (r ∷ more) = let rest = entries_none count list more in omega (arith, rest)

  freezing_none : (p : Places) → senses (freezing p) ≤ 0
  freezing_none p = by p.map.runtime.events refl
    where
      by : (events : Bool) → p.map.runtime.events ≡ events → senses (freezing p) ≤ 0
      by true e = rw e (omega arith)
      by false e = rw e (omega arith)

  transition_none : (p : Places) (task : ℕ) → senses (lowered_transition p task) ≤ 0
  transition_none p task =
      let listed = entries_none (word_place p.map ListLength) p.map.list.address (runs_of p.privates) in
      let frozen = freezing_none p in
      let close = step (store_number (word_place p.map Gate) 1) (one (jump p.map.commit.address)) in
      let behind_freezing = senses_joined (freezing p) close in
      let behind_entries = senses_joined (entries (word_place p.map ListLength) p.map.list.address (runs_of p.privates))
      (step (move_word (word_place p.map Base) (word_place p.map SentBase)) (joined (freezing p) close)) in
      omega (arith, listed, frozen, behind_freezing, behind_entries)

  mutual
    statement_few : (p : Places) (s : CheckedStatement) → senses (lowered_statement p rs s) ≤ statement_readings counts s
    statement_few p (t.declare of x None) = omega arith
    statement_few p (t.declare of x (Some e)) = assignment_few p x.variable e
    statement_few p (t.assign x e) =
        program_by x.word_type (assignment p rs x.variable e) (long_setting p rs x.variable e) (expression_readings counts e) (assignment_few p x.variable e)
        (long_setting_few p x.variable e)
    statement_few p (t.store x index e) = element_few p x.variable index e
    statement_few p (t.choose choice) = choice_few p choice
    statement_few p (t.loop x from tested below stepped body) = let rest = block_few p body in
        more (below - from) (senses (lowered_block p rs body)) (block_readings counts body) rest
      where
        more : (k a b : ℕ) → a ≤ b → k * a + 0 ≤ k * b
        more zero a b h = omega arith
        more (suc k) a b h = let rest = more k a b h in omega (arith, h, rest)
    statement_few p (t.emit e) = behind_few (expression_readings counts e) (lowered_expression p rs e) _ refl (value_few p e)
    statement_few p (t.give at e) = behind_few (expression_readings counts e) (lowered_expression p rs e) _ refl (value_few p e)
    statement_few p (t.transition at task) = transition_none p task.task

    choice_few : (p : Places) (c : CheckedChoice) → senses (lowered_choice p rs c) ≤ choice_readings counts c
    choice_few p t.nothing = omega arith
    choice_few p (t.otherwise block) = block_few p block
    choice_few p (t.test e block more) =
        let asked = test_few (lowering p rs e) (expression_readings counts e) (expression_few p e) in
        let first = block_few p block in let rest = choice_few p more in omega (arith, asked, first, rest)

    block_few : (p : Places) (b : CheckedBlock) → senses (lowered_block p rs b) ≤ block_readings counts b
    block_few p t.end = omega arith
    block_few p (t.step s more) =
        joined_few (statement_readings counts s) (block_readings counts more) (lowered_statement p rs s) (lowered_block p rs more) (statement_few p s)
        (block_few p more)

-- ---- functions

-- one more
more_few : (counts : List ℕ) (rs : List Program) → length counts ≡ length rs → (n : ℕ) (q : Program) → senses q ≤ n → AreFew counts rs
    → AreFew (counts ++ n ∷ []) (rs ++ q ∷ [])
more_few [] [] e n q h few zero = h
more_few [] [] e n q h few (suc k) = omega arith
more_few [] (r ∷ rs) e n q h few k = absurd (omega (arith, e))
more_few (c ∷ counts) [] e n q h few k = absurd (omega (arith, e))
more_few (c ∷ counts) (r ∷ rs) e n q h few zero = few 0
more_few (c ∷ counts) (r ∷ rs) e n q h few (suc k) = more_few counts rs (omega (arith, e)) n q h (λ j. few (suc j)) k

-- where it stands, or nowhere
body_few : (p : Places) (counts : List ℕ) (rs : List Program) → AreFew counts rs → (o : Option RoutinePlace) (f : CheckedFunction)
    → senses (body_at p o rs f.body) ≤ function_readings counts f
body_few p counts rs few None f = omega arith
body_few p counts rs few (Some r) f = block_few counts rs few (routine_places p r) f.body

all_few : (p : Places) (counts : List ℕ) (rs : List Program) (fs : List CheckedFunction) → length counts ≡ length rs → AreFew counts rs
    → AreFew (answers_from function_readings counts fs) (answers_from (routine_body p) rs fs)
all_few p counts rs [] e few = few
all_few p counts rs (f ∷ fs) e few =
    let n = length_push counts (function_readings counts f) in
    let m = length_push rs (routine_body p rs f) in
    all_few p (counts ++ function_readings counts f ∷ []) (rs ++ routine_body p rs f ∷ []) fs (omega (arith, e, n, m))
    (more_few counts rs e (function_readings counts f) (routine_body p rs f) (body_few p counts rs few (routine_of p (length rs)) f) few)

bodies_few : (p : Places) (fs : List CheckedFunction) → AreFew (answers function_readings fs) (routine_bodies p fs)
bodies_few p fs = all_few p [] [] fs refl (λ k. omega arith)

-- ---- tasks

tasks_few : (fs : List CheckedFunction) (l : MemoryMap) (tasks : List CheckedTask) (ts : List TaskPlace) (k : ℕ)
    → senses (get_or (lowered_tasks fs l tasks ts) k no_programs).own ≤ block_readings (answers function_readings fs) (body_of (slice_get tasks k))
tasks_few fs l [] ts k = omega arith
tasks_few fs l (task ∷ tasks) [] k = omega arith
tasks_few fs l (task ∷ tasks) (own ∷ ts) zero =
    let places = task_places fs l own task.body in
    block_few (answers function_readings fs) (routine_bodies places fs) (bodies_few places fs) places task.body
tasks_few fs l (task ∷ tasks) (own ∷ ts) (suc k) = tasks_few fs l tasks ts k

pub task_few : (p : CheckedProgram) (l : MemoryMap) (k : ℕ) → senses (task_program p l k) ≤ block_readings (reading_counts p) (task_body p k)
task_few p l k = tasks_few p.functions l p.tasks l.tasks k
