-- The word programs of expressions, statements and tasks.
use Rattle.std.specs.Prelude.{ℕ, ◌+◌, ◌/◌, ◌%◌, ◌==◌, ◌&&◌, ◌||◌, not, Bool, true, false, if◌then◌else◌, List, [], ◌∷◌, length, map, Option, Some, None}
use Rattle.std.specs.Prelude.{slice_get, slice_index_or}
use Rattle.task_ast.specs.Tree as t
use Rattle.task_ast.specs.Answers.{answers}
use Rattle.task_ast.specs.Paths.{CheckedExpression, CheckedValues, CheckedStatement, CheckedChoice, CheckedBlock, CheckedFunction, CheckedTask}
use Rattle.task_ast.specs.declared.WordType.{WordType}
use Rattle.task_ast.specs.declared.WordType.TheVariants.{Unsigned, Int, Long}
use Rattle.task_ast.specs.declared.UnaryOperator.{UnaryOperator}
use Rattle.task_ast.specs.declared.UnaryOperator.TheVariants as unary_operator
use Rattle.task_ast.specs.declared.BinaryOperator.{BinaryOperator}
use Rattle.task_ast.specs.declared.PlacedOperator.{PlacedOperator}
use Rattle.task_ast.specs.declared.ShiftOperator.{ShiftOperator}
use Rattle.task_ast.specs.declared.ShiftOperator.TheVariants as shift_operator
use Rattle.task_ast.specs.declared.Literal.{Literal}
use Rattle.task_ast.specs.declared.ShortCircuitOperator.{ShortCircuitOperator}
use Rattle.task_ast.specs.declared.ShortCircuitOperator.TheVariants.{And as BothHold, Or as OneHolds}
use Rattle.task_ast.specs.declared.names.Variable.{Variable}
use Rattle.task_ast.specs.declared.names.Variable.TheVariants.{Shared, Local}
use Rattle.path_sums.specs.Access.{is_same}
use Rattle.source_values.specs.Values.{by_width, joined_type, type_of}
use Rattle.source_values.specs.Runs.{CheckedProgram}
use Rattle.checked_trees.specs.WellFormed.{values_in}
use Rattle.array_versions.specs.declared.operations.UnaryOperation.TheVariants.{Negate, Complement}
use Rattle.array_versions.specs.declared.operations.PlainOperation.{PlainOperation}
use Rattle.array_versions.specs.declared.operations.PlainOperation.TheVariants.{Add, Subtract, And, Xor, Or}
use Rattle.array_versions.specs.declared.operations.BinaryOperation.TheVariants.{Plain}
use Rattle.array_versions.specs.declared.operations.Comparison.TheVariants.{CommonBit}
use Rattle.array_versions.specs.declared.operations.LongOperation.TheVariants as with_longs
use Rattle.array_versions.specs.Program.{Step, Test, Program, number, load, keep, update, local, set_local, update_local, unary, binary, shift, element, long}
use Rattle.array_versions.specs.Program.{emit_word, list_entry, sense, next_event, freeze_events, truth, choose, repeat, versioned_read, versioned_write}
use Rattle.array_versions.specs.Program.{versioned_update, logged_write, logged_update, store_number}
use Rattle.array_versions.specs.declared.program.ArrayPlace.{ArrayPlace}
use Rattle.array_versions.specs.declared.program.ListPlace.{ListPlace}
use Rattle.array_versions.specs.declared.program.LoggedPlace.{LoggedPlace}
use Rattle.array_versions.specs.TaskPrograms.{TaskPrograms}
use Rattle.array_versions.specs.Program.{call, give, move_word, jump, holds, compares, both, either, fails, nothing, step, joined, behind}
use Rattle.memory_map.specs.declared.words.RuntimeWord.TheVariants.{NextTask, Gate, ListLength, EmitCount, Base, SentBase}
use Rattle.memory_map.specs.declared.place.VariablePlace.{VariablePlace}
use Rattle.memory_map.specs.declared.place.VariablePlace.TheVariants.{Scalar, Array}
use Rattle.memory_map.specs.declared.runtime.Logging.{Logging}
use Rattle.memory_map.specs.declared.runtime.Logging.TheVariants.{Redo, Undo}
use Rattle.memory_map.specs.MemoryMap.{MemoryMap, TaskPlace, word_place}
use Rattle.memory_map.specs.Spots.{Places, places_of, address_of, routine_of, routine_places}
use Rattle.memory_map.specs.declared.place.RoutinePlace.{RoutinePlace}
pub use Rattle.variable_places.specs.Places.{high_address, local_number, array_place, no_array, list_place, written_array, stored_array}
use Rattle.lower.specs.declared.runs.Run.{Run}
use Rattle.lower.specs.Runs.{runs_of}
use Rattle.lower.specs.Seen.{map_seen, task_seen}
use Rattle.lower.specs.declared.operations.BinaryMeaning.{BinaryMeaning}
use Rattle.lower.specs.declared.operations.BinaryMeaning.TheVariants.{Calculates, CommonBits, Holds, Fails}
use Rattle.lower.specs.declared.operations.LongQuestion.{LongQuestion}
use Rattle.lower.specs.declared.operations.LongQuestion.TheVariants as question
use Rattle.lower.specs.declared.operations.LongMeaning.{LongMeaning}
use Rattle.lower.specs.declared.operations.LongMeaning.TheVariants as meaning
use Rattle.lower.specs.Operations.{binary_meaning, plain_operation, shift_operation, operand_type, long_meaning, long_shift}

-- a program of one step
abbrev pub one : Step → Program
one s = step s nothing

-- pushes a variable's word: a shared one by its address in the task, a local by its number
abbrev pub read_step : Places → Variable → Step
read_step p (Shared v) = load (address_of p v)
read_step p (Local n) = local (local_number p n)

-- pops a word and sets a variable to it
abbrev pub write_step : Places → Variable → Step
write_step p (Shared v) = keep (address_of p v)
write_step p (Local n) = set_local (local_number p n)

-- pops a word and sets a variable to what an operation gives of the variable and of that word
abbrev pub update_step : Places → PlainOperation → Variable → Step
update_step p op (Shared v) = update op (address_of p v)
update_step p op (Local n) = update_local op (local_number p n)

-- pushes a variable as a long, which is two words with the high one on top. A local has one word
abbrev pub read_long : Places → Variable → Program
read_long p (Shared v) = step (load (address_of p v)) (step (load (high_address (address_of p v))) (one (long with_longs.Join)))
read_long p (Local n) = step (local (local_number p n)) (step (number 0) (one (long with_longs.Join)))

-- pops a long and sets a variable to it, the high word first
abbrev pub write_long : Places → Variable → Program
write_long p (Shared v) = step (keep (high_address (address_of p v))) (one (keep (address_of p v)))
write_long p (Local n) = step (long with_longs.LowWord) (one (set_local (local_number p n)))

-- pops an index and pushes an element of an array that the task writes, as this attempt has the element: under undo it stands in its place
abbrev pub own_read : Logging → ArrayPlace → ListPlace → Step
own_read Redo a list = versioned_read a list
own_read Undo a list = element a.elements a.length

-- pops an index and pushes an element of the array at a place: as this attempt has the element where the task writes the array, else
-- where it stands
abbrev pub element_read : Places → Option VariablePlace → Step
element_read p (Some (Array elements length (Some c))) = own_read p.map.runtime.logging (array_place elements length c) (list_place p)
element_read p (Some (Array elements length None)) = element elements length
element_read p (Some (Scalar home copy width)) = element 0 0
element_read p None = element 0 0

-- the same of a variable
abbrev pub element_step : Places → Variable → Step
element_step p (Shared v) = element_read p (slice_get p.map.variables v)
element_step p (Local n) = element 0 0

-- an array whose elements are stored where they stand
abbrev pub logged_place : ArrayPlace → LoggedPlace
logged_place a = record { elements = a.elements; versions = a.versions; length = a.length }

-- pops a word and an index, and stores the word in an element: under redo in its copy, under undo in its place, where it is listed before
abbrev pub own_write : Logging → ArrayPlace → ListPlace → Step
own_write Redo a list = versioned_write a list
own_write Undo a list = logged_write (logged_place a) list

-- the same of a variable
abbrev pub store_step : Places → Variable → Step
store_step p x = own_write p.map.runtime.logging (stored_array p x) (list_place p)

-- pops a word and an index, and stores in an element what an operation gives of the element and of that word
abbrev pub own_update : Logging → PlainOperation → ArrayPlace → ListPlace → Step
own_update Redo op a list = versioned_update op a list
own_update Undo op a list = logged_update op (logged_place a) list

-- the same of a variable
abbrev pub update_element_step : Places → PlainOperation → Variable → Step
update_element_step p op x = own_update p.map.runtime.logging op (stored_array p x) (list_place p)

-- what an expression comes to: a program that leaves its value on top of the stack; a test, its value being 1 where the test holds and else
-- 0; a program that leaves two words, its value being the bits that are 1 in both; or a program that leaves its value as a long
pub data Lowering : Type 0 where
  as_word : Program → Lowering
  as_test : Test → Lowering
  as_bits : Program → Lowering
  as_long : Program → Lowering

-- the program that leaves the value on top of the stack, as one word
abbrev pub word_program : Lowering → Program
word_program (as_word q) = q
word_program (as_test c) = one (truth c)
word_program (as_bits q) = behind q (binary (Plain And))
word_program (as_long q) = behind q (long with_longs.LowWord)

-- the test that the value isn't 0
abbrev pub value_test : Lowering → Test
value_test (as_word q) = holds q
value_test (as_test c) = c
value_test (as_bits q) = compares CommonBit q
value_test (as_long q) = holds (behind q (binary (Plain Or)))

-- what makes a long of a word of this type: an int copies its sign
abbrev pub widening : WordType → Program
widening Int = one (long with_longs.Widen)
widening Unsigned = step (number 0) (one (long with_longs.Join))
widening Long = step (number 0) (one (long with_longs.Join))

-- the program that leaves a long
abbrev pub long_words : Lowering → Program
long_words (as_word q) = joined q (widening Long)
long_words (as_test c) = joined (one (truth c)) (widening Long)
long_words (as_bits q) = joined (behind q (binary (Plain And))) (widening Long)
long_words (as_long q) = q

-- the program that leaves the value as a long, by its type
abbrev pub long_program : WordType → Lowering → Program
long_program of l = by_width of (joined (word_program l) (widening of)) (long_words l)

-- a variable alone
abbrev pub name_lowering : Places → WordType → Variable → Lowering
name_lowering p of x = by_width of (as_word (one (read_step p x))) (as_long (read_long p x))

-- an operator in front of a word: `!` is a test
abbrev pub unary_lowering : UnaryOperator → Lowering → Lowering
unary_lowering unary_operator.Negate l = as_word (behind (word_program l) (unary Negate))
unary_lowering unary_operator.Complement l = as_word (behind (word_program l) (unary Complement))
unary_lowering unary_operator.Not l = as_test (fails (value_test l))

-- 0 as a long
abbrev pub long_zero : Program
long_zero = step (number 0) (one (number 0))

-- the same in front of a long
abbrev pub long_unary_lowering : UnaryOperator → Lowering → Lowering
long_unary_lowering unary_operator.Negate l = as_long (behind (joined long_zero (long_words l)) (long (with_longs.Calculate Subtract)))
long_unary_lowering unary_operator.Complement l = as_long (behind (long_words l) (long with_longs.Complement))
long_unary_lowering unary_operator.Not l = as_test (fails (value_test l))

-- by the type of the operand
abbrev pub operand_lowering : WordType → UnaryOperator → Lowering → Lowering
operand_lowering of op l = by_width of (unary_lowering op l) (long_unary_lowering op l)

-- an operator of two sides, behind the program of both
abbrev pub binary_lowering : BinaryMeaning → Program → Lowering
binary_lowering (Calculates op) sides = as_word (behind sides (binary op))
binary_lowering CommonBits sides = as_bits sides
binary_lowering (Holds c) sides = as_test (compares c sides)
binary_lowering (Fails c) sides = as_test (fails (compares c sides))

-- behind the program of two longs: a word that isn't 0 where the answer to a question is yes
abbrev pub answer : LongQuestion → Program → Program
answer question.Below sides = behind sides (long with_longs.Below)
answer question.Above sides = behind sides (long with_longs.Above)
answer question.Differ sides = behind (behind sides (long (with_longs.Calculate Xor))) (binary (Plain Or))

-- an operator of two longs, behind the program of both
abbrev pub long_binary_lowering : LongMeaning → Program → Lowering
long_binary_lowering (meaning.Calculates op) sides = as_long (behind sides (long (with_longs.Calculate op)))
long_binary_lowering (meaning.Holds q) sides = as_test (holds (answer q sides))
long_binary_lowering (meaning.Fails q) sides = as_test (fails (holds (answer q sides)))

-- an operator of two sides that become long by these types, by the type of the operands that it takes: both as words, or both as longs
abbrev pub sides_lowering : WordType → BinaryOperator → WordType → WordType → Lowering → Lowering → Lowering
sides_lowering of op s t left right =
    by_width of (binary_lowering (binary_meaning op of) (joined (word_program left) (word_program right)))
    (long_binary_lowering (long_meaning op) (joined (long_program s left) (long_program t right)))

-- a shift, by the type of its left side
abbrev pub shift_lowering : WordType → ShiftOperator → Lowering → ℕ → Lowering
shift_lowering of op l count =
    by_width of (as_word (behind (word_program l) (shift (shift_operation op of) count))) (as_long (behind (long_words l) (long (long_shift op count))))

-- `&&` and `||` as tests
abbrev pub sides_test : ShortCircuitOperator → Test → Test → Test
sides_test BothHold c d = both c d
sides_test OneHolds c d = either c d

-- the type by which an expression becomes long: a number of one word has no sign
abbrev pub widened_type : CheckedExpression → WordType
widened_type (t.number w) = Unsigned
widened_type e = type_of e

-- with how many words a function is called: no program calls one with 2^16
abbrev pub call_count : CheckedValues → ℕ
call_count values = values_in values % 65536

-- calls a function by its place in the task, its body being this, with so many values; one without a place has no body
abbrev pub call_at : Option RoutinePlace → ℕ → Program → Step
call_at (Some r) count body = call r.code.address r.frame r.first count body
call_at None count body = call 0 None 0 count nothing

-- calls the function of a number, by the bodies of those that are known
abbrev pub call_step : Places → List Program → ℕ → ℕ → Step
call_step p rs k count = call_at (routine_of p k) count (slice_index_or rs k nothing)

-- An expression: the parts from left to right, then the operation by their types. A call has the body of its function, by the bodies that are
-- known
abbrev mutual
  pub lowering : Places → List Program → CheckedExpression → Lowering
  lowering p rs (t.number w) = as_word (one (number w))
  lowering p rs (t.long_number w) = as_long (step (number (w % 65536)) (one (number (w / 65536))))
  lowering p rs (t.name x) = name_lowering p x.word_type x.variable
  lowering p rs (t.element x index) = as_word (behind (word_program (lowering p rs index)) (element_step p x.variable))
  lowering p rs t.sense = as_word (one sense)
  lowering p rs t.next_event = as_word (one next_event)
  lowering p rs (t.call f values) = as_word (behind (arguments p rs values) (call_step p rs f.function (call_count values)))
  lowering p rs (t.unary op e) = operand_lowering (type_of e) op (lowering p rs e)
  lowering p rs (t.binary op a b) =
      sides_lowering (operand_type op.operator (joined_type (type_of a) (type_of b))) op.operator (widened_type a) (widened_type b)
      (lowering p rs a) (lowering p rs b)
  lowering p rs (t.shift op e count) = shift_lowering (type_of e) op (lowering p rs e) count.value
  lowering p rs (t.short_circuit op a b) = as_test (sides_test op (value_test (lowering p rs a)) (value_test (lowering p rs b)))

  -- the values of a call, each as one word, from left to right
  pub arguments : Places → List Program → CheckedValues → Program
  arguments p rs t.no_value = nothing
  arguments p rs (t.value e more) = joined (word_program (lowering p rs e)) (arguments p rs more)

-- an expression's value as one word, on top of the stack
abbrev pub lowered_expression : Places → List Program → CheckedExpression → Program
lowered_expression p rs e = word_program (lowering p rs e)

-- an expression's value as a long, on top of the stack
abbrev pub lowered_long : Places → List Program → CheckedExpression → Program
lowered_long p rs e = long_program (widened_type e) (lowering p rs e)

-- the test that an expression's value isn't 0
abbrev pub lowered_test : Places → List Program → CheckedExpression → Test
lowered_test p rs e = value_test (lowering p rs e)

-- sets a variable of one word to an expression's value
abbrev pub setting : Places → List Program → Variable → CheckedExpression → Program
setting p rs x e = behind (lowered_expression p rs e) (write_step p x)

-- sets a long to an expression's value
abbrev pub long_setting : Places → List Program → Variable → CheckedExpression → Program
long_setting p rs x e = joined (lowered_long p rs e) (write_long p x)

-- whether an expression is a variable alone
abbrev pub is_name : Variable → CheckedExpression → Bool
is_name x (t.name y) = is_same x y.variable
is_name x _ = false

-- whether an expression calls a function
abbrev pub has_call : CheckedExpression → Bool
has_call (t.call f values) = true
has_call (t.element x index) = has_call index
has_call (t.unary op e) = has_call e
has_call (t.binary op a b) = has_call a || has_call b
has_call (t.shift op e count) = has_call e
has_call (t.short_circuit op a b) = has_call a || has_call b
has_call _ = false

-- the operation that sets a variable to what an operator gives of it, on the left, and of another side, which calls no function that could
-- change it
abbrev pub updating : Variable → BinaryOperator → CheckedExpression → CheckedExpression → Option PlainOperation
updating x op a b = if is_name x a && not (has_call b) then plain_operation op else None

-- the operation, where it is one of words
abbrev pub of_words : WordType → Option PlainOperation → Option PlainOperation
of_words of o = by_width of o None

-- sets a variable to what an operator gives of two sides: in place, where an operation does
abbrev pub sides_set : Places → List Program → Variable → PlacedOperator → CheckedExpression → CheckedExpression → Option PlainOperation → Program
sides_set p rs x op a b None = setting p rs x (t.binary op a b)
sides_set p rs x op a b (Some o) = behind (lowered_expression p rs b) (update_step p o x)

-- the operation that sets a variable to what a shift gives of it and of itself: one bit to the left is a sum
abbrev pub doubling : Variable → ShiftOperator → CheckedExpression → ℕ → Option PlainOperation
doubling x shift_operator.Left e k = if is_name x e && (k == 1) then Some Add else None
doubling x shift_operator.Right e k = None

-- sets a variable to a shift: in place, where an operation does
abbrev pub shift_set : Places → List Program → Variable → ShiftOperator → CheckedExpression → Literal → Option PlainOperation → Program
shift_set p rs x op e count None = setting p rs x (t.shift op e count)
shift_set p rs x op e count (Some o) = behind (lowered_expression p rs e) (update_step p o x)

-- an assignment to a variable of one word; `x = x + e` and its like are in place, since `e` leaves x, where both sides are of one word, and so is `x = x << 1`
abbrev pub assignment : Places → List Program → Variable → CheckedExpression → Program
assignment p rs x (t.binary op a b) = sides_set p rs x op a b (of_words (joined_type (type_of a) (type_of b)) (updating x op.operator a b))
assignment p rs x (t.shift op e count) = shift_set p rs x op e count (of_words (type_of e) (doubling x op e count.value))
assignment p rs x e = setting p rs x e

-- an assignment, by the type of the variable
abbrev pub scalar_assignment : Places → List Program → WordType → Variable → CheckedExpression → Program
scalar_assignment p rs of x e = by_width of (assignment p rs x e) (long_setting p rs x e)

-- an index and an expression's value, on top of the stack: the index is evaluated first
abbrev pub index_and_value : Places → List Program → CheckedExpression → CheckedExpression → Program
index_and_value p rs index e = joined (lowered_expression p rs index) (lowered_expression p rs e)

-- sets an element to an expression's value
abbrev pub element_setting : Places → List Program → Variable → CheckedExpression → CheckedExpression → Program
element_setting p rs x index e = behind (index_and_value p rs index e) (store_step p x)

-- whether an expression is this number
abbrev pub is_number : ℕ → CheckedExpression → Bool
is_number n (t.number m) = n == m
is_number n _ = false

-- whether two expressions are one number or one variable alone
abbrev pub are_alike : CheckedExpression → CheckedExpression → Bool
are_alike (t.number n) e = is_number n e
are_alike (t.name x) e = is_name x.variable e
are_alike _ e = false

-- whether an expression is the element of a variable at an index that is a number or a variable alone
abbrev pub is_element : Variable → CheckedExpression → CheckedExpression → Bool
is_element x index (t.element y other) = is_same x y.variable && are_alike index other
is_element x index _ = false

-- the operation that sets an element to what an operator gives of it, on the left, and of another side, which calls no function that could
-- change it
abbrev pub element_updating : Variable → CheckedExpression → BinaryOperator → CheckedExpression → CheckedExpression → Option PlainOperation
element_updating x index op a b = if is_element x index a && not (has_call b) then plain_operation op else None

-- sets an element to what an operator gives of two sides: in place, where an operation does
abbrev pub element_sides_set : Places → List Program → Variable → CheckedExpression → PlacedOperator → CheckedExpression → CheckedExpression
    → Option PlainOperation → Program
element_sides_set p rs x index op a b None = element_setting p rs x index (t.binary op a b)
element_sides_set p rs x index op a b (Some o) = behind (index_and_value p rs index b) (update_element_step p o x)

-- an assignment to an element; `a[i] = a[i] + e` and its like are in place, since `e` leaves the element and its index, where both sides are
-- of one word
abbrev pub element_assignment : Places → List Program → Variable → CheckedExpression → CheckedExpression → Program
element_assignment p rs x index (t.binary op a b) =
    element_sides_set p rs x index op a b (of_words (joined_type (type_of a) (type_of b)) (element_updating x index op.operator a b))
element_assignment p rs x index e = element_setting p rs x index e

-- a declaration without a value has no steps; a local has one word
abbrev pub declaration : Places → List Program → Variable → Option CheckedExpression → Program
declaration p rs x None = nothing
declaration p rs x (Some e) = assignment p rs x e

-- puts an expression's value into the emit buffer
abbrev pub emission : Places → List Program → CheckedExpression → Program
emission p rs e = behind (lowered_expression p rs e) (emit_word (word_place p.map EmitCount) p.map.emits.address)

-- the local that counts the turns of a loop
abbrev pub loop_local : Places → Variable → ℕ
loop_local p (Local n) = local_number p n
loop_local p (Shared v) = 0

-- an entry of the commit list for each run
abbrev pub entries : ℕ → ℕ → List Run → Program
entries count list [] = nothing
entries count list (r ∷ more) = step (list_entry count list r.home r.copy r.words) (entries count list more)

-- where the program takes events: SE := TAIL + EC
abbrev pub freezing : Places → Program
freezing p = if p.map.runtime.events then one freeze_events else nothing

-- NEXT, an entry of the commit list for each run of private scalars, SB := BASE, where there are events SE := TAIL + EC, GATE := 1; then on to
-- the commit
abbrev pub lowered_transition : Places → ℕ → Program
lowered_transition p task =
    step (store_number (word_place p.map NextTask) (task % 65536))
    (joined (entries (word_place p.map ListLength) p.map.list.address (runs_of p.privates))
    (step (move_word (word_place p.map Base) (word_place p.map SentBase))
    (joined (freezing p)
    (step (store_number (word_place p.map Gate) 1)
    (one (jump p.map.commit.address))))))

abbrev mutual
  -- what a statement does
  pub lowered_statement : Places → List Program → CheckedStatement → Program
  lowered_statement p rs (t.declare of x value) = declaration p rs x.variable value
  lowered_statement p rs (t.assign x e) = scalar_assignment p rs x.word_type x.variable e
  lowered_statement p rs (t.store x index e) = element_assignment p rs x.variable index e
  lowered_statement p rs (t.choose choice) = lowered_choice p rs choice
  lowered_statement p rs (t.loop x from tested below stepped body) = one (repeat (loop_local p x.variable) from below (lowered_block p rs body))
  lowered_statement p rs (t.emit e) = emission p rs e
  lowered_statement p rs (t.give at e) = behind (lowered_expression p rs e) give
  lowered_statement p rs (t.transition at task) = lowered_transition p task.task

  -- the conditions of an `if` one after another, up to the first that holds
  pub lowered_choice : Places → List Program → CheckedChoice → Program
  lowered_choice p rs t.nothing = nothing
  lowered_choice p rs (t.otherwise block) = lowered_block p rs block
  lowered_choice p rs (t.test e block more) = one (choose (lowered_test p rs e) (lowered_block p rs block) (lowered_choice p rs more))

  -- statements one after another
  pub lowered_block : Places → List Program → CheckedBlock → Program
  lowered_block p rs t.end = nothing
  lowered_block p rs (t.step s more) = joined (lowered_statement p rs s) (lowered_block p rs more)

-- the program of a function's body where it stands in a task, by the bodies of those in front of it; nothing, where it isn't one that the task reaches
abbrev pub body_at : Places → Option RoutinePlace → List Program → CheckedBlock → Program
body_at p (Some r) rs body = lowered_block (routine_places p r) rs body
body_at p None rs body = nothing

-- the same of a function, by its number
abbrev pub routine_body : Places → List Program → CheckedFunction → Program
routine_body p rs f = body_at p (routine_of p (length rs)) rs f.body

-- the bodies of all functions, in order of declaration
abbrev pub routine_bodies : Places → List CheckedFunction → List Program
routine_bodies p fs = answers (routine_body p) fs

-- the places of a task, over the memory map and its own place as the task sees them
abbrev pub task_places : List CheckedFunction → MemoryMap → TaskPlace → CheckedBlock → Places
task_places fs l task body = places_of (map_seen fs body l) (task_seen l.runtime.logging task)

-- the programs of a task: its own, and those of the functions that it reaches, all by the bodies of the functions
abbrev pub lowered_task : List CheckedFunction → MemoryMap → TaskPlace → CheckedBlock → TaskPrograms
lowered_task fs l task body =
    let p = task_places fs l task body in
    let rs = routine_bodies p fs in
    record { own = lowered_block p rs body; routines = map (λ r. slice_index_or rs r.function nothing) p.routines }

-- the programs of tasks, each with its layout
abbrev pub lowered_tasks : List CheckedFunction → MemoryMap → List CheckedTask → List TaskPlace → List TaskPrograms
lowered_tasks fs l (task ∷ tasks) (layout ∷ layouts) = lowered_task fs l layout task.body ∷ lowered_tasks fs l tasks layouts
lowered_tasks fs l _ _ = []

-- the programs of a source
abbrev pub lowered : MemoryMap → CheckedProgram → List TaskPrograms
lowered l p = lowered_tasks p.functions l p.tasks l.tasks

-- ---- as they are made: a call has no body

-- the body of a function by its place, if there is one of its number
abbrev pub bare_body : Places → RoutinePlace → Option CheckedFunction → Program
bare_body p r (Some f) = lowered_block (routine_places p r) [] f.body
bare_body p r None = nothing

abbrev pub bare_routine : Places → List CheckedFunction → RoutinePlace → Program
bare_routine p fs r = bare_body p r (slice_get fs r.function)

-- the programs of a task
abbrev pub bare_task : List CheckedFunction → MemoryMap → TaskPlace → CheckedBlock → TaskPrograms
bare_task fs l task body =
    let p = task_places fs l task body in record { own = lowered_block p [] body; routines = map (bare_routine p fs) p.routines }

abbrev pub bare_tasks : List CheckedFunction → MemoryMap → List CheckedTask → List TaskPlace → List TaskPrograms
bare_tasks fs l (task ∷ tasks) (layout ∷ layouts) = bare_task fs l layout task.body ∷ bare_tasks fs l tasks layouts
bare_tasks fs l _ _ = []

-- the programs of a source
abbrev pub bare_programs : MemoryMap → CheckedProgram → List TaskPrograms
bare_programs l p = bare_tasks p.functions l p.tasks l.tasks
