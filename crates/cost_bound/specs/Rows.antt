-- What statements cost, and what the allowance of a few small sources comes to, counted by hand from the table.
use Rattle.std.specs.Prelude.{◌≡◌, ℕ, ◌+◌, ◌*◌, ◌≤◌, Some, None, List, [], ◌∷◌}
use Rattle.task_ast.specs.Worked.{nowhere, here}
use Rattle.task_ast.specs.Paths.{CheckedExpression, CheckedStatement, CheckedFunction}
use Rattle.task_ast.specs.Tree as t
use Rattle.task_ast.specs.declared.WordType.TheVariants.{Unsigned, Long}
use Rattle.task_ast.specs.declared.BinaryOperator.{BinaryOperator}
use Rattle.task_ast.specs.declared.BinaryOperator.TheVariants.{Add, Greater, Multiply, Divide, Remainder}
use Rattle.task_ast.specs.declared.UnaryOperator.TheVariants.{Negate}
use Rattle.task_ast.specs.declared.ShiftOperator.TheVariants.{Left, Right}
use Rattle.task_ast.specs.declared.ShortCircuitOperator.TheVariants.{And as BothHold}
use Rattle.task_ast.specs.declared.Extent.{Extent}
use Rattle.task_ast.specs.declared.Extent.TheVariants.{Scalar, Array}
use Rattle.task_ast.specs.declared.Extent.TheVariants as extent
use Rattle.task_ast.specs.declared.SharedDeclaration.{SharedDeclaration}
use Rattle.task_ast.specs.declared.names.Variable.{Variable}
use Rattle.task_ast.specs.declared.names.Variable.TheVariants.{Shared, Local}
use Rattle.task_ast.specs.declared.names.VariableName.{VariableName}
use Rattle.task_ast.specs.declared.names.FunctionName.{FunctionName}
use Rattle.cost_bound.specs.Table.{statement_price, cycles_column, words_column}
use Rattle.cost_bound.specs.Counts.{CheckedBlock, emits_of, routine_words}
use Rattle.cost_bound.specs.Summaries.{summaries}
use Rattle.cost_bound.specs.Allowance.{CheckedProgram, CheckedTask, bound_of, words_of, stack_words, versions_of, list_of, greatest}

abbrev pub named : Variable → VariableName
named v = record { span = nowhere; variable = v; word_type = Unsigned }

abbrev pub x : VariableName
x = named (Shared 0)

abbrev pub y : VariableName
y = named (Shared 1)

abbrev pub z : VariableName
z = named (Shared 2)

abbrev pub w : VariableName
w = named (Shared 3)

abbrev pub i : VariableName
i = named (Local 0)

abbrev pub j : VariableName
j = named (Local 1)

-- a long
abbrev pub l : VariableName
l = record { span = nowhere; variable = Shared 0; word_type = Long }

-- the function of a number
abbrev pub called : ℕ → FunctionName
called n = record { span = nowhere; function = n; word_type = Unsigned }

abbrev pub goes_to : ℕ → CheckedBlock
goes_to n = t.step (t.transition nowhere (record { span = nowhere; task = n })) t.end

abbrev pub declared : Extent → SharedDeclaration
declared extent = record { word_type = Unsigned; name = nowhere; extent = extent }

abbrev pub source_with : List CheckedFunction → List SharedDeclaration → List CheckedBlock → CheckedProgram
source_with functions shared codes =
    record { shared = shared; functions = functions; tasks = tasks_of codes; entry = record { span = nowhere; task = 0 } }
  where
    tasks_of : List CheckedBlock → List CheckedTask
    tasks_of [] = []
    tasks_of (c ∷ cs) = record { name = nowhere; body = c } ∷ tasks_of cs

-- `x = sense();` and the transition
abbrev pub senses : CheckedBlock
senses = t.step (t.assign x t.sense) (goes_to 1)

-- a source without functions
abbrev pub source : List SharedDeclaration → List CheckedBlock → CheckedProgram
source shared codes = source_with [] shared codes

-- `x = x + sense(); emit(x); transition_to(..);`
abbrev pub running_sum : CheckedProgram
running_sum = source (declared (Scalar 0) ∷ [])
    (t.step (t.assign x (t.binary (here Add) (t.name x) t.sense)) (t.step (t.emit (t.name x)) (goes_to 0)) ∷ [])

-- `for (i = 0; i < 64; i++) { x[0] = x[0] + 1; } transition_to(..);`, where x has 64 elements
abbrev pub one_element : CheckedProgram
one_element = source (declared (Array 64) ∷ [])
    (t.step (t.declare Unsigned i None)
    (t.step (t.loop i 0 i 64 i (t.step (t.store x (t.number 0) (t.binary (here Add) (t.element x (t.number 0)) (t.number 1))) t.end)) (goes_to 0)) ∷ [])

-- `y = sense(); if (y > 9) { x = 1; } transition_to(..);` and a task that senses
abbrev pub threshold : CheckedProgram
threshold = source (declared (Scalar 0) ∷ declared (Scalar 0) ∷ [])
    (t.step (t.assign y t.sense)
    (t.step (t.choose (t.test (t.binary (here Greater) (t.name y) (t.number 9)) (t.step (t.assign x (t.number 1)) t.end) t.nothing)) (goes_to 1)) ∷ senses ∷ [])

-- `x = x + 1; y = y + 2; transition_to(..);` and a task that senses
abbrev pub two_sums : CheckedProgram
two_sums = source (declared (Scalar 0) ∷ declared (Scalar 0) ∷ [])
    (t.step (t.assign x (t.binary (here Add) (t.name x) (t.number 1))) (t.step (t.assign y (t.binary (here Add) (t.name y) (t.number 2))) (goes_to 1)) ∷
    senses ∷ [])

-- `x[0] = 1; transition_to(..);`, where x has so many elements
abbrev pub one_store : ℕ → CheckedProgram
one_store length = source (declared (Array length) ∷ []) (t.step (t.store x (t.number 0) (t.number 1)) (goes_to 0) ∷ [])

-- `for (i = 0; i < 65535; i++) { for (j = 0; j < 65535; j++) { x = 1; } } transition_to(..);`
abbrev pub two_loops : CheckedProgram
two_loops = source (declared (Scalar 0) ∷ [])
    (t.step (t.loop i 0 i 65535 i (t.step (t.loop j 0 j 65535 j (t.step (t.assign x (t.number 1)) t.end)) t.end)) (goes_to 0) ∷ [])

-- the cycles of a statement, and its words in a task that assigns two shared scalars
abbrev pub priced : CheckedStatement → ℕ × ℕ
priced s = (statement_price [] cycles_column s, statement_price [] (words_column 2) s)

abbrev pub emits : CheckedExpression → ℕ × ℕ
emits e = priced (t.emit e)

abbrev pub sums : BinaryOperator → CheckedExpression
sums op = t.binary (here op) (t.name x) t.sense

abbrev pub sets : CheckedBlock
sets = t.step (t.assign x (t.number 1)) t.end

abbrev pub sets_twice : CheckedBlock
sets_twice = t.step (t.assign x (t.number 1)) sets

-- each line of the table
pub record PriceRows : Type 0 where
  pub number : emits (t.number 7) ≡ (100, 40)
  pub scalar : emits (t.name x) ≡ (100, 40)
  pub reading : emits t.sense ≡ (100, 40)
  pub event : emits t.next_event ≡ (140, 64)
  pub unary : emits (t.unary Negate (t.name x)) ≡ (140, 56)
  pub sum : emits (sums Add) ≡ (180, 72)
  pub comparison : emits (sums Greater) ≡ (180, 72)
  pub short_circuit : emits (t.short_circuit BothHold (t.name x) t.sense) ≡ (180, 72)
  pub shift : emits (t.shift Left (t.name x) (record { value = 3; span = nowhere })) ≡ (200, 56)
  pub product : emits (sums Multiply) ≡ (440, 72)
  pub quotient : emits (sums Divide) ≡ (540, 72)
  pub remainder : emits (sums Remainder) ≡ (540, 72)
  pub element : emits (t.element y (t.name x)) ≡ (160, 64)
  pub declaration : priced (t.declare Unsigned i None) ≡ (0, 0)
  pub declaration_with_value : priced (t.declare Unsigned i (Some (t.number 1))) ≡ (80, 40)
  pub assignment : priced (t.assign x (t.number 1)) ≡ (80, 40)
  pub store : priced (t.store y (t.number 0) (t.name x)) ≡ (200, 92)
  -- a function with no values, and two, where nothing is known of it
  pub call : emits (t.call (called 0) t.no_value) ≡ (120, 48)
  pub call_of_two : emits (t.call (called 0) (t.value (t.name x) (t.value (t.number 1) t.no_value))) ≡ (200, 88)
  pub give : priced (t.give nowhere (t.name x)) ≡ (80, 40)
  pub transition : priced (t.transition nowhere (record { span = nowhere; task = 0 })) ≡ (100, 72)
  -- the cycles of the greatest block, which is the one in the middle, and the words of all
  pub choice : priced (t.choose (t.test (t.name x) sets (t.test (t.name x) sets_twice (t.otherwise sets)))) ≡ (280, 240)
  pub choice_without_else : priced (t.choose (t.test (t.name x) t.end t.nothing)) ≡ (80, 40)
  pub loop : priced (t.loop i 2 i 5 i sets) ≡ (400, 64)
  pub loop_of_no_turns : priced (t.loop i 5 i 5 i sets) ≡ (40, 64)

-- what is long, and what has a long part
pub record LongPriceRows : Type 0 where
  pub number : emits (t.long_number 7) ≡ (140, 56)
  pub scalar : emits (t.name l) ≡ (140, 56)
  pub unary : emits (t.unary Negate (t.name l)) ≡ (220, 88)
  pub sum : emits (t.binary (here Add) (t.name l) t.sense) ≡ (260, 104)
  pub sum_on_the_right : emits (t.binary (here Add) t.sense (t.name l)) ≡ (260, 104)
  pub comparison : emits (t.binary (here Greater) (t.name l) t.sense) ≡ (260, 104)
  -- the sum is of one word, since a comparison is; only the comparison has a long part
  pub part_of_a_part : emits (t.binary (here Add) (t.binary (here Greater) (t.name l) t.sense) t.sense) ≡ (340, 136)
  pub short_circuit : emits (t.short_circuit BothHold (t.name l) t.sense) ≡ (260, 104)
  pub shift : emits (t.shift Left (t.name l) (record { value = 3; span = nowhere })) ≡ (540, 88)
  pub declaration_with_value : priced (t.declare Unsigned i (Some (t.name l))) ≡ (120, 56)
  pub assignment : priced (t.assign l (t.number 1)) ≡ (120, 56)
  pub assignment_of_a_long : priced (t.assign x (t.name l)) ≡ (120, 56)
  pub condition : priced (t.choose (t.test (t.name l) t.end t.nothing)) ≡ (140, 64)

-- `l = l + sense(); x = l >> 16; transition_to(..);`, where l is a long
abbrev pub long_sum : CheckedProgram
long_sum = source (record { word_type = Long; name = nowhere; extent = extent.Long 65535 } ∷ declared (Scalar 0) ∷ [])
    (t.step (t.assign l (t.binary (here Add) (t.name l) t.sense))
    (t.step (t.assign y (t.shift Right (t.name l) (record { value = 16; span = nowhere }))) (goes_to 0)) ∷ [])

-- Of two arrays of 4 and 8 elements, y and z: ten stores to y in a loop, two to z, and the scalar x assigned twice. Then a task that
-- assigns x once more, and loops over no turn in which it would store to z. A third array is only read.
abbrev pub several : CheckedProgram
several = source (declared (Scalar 0) ∷ declared (Array 4) ∷ declared (Array 8) ∷ declared (Array 16) ∷ [])
    (t.step (t.loop i 0 i 10 i (t.step (t.store y (t.number 0) (t.element w (t.number 1))) t.end))
    (t.step (t.store z (t.number 0) (t.number 1)) (t.step (t.store z (t.number 1) (t.number 1))
    (t.step (t.assign x (t.number 1)) (t.step (t.assign x (t.number 2)) (goes_to 1)))))
    ∷ t.step (t.assign x (t.number 3)) (t.step (t.loop i 5 i 5 i (t.step (t.store z (t.number 0) (t.number 1)) t.end)) (goes_to 0)) ∷ [])

-- `y = sense(); x = x + next_event(); transition_to(..);`, where y is a local
abbrev pub event_sum : CheckedProgram
event_sum = source (declared (Scalar 0) ∷ [])
    (t.step (t.declare Unsigned i (Some t.sense)) (t.step (t.assign x (t.binary (here Add) (t.name x) t.next_event)) (goes_to 0)) ∷ [])

-- the same twice over, where the first has its event in the block of a loop without a turn
abbrev pub two_events : CheckedProgram
two_events = source (declared (Scalar 0) ∷ [])
    (t.step (t.loop i 5 i 5 i (t.step (t.assign x t.next_event) t.end)) (goes_to 1) ∷ t.step (t.assign x t.next_event) (goes_to 0) ∷ [])

-- ---- functions

-- a call with one value
abbrev pub calls : ℕ → CheckedExpression → CheckedExpression
calls n e = t.call (called n) (t.value e t.no_value)

-- an unsigned function of one parameter, which is its local 0
abbrev pub function_of : CheckedBlock → CheckedFunction
function_of body = record { word_type = Unsigned; name = nowhere; parameters = record { word_type = Unsigned; name = i } ∷ []; body = body }

abbrev pub gives : CheckedExpression → CheckedBlock
gives e = t.step (t.give nowhere e) t.end

-- `twice(i) { x = x + 1; return i + i; }`
abbrev pub twice : CheckedFunction
twice = function_of (t.step (t.assign x (t.binary (here Add) (t.name x) (t.number 1))) (gives (t.binary (here Add) (t.name i) (t.name i))))

-- `emit(twice(sense()) + x); transition_to(..);`
abbrev pub one_call : CheckedProgram
one_call = source_with (twice ∷ []) (declared (Scalar 0) ∷ [])
    (t.step (t.emit (t.binary (here Add) (calls 0 t.sense) (t.name x))) (goes_to 0) ∷ [])

-- `sent(i) { emit(i); return i; }`, and `again(i) { return sent(i) + sent(twice(i)); }` behind `twice`, with a function that nothing calls
abbrev pub sent : CheckedFunction
sent = function_of (t.step (t.emit (t.name i)) (gives (t.name i)))

abbrev pub again : CheckedFunction
again = function_of (gives (t.binary (here Add) (calls 1 (t.name i)) (calls 1 (calls 0 (t.name i)))))

-- `if (again(1)) { } else if (sent(2)) { emit(again(3)); } transition_to(..);`, and `stored(i) { y[0] = i; return i; }`, which nothing calls
abbrev pub chain : CheckedProgram
chain = source_with (twice ∷ sent ∷ again ∷ function_of (t.step (t.store y (t.number 0) (t.name i)) (gives (t.name i))) ∷ [])
    (declared (Scalar 0) ∷ declared (Array 8) ∷ [])
    (t.step (t.choose (t.test (calls 2 (t.number 1)) t.end
    (t.test (calls 1 (t.number 2)) (t.step (t.emit (calls 2 (t.number 3))) t.end) t.nothing))) (goes_to 0) ∷ [])

abbrev pub only_task : CheckedProgram → CheckedBlock
only_task p = first_of p.tasks
  where
    first_of : List CheckedTask → CheckedBlock
    first_of [] = t.end
    first_of (task ∷ _) = task.body

pub record AllowanceRows : Type 0 where
  -- 400, one scalar 72, its code 360, one entry 40, one emit 40
  pub running_sum_bound : bound_of running_sum ≡ 912
  -- 400, 64 versions 768, the code 40 + 64 · 380 + 100, and 64 entries of 40
  pub one_element_bound : bound_of one_element ≡ 28188
  pub threshold_bound : bound_of threshold ≡ 1044
  pub two_sums_bound : bound_of two_sums ≡ 1044
  pub one_store_words : (length : ℕ) → 1 ≤ length → words_of (one_store length) ≡ 935 + 3 * length
  pub two_loops_bound : bound_of two_loops ≡ 515385590452
  pub running_sum_words : words_of running_sum ≡ 990
  -- 60, 400, one scalar 72, its code 80 + 200 + 100, and one entry 40
  pub event_sum_bound : bound_of event_sum ≡ 952
  -- 800, the code 216 + 40 + 96 + 56, the places 2, and one entry of 3
  pub event_sum_words : words_of event_sum ≡ 1213
  -- 60, 400, one scalar 72, the code 120 + 100 of the second task, and one entry 40
  pub two_events_bound : bound_of two_events ≡ 792
  -- 800, the code 216 + 88 + 56 and 216 + 64 + 56, the places 2, and one entry of 3
  pub two_events_words : words_of two_events ≡ 1501
  -- 12 versions; one scalar, the 4 elements of y and two stores to z
  pub several_versions : versions_of several ≡ 12
  pub several_list : greatest (list_of [] several.shared) several.tasks ≡ 7
  -- 400, the versions 144, one scalar 72, the code 40 + 10 · 300 + 2 · 200 + 2 · 80 + 100, and 7 entries of 40
  pub several_bound : bound_of several ≡ 4596
  -- 400, a long and a scalar 216, the code 280 + 520 + 100, and three entries of 40
  pub long_sum_bound : bound_of long_sum ≡ 1636
  -- 600, the code 200 + 48 + 120 + 88 + 88, the places 6, and three entries of 3
  pub long_sum_words : words_of long_sum ≡ 1159
  -- 400, one scalar 72, the code 60 + 40 + (60 + 40 + 160 + 160) + 40 + 100, one entry 40, and one emit 40
  pub one_call_bound : bound_of one_call ≡ 1212
  -- 600, the task 216 + 24 + 16 + (24 + 4 + 16) + 16 + 56, its copy of the function 40 + 72 + 72, the places 2, an entry of 3, and an emit
  pub one_call_words : words_of one_call ≡ 1162
  -- the frame of the task 2 · 4 + 4, that of the function 1 + 2 · 3 + 4, and 16
  pub one_call_stack : stack_words one_call ≡ 39
  -- 2 in the first condition and 1 in the second, and 3 in the block
  pub chain_emits : greatest (emits_of (summaries chain)) chain.tasks ≡ 6
  -- the body of each of three functions once, however often they are called; nothing of the fourth
  pub chain_routines : routine_words (summaries chain) (only_task chain) ≡ 40 + 144 + 40 + 80 + 40 + 156
  -- the frame of the task 2 · 2 + 4, of `again` 1 + 2 · 6 + 4, of `twice` 1 + 2 · 3 + 4, and 16
  pub chain_stack : stack_words chain ≡ 52
  pub chain_versions : versions_of chain ≡ 0
