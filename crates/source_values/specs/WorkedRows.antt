-- Worked examples of values, types and statements, as the definitions give them.
use Rattle.std.specs.Prelude.{◌≡◌, ℕ, List, [], ◌∷◌, Some, None}
use Rattle.task_ast.specs.Worked.{nowhere, here}
use Rattle.task_ast.specs.Tree.{number, long_number, name, element, sense, next_event, unary, binary, shift, short_circuit, declare, assign, store, loop, emit}
use Rattle.task_ast.specs.Tree.{transition, end, step}
use Rattle.task_ast.specs.declared.WordType.TheVariants.{Unsigned, Int, Long}
use Rattle.task_ast.specs.declared.UnaryOperator.TheVariants.{Negate, Complement, Not}
use Rattle.task_ast.specs.declared.BinaryOperator.TheVariants.{Divide, Remainder, Add, Subtract, Less, GreaterEqual, Equal, And, Xor, Or}
use Rattle.task_ast.specs.declared.ShiftOperator.TheVariants.{Left, Right}
use Rattle.task_ast.specs.declared.ShortCircuitOperator.TheVariants as short_circuit_operator
use Rattle.task_ast.specs.declared.Literal.{Literal}
use Rattle.task_ast.specs.declared.Extent.TheVariants as extent
use Rattle.task_ast.specs.declared.names.Variable.TheVariants.{Shared, Local}
use Rattle.task_ast.specs.declared.names.VariableName.{VariableName}
use Rattle.source_values.specs.Values.{Variables, Attempt, gives, value_of, type_of}
use Rattle.source_values.specs.Statements.{goes_on, to_task, short, run_statement, run_block}
use Rattle.source_values.specs.Runs.{State, Completion, exactly, initial_words}

-- `shared int p = -3; shared unsigned a[2];` and a local
abbrev pub p : VariableName
p = record { span = nowhere; variable = Shared 0; word_type = Int }

abbrev pub a : VariableName
a = record { span = nowhere; variable = Shared 1; word_type = Unsigned }

abbrev pub i : VariableName
i = record { span = nowhere; variable = Local 0; word_type = Unsigned }

abbrev pub words : Variables
words = record { shared = (65533 ∷ []) ∷ (5 ∷ 6 ∷ []) ∷ []; locals = 7 ∷ [] }

abbrev pub by_one : Literal
by_one = record { value = 1; span = nowhere }

abbrev pub by : ℕ → Literal
by count = record { value = count; span = nowhere }

-- `shared int p = -3; shared unsigned long l = 4294967295UL;` and a local
abbrev pub l : VariableName
l = record { span = nowhere; variable = Shared 1; word_type = Long }

abbrev pub longs_are : ℕ → ℕ → ℕ → ℕ → Variables
longs_are word low high local = record { shared = (word ∷ []) ∷ (low ∷ high ∷ []) ∷ []; locals = local ∷ [] }

abbrev pub longs : Variables
longs = longs_are 65533 65535 65535 7

-- an attempt on these words that has these readings left, and no answers
abbrev pub attempt : Variables → List ℕ → List ℕ → Attempt
attempt m emitted left = record { variables = m; emitted = emitted; left = left; answers = [] }

-- the same where nothing is emitted
abbrev pub on : Variables → List ℕ → Attempt
on m left = attempt m [] left

-- and where these answers are left beside the readings
abbrev pub answered : List ℕ → List ℕ → Attempt
answered left answers = record (on words left) { answers = answers }

-- a state, and a task from it on that came to a transition with these readings and answers left
abbrev pub first : State
first = record { shared = words.shared; task = 0; emitted = [] }

abbrev pub completed : List ℕ → List ℕ → Completion
completed left answers = record { next = 2; shared = words.shared; emitted = []; left = left; answers = answers }

abbrev pub locals_are : ℕ → Variables
locals_are w = record { shared = (65533 ∷ []) ∷ (5 ∷ 6 ∷ []) ∷ []; locals = w ∷ [] }

-- what the definitions give
pub record WorkedRows : Type 0 where
  pub sums_wrap : value_of [] (binary (here Add) (number 65535) (number 1)) (on words []) ≡ gives 0 (on words [])
  pub quotient_by_zero : value_of [] (binary (here Divide) (number 7) (number 0)) (on words []) ≡ gives 65535 (on words [])
  pub remainder_by_zero : value_of [] (binary (here Remainder) (number 7) (number 0)) (on words []) ≡ gives 7 (on words [])
  pub quotient_is_unsigned : value_of [] (binary (here Divide) (name p) (number 2)) (on words []) ≡ gives 32766 (on words [])
  pub shift_of_int : value_of [] (shift Right (name p) by_one) (on words []) ≡ gives 65534 (on words [])
  pub shift_of_unsigned : value_of [] (shift Right (binary (here Add) (name p) sense) by_one) (on words (0 ∷ [])) ≡ gives 32766 (on words [])
  pub less_of_ints : value_of [] (binary (here Less) (name p) (number 2)) (on words []) ≡ gives 1 (on words [])
  pub less_of_int_and_unsigned : value_of [] (binary (here Less) (name p) (number 40000)) (on words []) ≡ gives 0 (on words [])
  pub literals : (type_of (number 32767) ≡ Int) × (type_of (number 32768) ≡ Unsigned) × (type_of (unary Negate (number 40000)) ≡ Unsigned)
      × (type_of (unary Not (number 40000)) ≡ Int)
  pub index_at_the_length_reads_0 : value_of [] (element a (number 2)) (on words []) ≡ gives 0 (on words [])
  pub readings_from_the_left : value_of [] (binary (here Less) sense sense) (on words (1 ∷ 2 ∷ 3 ∷ [])) ≡ gives 1 (on words (3 ∷ []))
  pub and_leaves_the_right_side : value_of [] (short_circuit short_circuit_operator.And (number 0) sense) (on words (9 ∷ [])) ≡ gives 0 (on words (9 ∷ []))
  pub and_takes_the_right_side : value_of [] (short_circuit short_circuit_operator.And (number 3) sense) (on words (9 ∷ [])) ≡ gives 1 (on words [])
  pub or_leaves_the_right_side : value_of [] (short_circuit short_circuit_operator.Or (number 3) sense) (on words (9 ∷ [])) ≡ gives 1 (on words (9 ∷ []))
  pub answers_from_the_left : value_of [] (binary (here Subtract) next_event next_event) (answered (7 ∷ []) (9 ∷ 4 ∷ 2 ∷ []))
      ≡ gives 5 (answered (7 ∷ []) (2 ∷ []))
  pub too_few_readings : value_of [] (binary (here Add) sense sense) (on words (7 ∷ [])) ≡ None
  pub index_at_the_length_writes_nothing : run_statement [] (store a (number 2) (number 1)) (attempt words [] []) ≡ goes_on (attempt words [] [])
  pub index_before_value : run_statement [] (store a sense sense) (attempt words [] (1 ∷ 9 ∷ []))
      ≡ goes_on (attempt (record { shared = (65533 ∷ []) ∷ (5 ∷ 9 ∷ []) ∷ []; locals = 7 ∷ [] }) [] [])
  pub turns_of_a_loop : run_statement [] (loop i 1 i 4 i (step (emit (name i)) end)) (attempt words [] [])
      ≡ goes_on (attempt (locals_are 4) (1 ∷ 2 ∷ 3 ∷ []) [])
  pub no_turns : run_statement [] (loop i 4 i 1 i (step (emit (name i)) end)) (attempt words [] []) ≡ goes_on (attempt (locals_are 4) [] [])
  pub nothing_behind_a_transition :
      run_block [] (step (transition nowhere (record { span = nowhere; task = 2 })) (step (emit (number 1)) end)) (attempt words [] [])
      ≡ to_task 2 (attempt words [] [])
  pub short_of_a_reading : run_block [] (step (emit sense) end) (attempt words [] []) ≡ short
  pub zero_behind_the_last_answer : run_block [] (step (emit next_event) (step (emit next_event) (step (emit next_event) end))) (answered [] (9 ∷ 4 ∷ []))
      ≡ goes_on (attempt words (9 ∷ 4 ∷ 0 ∷ []) [])
  pub an_answer_left_over : exactly first (completed [] (4 ∷ [])) ≡ None
  pub shared_words_start_at_0 : initial_words (extent.Array 2) ≡ 0 ∷ 0 ∷ []
  pub long_scalar : value_of [] (name l) (on longs []) ≡ gives 4294967295 (on longs [])
  pub long_sums_wrap : value_of [] (binary (here Add) (name l) (number 1)) (on longs []) ≡ gives 0 (on longs [])
  pub long_differences_wrap : value_of [] (binary (here Subtract) (number 0) (long_number 1)) (on longs []) ≡ gives 4294967295 (on longs [])
  pub int_becomes_long_by_its_sign : value_of [] (binary (here Add) (long_number 5) (name p)) (on longs []) ≡ gives 2 (on longs [])
  pub unsigned_becomes_long_by_zeros : value_of [] (binary (here Add) sense (long_number 5)) (on longs (65533 ∷ [])) ≡ gives 65538 (on longs [])
  pub long_negation : value_of [] (unary Negate (long_number 1)) (on longs []) ≡ gives 4294967295 (on longs [])
  pub long_complement : value_of [] (unary Complement (long_number 1)) (on longs []) ≡ gives 4294967294 (on longs [])
  pub not_of_a_long : value_of [] (unary Not (long_number 65536)) (on longs []) ≡ gives 0 (on longs [])
  pub long_bits : (value_of [] (binary (here And) (name l) (long_number 65536)) (on longs []) ≡ gives 65536 (on longs []))
      × (value_of [] (binary (here Or) (long_number 65536) (number 1)) (on longs []) ≡ gives 65537 (on longs []))
      × (value_of [] (binary (here Xor) (name l) (long_number 65537)) (on longs []) ≡ gives 4294901758 (on longs []))
  pub longs_compare_unsigned : value_of [] (binary (here Less) (name p) (name l)) (on longs []) ≡ gives 1 (on longs [])
  pub longs_compare_by_the_high_word : value_of [] (binary (here GreaterEqual) (long_number 65536) (number 9)) (on longs []) ≡ gives 1 (on longs [])
  pub longs_are_equal_in_both_words : value_of [] (binary (here Equal) (long_number 65536) (number 0)) (on longs []) ≡ gives 0 (on longs [])
  pub long_shifts : (value_of [] (shift Left (long_number 1) (by 31)) (on longs []) ≡ gives 2147483648 (on longs []))
      × (value_of [] (shift Left (name l) (by 1)) (on longs []) ≡ gives 4294967294 (on longs []))
      × (value_of [] (shift Right (name l) (by 17)) (on longs []) ≡ gives 32767 (on longs []))
  pub long_types : (type_of (binary (here Add) (name p) (long_number 0)) ≡ Long) × (type_of (binary (here Add) sense (name l)) ≡ Long)
      × (type_of (binary (here Less) (name l) (name l)) ≡ Int) × (type_of (unary Not (name l)) ≡ Int) × (type_of (shift Right (name l) (by 1)) ≡ Long)
  pub long_takes_an_int : run_statement [] (assign l (name p)) (attempt longs [] []) ≡ goes_on (attempt (longs_are 65533 65533 65535 7) [] [])
  pub word_takes_the_low_word : run_statement [] (assign p (long_number 65541)) (attempt longs [] []) ≡ goes_on (attempt (longs_are 5 65535 65535 7) [] [])
  pub local_takes_the_low_word : run_statement [] (declare Int i (Some (long_number 65538))) (attempt longs [] [])
      ≡ goes_on (attempt (longs_are 65533 65535 65535 2) [] [])
  pub emits_the_low_word : run_statement [] (emit (long_number 65543)) (attempt longs [] []) ≡ goes_on (attempt longs (7 ∷ []) [])
  pub long_starts_low_word_first : initial_words (extent.Long 65538) ≡ 2 ∷ 1 ∷ []
