-- Worked examples of calls, as the definitions give them.
use Rattle.std.specs.Prelude.{◌≡◌, ℕ, List, [], ◌∷◌, None}
use Rattle.task_ast.specs.Answers.{answers}
use Rattle.task_ast.specs.Paths.{CheckedExpression, CheckedValues, CheckedBlock, CheckedFunction}
use Rattle.task_ast.specs.Worked.{nowhere, here}
use Rattle.task_ast.specs.Tree.{number, name, element, sense, call, binary, short_circuit, no_value, assign, store, choose, loop, emit, give}
use Rattle.task_ast.specs.Tree.{nothing, test, end, step}
use Rattle.task_ast.specs.Tree as t
use Rattle.task_ast.specs.declared.WordType.TheVariants.{Unsigned}
use Rattle.task_ast.specs.declared.BinaryOperator.TheVariants.{Add, Subtract, Multiply, Equal}
use Rattle.task_ast.specs.declared.ShortCircuitOperator.TheVariants.{And, Or}
use Rattle.task_ast.specs.declared.names.Variable.TheVariants.{Shared, Local}
use Rattle.task_ast.specs.declared.names.VariableName.{VariableName}
use Rattle.source_values.specs.Values.{Meaning, Attempt, gives, value_of}
use Rattle.source_values.specs.Statements.{goes_on, short, run_statement, run_block, meaning_of, function_emits, statement_emits}

-- `shared unsigned x; shared unsigned a[2];`, and three locals
abbrev pub x : VariableName
x = record { span = nowhere; variable = Shared 0; word_type = Unsigned }

abbrev pub a : VariableName
a = record { span = nowhere; variable = Shared 1; word_type = Unsigned }

abbrev pub local : ℕ → VariableName
local n = record { span = nowhere; variable = Local n; word_type = Unsigned }

-- an attempt where these are the words of x, a and the first local, with these words emitted and readings left
abbrev pub on : (word first second own : ℕ) → (emitted left : List ℕ) → Attempt
on word first second own emitted left = record {
  variables = record { shared = (word ∷ []) ∷ (first ∷ second ∷ []) ∷ []; locals = own ∷ [] };
  emitted = emitted;
  left = left;
  answers = [];
}

-- a function that does this
abbrev pub does : CheckedBlock → CheckedFunction
does body = record { word_type = Unsigned; name = nowhere; parameters = []; body = body }

-- `{ x = v; return v + 1; }` of a parameter v
abbrev pub set : CheckedFunction
set = does (step (assign x (name (local 0))) (step (give nowhere (binary (here Add) (name (local 0)) (number 1))) end))

-- `{ x = x + 1; return x; }`
abbrev pub up : CheckedFunction
up = does (step (assign x (binary (here Add) (name x) (number 1))) (step (give nowhere (name x)) end))

-- `{ return v - w; }` of two parameters
abbrev pub minus : CheckedFunction
minus = does (step (give nowhere (binary (here Subtract) (name (local 0)) (name (local 1)))) end)

-- `{ for (i = 0; i < 9; i++) { emit(i); if (i == v) { return i * 10; } } return 99; }`
abbrev pub until : CheckedFunction
until = does (step (loop (local 1) 0 (local 1) 9 (local 1) (step (emit (name (local 1)))
    (step (choose (test (binary (here Equal) (name (local 1)) (name (local 0)))
    (step (give nowhere (binary (here Multiply) (name (local 1)) (number 10))) end) nothing)) end)))
    (step (give nowhere (number 99)) end))

-- `{ emit(1); return sense(); }`
abbrev pub heard : CheckedFunction
heard = does (step (emit (number 1)) (step (give nowhere sense) end))

abbrev pub called : ℕ → CheckedValues → CheckedExpression
called k values = call (record { span = nowhere; function = k; word_type = Unsigned }) values

-- one value, and two
abbrev pub one : CheckedExpression → CheckedValues
one e = t.value e no_value

abbrev pub two : CheckedExpression → CheckedExpression → CheckedValues
two e f = t.value e (t.value f no_value)

-- `{ x = x + 10; return set(v) + set(9); }`, which calls the first
abbrev pub both : CheckedFunction
both = does (step (assign x (binary (here Add) (name x) (number 10)))
    (step (give nowhere (binary (here Add) (called 0 (one (name (local 0)))) (called 0 (one (number 9))))) end))

-- all of them, in this order
abbrev pub functions : List CheckedFunction
functions = set ∷ up ∷ minus ∷ until ∷ heard ∷ both ∷ []

abbrev pub known : List Meaning
known = answers meaning_of functions

-- what the definitions give
pub record WorkedCalls : Type 0 where
  -- `x + set(7) + x` where x is 1: each part sees what those before it changed, and the caller has its own local again
  pub parts_from_the_left : value_of known (binary (here Add) (binary (here Add) (name x) (called 0 (one (number 7)))) (name x)) (on 1 5 6 3 [] [])
      ≡ gives 16 (on 7 5 6 3 [] [])
  -- `x = x + set(9)` reads x first
  pub target_behind_the_value : run_statement known (assign x (binary (here Add) (name x) (called 0 (one (number 9))))) (on 7 5 6 3 [] [])
      ≡ goes_on (on 17 5 6 3 [] [])
  -- `a[up()] = up()` where x is 0: the index before the value
  pub index_before_value : run_statement known (store a (called 1 no_value) (called 1 no_value)) (on 0 5 6 3 [] []) ≡ goes_on (on 2 5 2 3 [] [])
  pub values_from_the_left : value_of known (called 2 (two sense sense)) (on 1 5 6 3 [] (9 ∷ 4 ∷ 2 ∷ [])) ≡ gives 5 (on 1 5 6 3 [] (2 ∷ []))
  pub and_leaves_a_call : value_of known (short_circuit And (number 0) (called 1 no_value)) (on 1 5 6 3 [] []) ≡ gives 0 (on 1 5 6 3 [] [])
  pub or_leaves_a_call : value_of known (short_circuit Or (number 2) (called 1 no_value)) (on 1 5 6 3 [] []) ≡ gives 1 (on 1 5 6 3 [] [])
  pub and_asks_a_call : value_of known (short_circuit And (number 1) (called 1 no_value)) (on 1 5 6 3 [] []) ≡ gives 1 (on 2 5 6 3 [] [])
  pub return_leaves_a_loop : value_of known (called 3 (one (number 2))) (on 1 5 6 3 [] []) ≡ gives 20 (on 1 5 6 3 (0 ∷ 1 ∷ 2 ∷ []) [])
  pub loop_without_a_return : value_of known (called 3 (one (number 20))) (on 1 5 6 3 [] [])
      ≡ gives 99 (on 1 5 6 3 (0 ∷ 1 ∷ 2 ∷ 3 ∷ 4 ∷ 5 ∷ 6 ∷ 7 ∷ 8 ∷ []) [])
  pub reading_in_a_function : value_of known (binary (here Subtract) (called 4 no_value) (called 4 no_value)) (on 1 5 6 3 [] (5 ∷ 7 ∷ 8 ∷ []))
      ≡ gives 65534 (on 1 5 6 3 (1 ∷ 1 ∷ []) (8 ∷ []))
  pub too_few_readings : value_of known (binary (here Add) (called 4 no_value) (called 4 no_value)) (on 1 5 6 3 [] (5 ∷ [])) ≡ None
  pub short_in_a_function : run_block known (step (emit (called 4 no_value)) end) (on 1 5 6 3 [] []) ≡ short
  pub call_of_one_in_front : value_of known (called 5 (one (number 4))) (on 1 5 6 3 [] []) ≡ gives 15 (on 9 5 6 3 [] [])
  pub no_such_function : value_of known (called 6 no_value) (on 1 5 6 3 [] []) ≡ None
  -- `emit(until(1)); if (heard()) { emit(2); }`
  pub counts_of_emits : answers function_emits functions ≡ 0 ∷ 0 ∷ 0 ∷ 9 ∷ 1 ∷ 0 ∷ []
  pub emits_of_a_call : statement_emits (answers function_emits functions) (emit (called 3 (one (number 1)))) ≡ 10
  pub emits_of_a_condition : statement_emits (answers function_emits functions)
      (choose (test (called 4 no_value) (step (emit (number 2)) end) nothing)) ≡ 2
