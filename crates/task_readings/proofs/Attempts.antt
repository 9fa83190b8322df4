-- An attempt takes no more readings than its text has, where its functions don't.
use Rattle.std.proofs.Common.{ℕ, zero, suc, ◌+◌, ◌-◌, ◌*◌, ◌/◌, ◌%◌, ◌<◌, ◌≤◌, max, [], ◌∷◌, ◌++◌, List, length, arith, Bool, true, false, slice_index}
use Rattle.std.proofs.Common.{if◌then◌else◌, Option, Some, None}
use Rattle.std.specs.List.{AllZip}
use Rattle.std.proofs.Math.Nat.{suc-mul}
use Rattle.task_ast.specs.Tree as t
use Rattle.task_ast.specs.Calls.{CallsAreBelow, ValuesCallBelow, StatementCallsBelow, ChoiceCallsBelow, BlockCallsBelow}
use Rattle.task_ast.specs.Paths.{CheckedExpression, CheckedValues, CheckedStatement, CheckedChoice, CheckedBlock, CheckedFunction}
use Rattle.task_ast.specs.declared.WordType.{WordType}
use Rattle.task_ast.specs.declared.WordType.TheVariants.{Unsigned, Int, Long}
use Rattle.task_ast.specs.declared.names.Variable.{Variable}
use Rattle.task_ast.specs.declared.names.VariableName.{VariableName}
use Rattle.source_values.specs.Values.{◌>>?◌, Evaluated, EvaluatedWords, Meaning, meaning_in, word_before, by_width, type_of, converted, holds, value_of}
use Rattle.source_values.specs.Values.{words_of}
use Rattle.source_values.specs.Values.{gives, made_of, reading_of, truth_word, is_settled, word_at, unary_result, binary_result, shift_result}
use Rattle.source_values.specs.Statements.{Attempt, Outcome, goes_on, to_task, returns, short, and_then, if_value, with_value, assigned, assigned_to}
use Rattle.source_values.specs.Statements.{assigned_value, word_of, turns, run_statement, run_choice, run_block, entered, left_with, meaning_of}
use Rattle.source_values.specs.Runs.{EndsReturning}
use Rattle.task_readings.specs.Readings.{expression_readings, values_readings, statement_readings, choice_readings, block_readings, function_readings}
use Rattle.task_readings.specs.Laws.{TakesUpTo}

-- of so many readings a value takes no more than this many; where there is none, this many were more
abbrev ValueTakes : ℕ → ℕ → Option Evaluated → Type 0
ValueTakes given most None = given < most
ValueTakes given most (Some x) = given ≤ length x.behind.left + most

-- one value behind another
value_then : (given a b : ℕ) (o : Option Evaluated) (f : Evaluated → Option Evaluated) → ValueTakes given a o
    → ((x : Evaluated) → ValueTakes (length x.behind.left) b (f x)) → ValueTakes given (a + b) (o >>? f)
value_then given a b None f h k = omega (arith, h)
value_then given a b (Some x) f h k = by (f x) (k x)
  where
    by : (o : Option Evaluated) → ValueTakes (length x.behind.left) b o → ValueTakes given (a + b) o
    by None l = omega (arith, h, l)
    by (Some y) l = omega (arith, h, l)

-- what is made of a value takes no more
value_made : (given n : ℕ) (f : ℕ → ℕ) (o : Option Evaluated) → ValueTakes given n o → ValueTakes given n (made_of f o)
value_made given n f None h = h
value_made given n f (Some x) h = h

value_either : (given n : ℕ) (b : Bool) (o p : Option Evaluated) → ValueTakes given n o → ValueTakes given n p → ValueTakes given n (if b then o else p)
value_either given n true o p h k = h
value_either given n false o p h k = k

reading_takes : (readings : List ℕ) (s : Attempt) → ValueTakes (length readings) 1 (reading_of readings s)
reading_takes [] s = omega arith
reading_takes (r ∷ rs) s = omega arith

-- a function takes no more than this many
abbrev pub FunctionTakes : Meaning → ℕ → Type 0
FunctionTakes m count = (words : List ℕ) (s : Attempt) → ValueTakes (length s.left) count (m words s)

-- each of these functions takes no more than its count
abbrev pub KnownTake : List Meaning → List ℕ → Type 0
KnownTake = AllZip FunctionTakes

known_takes : (known : List Meaning) (counts : List ℕ) → KnownTake known counts → (k : ℕ) → k < length known → (words : List ℕ) (s : Attempt)
    → ValueTakes (length s.left) (slice_index counts k) (meaning_in known k words s)
known_takes [] counts h k l words s = absurd (omega (arith, l))
known_takes (m ∷ known) [] h k l words s = absurd h
known_takes (m ∷ known) (n ∷ counts) h zero l words s = h.0 words s
known_takes (m ∷ known) (n ∷ counts) h (suc k) l words s = known_takes known counts h.1 k (omega (arith, l)) words s

-- the same of the words of a call
abbrev WordsTake : ℕ → ℕ → Option EvaluatedWords → Type 0
WordsTake given most None = given < most
WordsTake given most (Some x) = given ≤ length x.behind.left + most

call_then : (given a b : ℕ) (o : Option EvaluatedWords) (run : List ℕ → Attempt → Option Evaluated) → WordsTake given a o
    → ((words : List ℕ) (s : Attempt) → ValueTakes (length s.left) b (run words s)) → ValueTakes given (a + b) (o >>? λ x. run x.words x.behind)
call_then given a b None run h k = omega (arith, h)
call_then given a b (Some x) run h k = by (run x.words x.behind) (k x.words x.behind)
  where
    by : (o : Option Evaluated) → ValueTakes (length x.behind.left) b o → ValueTakes given (a + b) o
    by None l = omega (arith, h, l)
    by (Some y) l = omega (arith, h, l)

words_then : (given a b : ℕ) (w : ℕ → ℕ) (o : Option Evaluated) (rest : Attempt → Option EvaluatedWords) → ValueTakes given a o
    → ((s : Attempt) → WordsTake (length s.left) b (rest s))
    → WordsTake given (a + b) (o >>? λ x. rest x.behind >>? λ ws. Some (word_before (w x.value) ws))
words_then given a b w None rest h k = omega (arith, h)
words_then given a b w (Some x) rest h k = by (rest x.behind) (k x.behind)
  where
    by : (o : Option EvaluatedWords) → WordsTake (length x.behind.left) b o
        → WordsTake given (a + b) (o >>? λ ws. Some (word_before (w x.value) ws))
    by None l = omega (arith, h, l)
    by (Some y) l = omega (arith, h, l)

mutual
  value_takes : (known : List Meaning) (counts : List ℕ) → KnownTake known counts → (e : CheckedExpression) → CallsAreBelow (length known) e → (s : Attempt)
      → ValueTakes (length s.left) (expression_readings counts e) (value_of known e s)
  value_takes known counts h (t.number n) c s = omega arith
  value_takes known counts h (t.long_number n) c s = omega arith
  value_takes known counts h (t.name x) c s = omega arith
  value_takes known counts h (t.element x index) c s = by (value_of known index s) (value_takes known counts h index c s)
    where
      by : (o : Option Evaluated) → ValueTakes (length s.left) (expression_readings counts index) o
          → ValueTakes (length s.left) (expression_readings counts index) (o >>? λ i. gives (word_at i.behind.variables x.variable i.value) i.behind)
      by None h = h
      by (Some i) h = h
  value_takes known counts h t.sense c s = reading_takes s.left s
  value_takes known counts h t.next_event c s = omega arith
  value_takes known counts h (t.call f values) c s =
      call_then (length s.left) (values_readings counts values) (slice_index counts f.function) (words_of known values s) (meaning_in known f.function)
      (words_take known counts h values c.1 s) (known_takes known counts h f.function c.0)
  value_takes known counts h (t.unary op e) c s =
      value_made (length s.left) (expression_readings counts e) (λ w. unary_result op (type_of e) w) (value_of known e s) (value_takes known counts h e c s)
  value_takes known counts h (t.binary op a b) c s =
      value_then (length s.left) (expression_readings counts a) (expression_readings counts b) (value_of known a s)
      (λ x. made_of (λ w. binary_result op.operator (type_of a) (type_of b) x.value w) (value_of known b x.behind)) (value_takes known counts h a c.0 s)
      (λ x. value_made (length x.behind.left) (expression_readings counts b) (λ w. binary_result op.operator (type_of a) (type_of b) x.value w)
      (value_of known b x.behind) (value_takes known counts h b c.1 x.behind))
  value_takes known counts h (t.shift op e count) c s =
      value_made (length s.left) (expression_readings counts e) (λ w. shift_result op (type_of e) w count.value) (value_of known e s)
      (value_takes known counts h e c s)
  value_takes known counts h (t.short_circuit op a b) c s =
      value_then (length s.left) (expression_readings counts a) (expression_readings counts b) (value_of known a s)
      (λ x. if is_settled op x.value then gives (truth_word x.value) x.behind else made_of truth_word (value_of known b x.behind))
      (value_takes known counts h a c.0 s)
      (λ x. value_either (length x.behind.left) (expression_readings counts b) (is_settled op x.value) (gives (truth_word x.value) x.behind)
      (made_of truth_word (value_of known b x.behind)) (omega arith)
      (value_made (length x.behind.left) (expression_readings counts b) truth_word (value_of known b x.behind)
      (value_takes known counts h b c.1 x.behind)))

  words_take : (known : List Meaning) (counts : List ℕ) → KnownTake known counts → (values : CheckedValues) → ValuesCallBelow (length known) values
      → (s : Attempt) → WordsTake (length s.left) (values_readings counts values) (words_of known values s)
  words_take known counts h t.no_value c s = omega arith
  words_take known counts h (t.value e more) c s =
      words_then (length s.left) (expression_readings counts e) (values_readings counts more) (word_of e) (value_of known e s) (words_of known more)
      (value_takes known counts h e c.0 s) (words_take known counts h more c.1)

-- ---- statements

-- what goes on with a value
with_takes : (given a b : ℕ) (o : Option Evaluated) (next : ℕ → Attempt → Outcome) → ValueTakes given a o
    → ((w : ℕ) (s : Attempt) → TakesUpTo (length s.left) b (next w s)) → TakesUpTo given (a + b) (if_value o next)
with_takes given a b None next h k = omega (arith, h)
with_takes given a b (Some x) next h k = by (next x.value x.behind) (k x.value x.behind)
  where
    by : (o : Outcome) → TakesUpTo (length x.behind.left) b o → TakesUpTo given (a + b) o
    by (goes_on s) l = omega (arith, h, l)
    by (to_task task s) l = omega (arith, h, l)
    by (returns w s) l = omega (arith, h, l)
    by short l = omega (arith, h, l)

-- one statement behind another
then_takes : (given a b : ℕ) (o : Outcome) (next : Attempt → Outcome) → TakesUpTo given a o
    → ((s : Attempt) → TakesUpTo (length s.left) b (next s)) → TakesUpTo given (a + b) (and_then o next)
then_takes given a b (goes_on s) next h k = by (next s) (k s)
  where
    by : (o : Outcome) → TakesUpTo (length s.left) b o → TakesUpTo given (a + b) o
    by (goes_on u) l = omega (arith, h, l)
    by (to_task task u) l = omega (arith, h, l)
    by (returns w u) l = omega (arith, h, l)
    by short l = omega (arith, h, l)
then_takes given a b (to_task task s) next h k = omega (arith, h)
then_takes given a b (returns w s) next h k = omega (arith, h)
then_takes given a b short next h k = omega (arith, h)

-- more may be taken
takes_more : (given a b : ℕ) (o : Outcome) → a ≤ b → TakesUpTo given a o → TakesUpTo given b o
takes_more given a b (goes_on s) l h = omega (arith, l, h)
takes_more given a b (to_task task s) l h = omega (arith, l, h)
takes_more given a b (returns w s) l h = omega (arith, l, h)
takes_more given a b short l h = omega (arith, l, h)

either_takes : (given n : ℕ) (b : Bool) (o p : Outcome) → TakesUpTo given n o → TakesUpTo given n p → TakesUpTo given n (if b then o else p)
either_takes given n true o p h k = h
either_takes given n false o p h k = k

-- an assignment takes nothing
assigned_takes : (x : VariableName) (v : ℕ) (m : Attempt) → TakesUpTo (length m.left) 0 (goes_on (assigned_to m x v))
assigned_takes x v m = go x.word_type
  where
    go : (of : WordType) → TakesUpTo (length m.left) 0 (goes_on (by_width of (assigned m x.variable 0 v)
        (assigned (assigned m x.variable 0 (v % 65536)) x.variable 1 (v / 65536))))
    go Long = omega arith
    go Int = omega arith
    go Unsigned = omega arith

-- an expression alone, and nothing behind it
alone : (given n : ℕ) (o : Outcome) → TakesUpTo given (n + 0) o → TakesUpTo given n o
alone given n o h = takes_more given (n + 0) n o (omega arith) h

-- an expression whose value goes on to what takes nothing
last_takes : (known : List Meaning) (counts : List ℕ) → KnownTake known counts → (e : CheckedExpression) → CallsAreBelow (length known) e
    → (next : ℕ → Attempt → Outcome) → ((w : ℕ) (s : Attempt) → TakesUpTo (length s.left) 0 (next w s)) → (m : Attempt)
    → TakesUpTo (length m.left) (expression_readings counts e) (with_value known e m next)
last_takes known counts h e c next k m =
    alone (length m.left) (expression_readings counts e) (with_value known e m next)
    (with_takes (length m.left) (expression_readings counts e) 0 (value_of known e m) next (value_takes known counts h e c m) k)

set_takes : (known : List Meaning) (counts : List ℕ) → KnownTake known counts → (x : VariableName) (e : CheckedExpression)
    → CallsAreBelow (length known) e → (m : Attempt)
    → TakesUpTo (length m.left) (expression_readings counts e) (with_value known e m (λ w s. goes_on (assigned_value s x e w)))
set_takes known counts h x e c m =
    last_takes known counts h e c (λ w s. goes_on (assigned_value s x e w)) (λ w s. assigned_takes x (converted (type_of e) x.word_type w) s) m

turns_take : (x : Variable) (run : Attempt → Outcome) (e : ℕ) → ((m : Attempt) → TakesUpTo (length m.left) e (run m))
    → (j k : ℕ) (m : Attempt) → TakesUpTo (length m.left) (j * e) (turns j k x run m)
turns_take x run e f zero k m = omega arith
turns_take x run e f (suc j) k m =
    let more : e + j * e ≤ suc j * e = let is = suc-mul j e in omega (arith, is) in
    takes_more (length m.left) (e + j * e) (suc j * e) (turns (suc j) k x run m) more
    (then_takes (length m.left) e (j * e) (run (assigned m x 0 k)) (turns j (k + 1) x run) (f (assigned m x 0 k)) (turns_take x run e f j (k + 1)))

mutual
  statement_takes : (known : List Meaning) (counts : List ℕ) → KnownTake known counts → (s : CheckedStatement) → StatementCallsBelow (length known) s
      → (m : Attempt) → TakesUpTo (length m.left) (statement_readings counts s) (run_statement known s m)
  statement_takes known counts h (t.declare of x None) c m = omega arith
  statement_takes known counts h (t.declare of x (Some e)) c m = set_takes known counts h x e c m
  statement_takes known counts h (t.assign x e) c m = set_takes known counts h x e c m
  statement_takes known counts h (t.store x index e) c m =
      with_takes (length m.left) (expression_readings counts index) (expression_readings counts e) (value_of known index m)
      (λ i s. with_value known e s (λ w s. goes_on (assigned s x.variable i (word_of e w)))) (value_takes known counts h index c.0 m)
      (λ i s. last_takes known counts h e c.1 (λ w s. goes_on (assigned s x.variable i (word_of e w))) (λ w u. omega arith) s)
  statement_takes known counts h (t.choose choice) c m = choice_takes known counts h choice c m
  statement_takes known counts h (t.loop x from tested below stepped body) c m =
      turns_take x.variable (run_block known body) (block_readings counts body) (block_takes known counts h body c) (below - from) from m
  statement_takes known counts h (t.emit e) c m =
      last_takes known counts h e c (λ w s. goes_on (record s { emitted = s.emitted ++ word_of e w ∷ [] })) (λ w s. omega arith) m
  statement_takes known counts h (t.give at e) c m = last_takes known counts h e c (λ w s. returns (word_of e w) s) (λ w s. omega arith) m
  statement_takes known counts h (t.transition at task) c m = omega arith

  choice_takes : (known : List Meaning) (counts : List ℕ) → KnownTake known counts → (choice : CheckedChoice) → ChoiceCallsBelow (length known) choice
      → (m : Attempt) → TakesUpTo (length m.left) (choice_readings counts choice) (run_choice known choice m)
  choice_takes known counts h t.nothing c m = omega arith
  choice_takes known counts h (t.otherwise block) c m = block_takes known counts h block c m
  choice_takes known counts h (t.test e block more) c m =
      let dearer = max (block_readings counts block) (choice_readings counts more) in
      with_takes (length m.left) (expression_readings counts e) dearer (value_of known e m)
      (λ w s. if holds w then run_block known block s else run_choice known more s) (value_takes known counts h e c.0 m)
      (λ w s. either_takes (length s.left) dearer (holds w) (run_block known block s) (run_choice known more s)
      (takes_more (length s.left) (block_readings counts block) dearer (run_block known block s) (omega arith) (block_takes known counts h block c.1.0 s))
      (takes_more (length s.left) (choice_readings counts more) dearer (run_choice known more s) (omega arith) (choice_takes known counts h more c.1.1 s)))

  pub block_takes : (known : List Meaning) (counts : List ℕ) → KnownTake known counts → (b : CheckedBlock) → BlockCallsBelow (length known) b
      → (m : Attempt) → TakesUpTo (length m.left) (block_readings counts b) (run_block known b m)
  block_takes known counts h t.end c m = omega arith
  block_takes known counts h (t.step s more) c m =
      then_takes (length m.left) (statement_readings counts s) (block_readings counts more) (run_statement known s m) (run_block known more)
      (statement_takes known counts h s c.0 m) (block_takes known counts h more c.1)

-- ---- functions

left_takes : (given n : ℕ) (locals : List ℕ) (o : Outcome) → EndsReturning o → TakesUpTo given n o → ValueTakes given n (left_with locals o)
left_takes given n locals (goes_on s) r h = absurd r
left_takes given n locals (to_task task s) r h = absurd r
left_takes given n locals (returns w s) r h = h
left_takes given n locals short r h = h

-- a function that returns takes what its body does
pub function_takes : (known : List Meaning) (counts : List ℕ) → KnownTake known counts → (f : CheckedFunction) → BlockCallsBelow (length known) f.body
    → ((s : Attempt) → EndsReturning (run_block known f.body s)) → FunctionTakes (meaning_of known f) (function_readings counts f)
function_takes known counts h f c r words s =
    left_takes (length s.left) (block_readings counts f.body) s.variables.locals (run_block known f.body (entered words s)) (r (entered words s))
    (block_takes known counts h f.body c (entered words s))
