-- An attempt emits no more words than its block counts, however it ends.
use Rattle.std.proofs.Common.{ℕ, zero, suc, ◌+◌, ◌-◌, ◌*◌, ◌/◌, ◌%◌, ◌≤◌, subst, arith, List, [], ◌∷◌, ◌++◌, length, length-append, Option, Some, None, Bool}
use Rattle.std.proofs.Common.{true, false, slice_index, if◌then◌else◌}
use Rattle.std.specs.List.{AllZip}
use Rattle.std.proofs.Math.Nat.{suc-mul}
use Rattle.task_ast.specs.Tree as t
use Rattle.task_ast.specs.Paths.{CheckedExpression, CheckedValues, CheckedStatement, CheckedChoice, CheckedBlock, CheckedFunction, CheckedProgram}
use Rattle.task_ast.specs.declared.WordType.{WordType}
use Rattle.task_ast.specs.declared.WordType.TheVariants.{Unsigned, Int, Long}
use Rattle.task_ast.specs.declared.names.Variable.{Variable}
use Rattle.task_ast.specs.declared.names.VariableName.{VariableName}
use Rattle.source_values.specs.Values.{◌>>?◌, Evaluated, EvaluatedWords, Meaning, meaning_in, word_before, by_width, type_of, converted, holds, gives, made_of}
use Rattle.source_values.specs.Values.{word_at, unary_result, binary_result, shift_result, reading_of, truth_word, is_settled, value_of, words_of}
use Rattle.source_values.specs.Statements.{Attempt, Outcome, goes_on, to_task, returns, short, and_then, if_value, with_value, assigned, assigned_to}
use Rattle.source_values.specs.Statements.{assigned_value, word_of, turns, run_statement, run_choice, run_block, entered, left_with, meaning_of, meanings}
use Rattle.source_values.specs.Statements.{expression_emits, values_emits, statement_emits, conditions_emit, choice_emits, block_emits, function_emits}
use Rattle.source_values.specs.Statements.{emit_counts}
use Rattle.source_values.proofs.Functions.{both_answers}

-- ---- values

-- where there is a value, at most so many words are emitted behind it
abbrev pub ValueUpTo : ℕ → Option Evaluated → Type 0
ValueUpTo n None = Unit {0}
ValueUpTo n (Some x) = length x.behind.emitted ≤ n

abbrev WordsUpTo : ℕ → Option EvaluatedWords → Type 0
WordsUpTo n None = Unit {0}
WordsUpTo n (Some x) = length x.behind.emitted ≤ n

-- a function emits no more words than this
abbrev pub FunctionUpTo : Meaning → ℕ → Type 0
FunctionUpTo m count = (words : List ℕ) (s : Attempt) (n : ℕ) → length s.emitted + count ≤ n → ValueUpTo n (m words s)

-- each of these functions emits no more words than its count
abbrev pub KnownUpTo : List Meaning → List ℕ → Type 0
KnownUpTo = AllZip FunctionUpTo

known_up_to : (known : List Meaning) (counts : List ℕ) → KnownUpTo known counts → (k : ℕ) (words : List ℕ) (s : Attempt) (n : ℕ)
    → length s.emitted + slice_index counts k ≤ n → ValueUpTo n (meaning_in known k words s)
known_up_to [] counts h k words s n l = tt
known_up_to (m ∷ known) [] h k words s n l = absurd h
known_up_to (m ∷ known) (c ∷ counts) h zero words s n l = h.0 words s n l
known_up_to (m ∷ known) (c ∷ counts) h (suc k) words s n l = known_up_to known counts h.1 k words s n l

value_then : (n k : ℕ) (o : Option Evaluated) (next : Evaluated → Option Evaluated) → ValueUpTo n o
    → ((x : Evaluated) → length x.behind.emitted ≤ n → ValueUpTo k (next x)) → ValueUpTo k (o >>? next)
value_then n k None next h f = tt
value_then n k (Some x) next h f = f x h

value_made : (n : ℕ) (f : ℕ → ℕ) (o : Option Evaluated) → ValueUpTo n o → ValueUpTo n (made_of f o)
value_made n f None h = tt
value_made n f (Some x) h = h

value_either : (n : ℕ) (b : Bool) (o p : Option Evaluated) → ValueUpTo n o → ValueUpTo n p → ValueUpTo n (if b then o else p)
value_either n true o p h k = h
value_either n false o p h k = k

reading_up_to : (readings : List ℕ) (s : Attempt) (n : ℕ) → length s.emitted ≤ n → ValueUpTo n (reading_of readings s)
reading_up_to [] s n l = tt
reading_up_to (r ∷ rs) s n l = l

call_up_to : (n k : ℕ) (o : Option EvaluatedWords) (run : List ℕ → Attempt → Option Evaluated) → WordsUpTo n o
    → ((words : List ℕ) (s : Attempt) → length s.emitted ≤ n → ValueUpTo k (run words s)) → ValueUpTo k (o >>? λ x. run x.words x.behind)
call_up_to n k None run h f = tt
call_up_to n k (Some x) run h f = f x.words x.behind h

one_before : (n w : ℕ) (o : Option EvaluatedWords) → WordsUpTo n o → WordsUpTo n (o >>? λ ws. Some (word_before w ws))
one_before n w None h = tt
one_before n w (Some x) h = h

words_then : (n k : ℕ) (o : Option Evaluated) (next : Evaluated → Option EvaluatedWords) → ValueUpTo n o
    → ((x : Evaluated) → length x.behind.emitted ≤ n → WordsUpTo k (next x)) → WordsUpTo k (o >>? next)
words_then n k None next h f = tt
words_then n k (Some x) next h f = f x h

mutual
  -- an expression emits no more words than it counts
  pub value_up_to : (known : List Meaning) (counts : List ℕ) → KnownUpTo known counts → (e : CheckedExpression) (m : Attempt) (n : ℕ)
      → length m.emitted + expression_emits counts e ≤ n → ValueUpTo n (value_of known e m)
  value_up_to known counts h (t.number w) m n l = omega (arith, l)
  value_up_to known counts h (t.long_number w) m n l = omega (arith, l)
  value_up_to known counts h (t.name x) m n l = omega (arith, l)
  value_up_to known counts h (t.element x index) m n l =
      value_then n n (value_of known index m) (λ i. gives (word_at i.behind.variables x.variable i.value) i.behind) (value_up_to known counts h index m n l)
      (λ i g. g)
  value_up_to known counts h t.sense m n l = reading_up_to m.left m n (omega (arith, l))
  value_up_to known counts h t.next_event m n l = omega (arith, l)
  value_up_to known counts h (t.call f values) m n l =
      let between = length m.emitted + values_emits counts values in
      call_up_to between n (words_of known values m) (meaning_in known f.function) (words_up_to known counts h values m between (omega arith))
      (λ words s g. known_up_to known counts h f.function words s n (omega (arith, g, l)))
  value_up_to known counts h (t.unary op e) m n l =
      value_made n (λ w. unary_result op (type_of e) w) (value_of known e m) (value_up_to known counts h e m n l)
  value_up_to known counts h (t.binary op a b) m n l =
      let between = length m.emitted + expression_emits counts a in
      value_then between n (value_of known a m)
      (λ x. made_of (λ w. binary_result op.operator (type_of a) (type_of b) x.value w) (value_of known b x.behind))
      (value_up_to known counts h a m between (omega arith))
      (λ x g. value_made n (λ w. binary_result op.operator (type_of a) (type_of b) x.value w) (value_of known b x.behind)
      (value_up_to known counts h b x.behind n (omega (arith, g, l))))
  value_up_to known counts h (t.shift op e count) m n l =
      value_made n (λ w. shift_result op (type_of e) w count.value) (value_of known e m) (value_up_to known counts h e m n l)
  value_up_to known counts h (t.short_circuit op a b) m n l =
      let between = length m.emitted + expression_emits counts a in
      value_then between n (value_of known a m)
      (λ x. if is_settled op x.value then gives (truth_word x.value) x.behind else made_of truth_word (value_of known b x.behind))
      (value_up_to known counts h a m between (omega arith))
      (λ x g. value_either n (is_settled op x.value) (gives (truth_word x.value) x.behind) (made_of truth_word (value_of known b x.behind))
      (omega (arith, g, l)) (value_made n truth_word (value_of known b x.behind) (value_up_to known counts h b x.behind n (omega (arith, g, l)))))

  words_up_to : (known : List Meaning) (counts : List ℕ) → KnownUpTo known counts → (values : CheckedValues) (m : Attempt) (n : ℕ)
      → length m.emitted + values_emits counts values ≤ n → WordsUpTo n (words_of known values m)
  words_up_to known counts h t.no_value m n l = omega (arith, l)
  words_up_to known counts h (t.value e more) m n l =
      let between = length m.emitted + expression_emits counts e in
      words_then between n (value_of known e m) (λ x. words_of known more x.behind >>? λ ws. Some (word_before (word_of e x.value) ws))
      (value_up_to known counts h e m between (omega arith))
      (λ x g. one_before n (word_of e x.value) (words_of known more x.behind) (words_up_to known counts h more x.behind n (omega (arith, g, l))))

-- ---- statements

-- where an outcome isn't short, at most so many words are emitted
abbrev pub EmitsUpTo : ℕ → Outcome → Type 0
EmitsUpTo n (goes_on s) = length s.emitted ≤ n
EmitsUpTo n (to_task task s) = length s.emitted ≤ n
EmitsUpTo n (returns w s) = length s.emitted ≤ n
EmitsUpTo n short = Unit {0}

up_to_then : (n k : ℕ) (o : Outcome) (next : Attempt → Outcome) → n ≤ k → EmitsUpTo n o → ((s : Attempt) → length s.emitted ≤ n → EmitsUpTo k (next s))
    → EmitsUpTo k (and_then o next)
up_to_then n k (goes_on s) next l h f = f s h
up_to_then n k (to_task task s) next l h f = omega (arith, l, h)
up_to_then n k (returns w s) next l h f = omega (arith, l, h)
up_to_then n k short next l h f = tt

up_to_if : (n : ℕ) (b : Bool) (o p : Outcome) → EmitsUpTo n o → EmitsUpTo n p → EmitsUpTo n (if b then o else p)
up_to_if n true o p h k = h
up_to_if n false o p h k = k

-- what goes on with a value
up_to_with : (n k : ℕ) (o : Option Evaluated) (next : ℕ → Attempt → Outcome) → ValueUpTo n o
    → ((w : ℕ) (s : Attempt) → length s.emitted ≤ n → EmitsUpTo k (next w s)) → EmitsUpTo k (if_value o next)
up_to_with n k None next h f = tt
up_to_with n k (Some x) next h f = f x.value x.behind h

-- an assignment emits nothing
assigned_up_to : (x : VariableName) (v : ℕ) (m : Attempt) (n : ℕ) → length m.emitted ≤ n → EmitsUpTo n (goes_on (assigned_to m x v))
assigned_up_to x v m n h = go x.word_type
  where
    go : (t : WordType) → EmitsUpTo n (goes_on (by_width t (assigned m x.variable 0 v)
        (assigned (assigned m x.variable 0 (v % 65536)) x.variable 1 (v / 65536))))
    go Long = h
    go Int = h
    go Unsigned = h

-- one turn more, of those that are left
pub more_turns : (j e a n : ℕ) → a + suc j * e ≤ n → a + e + j * e ≤ n
more_turns j e a n h =
    let P : ℕ → Type 0 = λ z. a + z ≤ n in
    let l = subst P (suc-mul j e) h in
    omega (arith, l)

turns_emit : (x : Variable) (run : Attempt → Outcome) (e : ℕ) → ((m : Attempt) (n : ℕ) → length m.emitted + e ≤ n → EmitsUpTo n (run m))
    → (j k : ℕ) (m : Attempt) (n : ℕ) → length m.emitted + j * e ≤ n → EmitsUpTo n (turns j k x run m)
turns_emit x run e f zero k m n h = omega (arith, h)
turns_emit x run e f (suc j) k m n h =
    let l = more_turns j e (length m.emitted) n h in
    up_to_then (length m.emitted + e) n (run (assigned m x 0 k)) (turns j (k + 1) x run) (omega (arith, l))
    (f (assigned m x 0 k) (length m.emitted + e) (omega arith))
    (λ s g. turns_emit x run e f j (k + 1) s n (omega (arith, l, g)))

-- an expression that is assigned emits what it counts
set_up_to : (known : List Meaning) (counts : List ℕ) → KnownUpTo known counts → (x : VariableName) (e : CheckedExpression) (m : Attempt) (n : ℕ)
    → length m.emitted + expression_emits counts e ≤ n → EmitsUpTo n (with_value known e m (λ w s. goes_on (assigned_value s x e w)))
set_up_to known counts h x e m n l =
    up_to_with n n (value_of known e m) (λ w s. goes_on (assigned_value s x e w)) (value_up_to known counts h e m n l)
    (λ w s g. assigned_up_to x (converted (type_of e) x.word_type w) s n g)

mutual
  -- a statement emits no more words than it counts
  pub statement_up_to : (known : List Meaning) (counts : List ℕ) → KnownUpTo known counts → (s : CheckedStatement) (m : Attempt) (n : ℕ)
      → length m.emitted + statement_emits counts s ≤ n → EmitsUpTo n (run_statement known s m)
  statement_up_to known counts h (t.declare of x None) m n l = omega (arith, l)
  statement_up_to known counts h (t.declare of x (Some e)) m n l = set_up_to known counts h x e m n l
  statement_up_to known counts h (t.assign x e) m n l = set_up_to known counts h x e m n l
  statement_up_to known counts h (t.store x index e) m n l =
      let between = length m.emitted + expression_emits counts index in
      up_to_with between n (value_of known index m) (λ i s. with_value known e s (λ w s. goes_on (assigned s x.variable i (word_of e w))))
      (value_up_to known counts h index m between (omega arith))
      (λ i s g. up_to_with n n (value_of known e s) (λ w s. goes_on (assigned s x.variable i (word_of e w)))
      (value_up_to known counts h e s n (omega (arith, g, l))) (λ w u g. g))
  statement_up_to known counts h (t.choose choice) m n l = choice_up_to known counts h choice m n l
  statement_up_to known counts h (t.loop x from tested below stepped body) m n l =
      turns_emit x.variable (run_block known body) (block_emits counts body) (block_up_to known counts h body) (below - from) from m n l
  statement_up_to known counts h (t.emit e) m n l =
      let between = length m.emitted + expression_emits counts e in
      up_to_with between n (value_of known e m) (λ w s. goes_on (record s { emitted = s.emitted ++ word_of e w ∷ [] }))
      (value_up_to known counts h e m between (omega arith))
      (λ w s g. let pushed = length-append s.emitted (word_of e w ∷ []) in omega (arith, pushed, g, l))
  statement_up_to known counts h (t.give at e) m n l =
      up_to_with n n (value_of known e m) (λ w s. returns (word_of e w) s) (value_up_to known counts h e m n l) (λ w s g. g)
  statement_up_to known counts h (t.transition at task) m n l = omega (arith, l)

  choice_up_to : (known : List Meaning) (counts : List ℕ) → KnownUpTo known counts → (c : CheckedChoice) (m : Attempt) (n : ℕ)
      → length m.emitted + (conditions_emit counts c + choice_emits counts c) ≤ n → EmitsUpTo n (run_choice known c m)
  choice_up_to known counts h t.nothing m n l = omega (arith, l)
  choice_up_to known counts h (t.otherwise block) m n l = block_up_to known counts h block m n (omega (arith, l))
  choice_up_to known counts h (t.test e block more) m n l =
      let between = length m.emitted + expression_emits counts e in
      up_to_with between n (value_of known e m) (λ w s. if holds w then run_block known block s else run_choice known more s)
      (value_up_to known counts h e m between (omega arith))
      (λ w s g. up_to_if n (holds w) (run_block known block s) (run_choice known more s)
      (block_up_to known counts h block s n (omega (arith, g, l))) (choice_up_to known counts h more s n (omega (arith, g, l))))

  -- nor does a block
  pub block_up_to : (known : List Meaning) (counts : List ℕ) → KnownUpTo known counts → (b : CheckedBlock) (m : Attempt) (n : ℕ)
      → length m.emitted + block_emits counts b ≤ n → EmitsUpTo n (run_block known b m)
  block_up_to known counts h t.end m n l = omega (arith, l)
  block_up_to known counts h (t.step s more) m n l =
      up_to_then (length m.emitted + statement_emits counts s) n (run_statement known s m) (run_block known more) (omega (arith, l))
      (statement_up_to known counts h s m (length m.emitted + statement_emits counts s) (omega arith))
      (λ u g. block_up_to known counts h more u n (omega (arith, g, l)))

-- ---- functions

left_up_to : (n : ℕ) (locals : List ℕ) (o : Outcome) → EmitsUpTo n o → ValueUpTo n (left_with locals o)
left_up_to n locals (goes_on s) h = tt
left_up_to n locals (to_task task s) h = tt
left_up_to n locals (returns w s) h = h
left_up_to n locals short h = tt

-- the functions of a source emit no more words than they count
pub meanings_up_to : (p : CheckedProgram) → KnownUpTo (meanings p) (emit_counts p)
meanings_up_to p = both_answers FunctionUpTo meaning_of function_emits one [] [] p.functions tt
  where
    one : (known : List Meaning) (counts : List ℕ) (f : CheckedFunction) → KnownUpTo known counts
        → FunctionUpTo (meaning_of known f) (function_emits counts f)
    one known counts f h words s n l =
        left_up_to n s.variables.locals (run_block known f.body (entered words s)) (block_up_to known counts h f.body (entered words s) n l)

-- nor does a block of a source
pub attempt_up_to : (p : CheckedProgram) (b : CheckedBlock) (s : Attempt) (n : ℕ) → length s.emitted + block_emits (emit_counts p) b ≤ n
    → EmitsUpTo n (run_block (meanings p) b s)
attempt_up_to p = block_up_to (meanings p) (emit_counts p) (meanings_up_to p)
