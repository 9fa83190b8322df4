-- Rows of words: statements keep how many there are, and rows of the declared lengths are a state's.
use Rattle.task_attempts.proofs.Names.{◌≡◌, ℕ, zero, suc, ◌+◌, ◌-◌, ◌/◌, ◌%◌, ◌<◌, List, [], ◌∷◌, ◌++◌, length, Some, None, Bool, true, false, get_or, refl}
use Rattle.task_attempts.proofs.Names.{sym, ap, ◌∙◌, arith, eq-eqb, if◌then◌else◌, ◌&&◌, ◌==◌, nat_lt, slice_get, lt-ltb, and_from, and_parts, length-replicate}
use Rattle.task_attempts.proofs.Names.{CheckedExpression, CheckedStatement, CheckedChoice, CheckedBlock, Extent, SharedDeclaration, WordType, Unsigned, Int}
use Rattle.task_attempts.proofs.Names.{Long, Variable, Shared, Local, by_width, type_of, converted, holds, Attempt, Outcome, goes_on, to_task, returns, short}
use Rattle.task_attempts.proofs.Names.{and_then}
use Rattle.task_attempts.proofs.Names.{with_value, assigned, assigned_to, assigned_value, word_of, turns, run_statement, run_choice, run_block, initial_words}
use Rattle.task_attempts.proofs.Names.{VariablePlace, Scalar, Array, scalar_words, IsPlaceOf, place_length, are_words, are_rows, subst, Option}
use Rattle.source_values.specs.Values.{◌>>?◌, CheckedValues, Evaluated, EvaluatedWords, Meaning, meaning_in, word_before, value_of, words_of, gives, made_of}
use Rattle.source_values.specs.Values.{reading_of, next_reading, next_answer, truth_word, is_settled, unary_result, binary_result, shift_result, scalar_value}
use Rattle.source_values.specs.Values.{word_at}
use Rattle.source_values.specs.Statements.{entered, left_with, meaning_of}
use Rattle.source_values.proofs.Interface.{Every, each_answer, for_value}
use Rattle.task_ast.specs.Answers.{answers}
use Rattle.task_ast.specs.Paths.{CheckedFunction}
use Rattle.task_ast.specs.Tree as t
use Rattle.task_ast.specs.declared.Extent.TheVariants as extent
use Rattle.std.proofs.Math.ListN.{length-set}
use Rattle.task_ast.specs.declared.names.VariableName.{VariableName}

-- where an outcome has variables, there are so many shared ones
abbrev pub HasRows : ℕ → Outcome → Type 0
HasRows n (goes_on s) = length s.variables.shared ≡ n
HasRows n (to_task task s) = length s.variables.shared ≡ n
HasRows n (returns w s) = length s.variables.shared ≡ n
HasRows n short = Unit {0}

rows_then : (n : ℕ) (o : Outcome) (next : Attempt → Outcome) → HasRows n o → ((s : Attempt) → length s.variables.shared ≡ n → HasRows n (next s))
    → HasRows n (and_then o next)
rows_then n (goes_on s) next h f = f s h
rows_then n (to_task task s) next h f = h
rows_then n (returns w s) next h f = h
rows_then n short next h f = tt

-- ---- functions

-- what gives a value leaves so many shared variables, where there are so many
abbrev KeepsRows : ℕ → (Attempt → Option Evaluated) → Type 0
KeepsRows n read = (m : Attempt) (x : Evaluated) → length m.variables.shared ≡ n → read m ≡ Some x → length x.behind.variables.shared ≡ n

-- so does each of these functions
abbrev pub FunctionKeepsRows : Meaning → Type 0
FunctionKeepsRows g = (n : ℕ) (words : List ℕ) → KeepsRows n (g words)

abbrev pub KnownKeepRows : List Meaning → Type 0
KnownKeepRows = Every FunctionKeepsRows

bind_some : {A B : Type 0} (o : Option A) (f : A → Option B) (y : B) → (o >>? f) ≡ Some y → (x : A) × (o ≡ Some x) × (f x ≡ Some y)
bind_some None f y e = cc
bind_some (Some x) f y e = (x, refl, e)

-- what holds of a value that is given
abbrev OfValue : (Evaluated → Type 0) → Option Evaluated → Type 0
OfValue P None = ⊥
OfValue P (Some x) = P x

abbrev OfRows : ℕ → Evaluated → Type 0
OfRows n x = length x.behind.variables.shared ≡ n

-- so do the words of a call
abbrev OfWords : ℕ → Option EvaluatedWords → Type 0
OfWords n None = Unit {0}
OfWords n (Some ws) = length ws.behind.variables.shared ≡ n

gives_rows : (n value : ℕ) (m : Attempt) (x : Evaluated) → length m.variables.shared ≡ n → gives value m ≡ Some x → length x.behind.variables.shared ≡ n
gives_rows n value m x h e = subst (OfValue (OfRows n)) e h

then_rows : (n : ℕ) (first : Attempt → Option Evaluated) (next : ℕ → Attempt → Option Evaluated) → KeepsRows n first → ((w : ℕ) → KeepsRows n (next w))
    → KeepsRows n (λ m. first m >>? λ x. next x.value x.behind)
then_rows n first next p q m x h e =
    let y = bind_some (first m) (λ x. next x.value x.behind) x e in
    q y.0.value y.0.behind x (p m y.0 h y.1) y.2

if_rows : (n : ℕ) (b : Bool) (first second : Attempt → Option Evaluated) → KeepsRows n first → KeepsRows n second
    → KeepsRows n (λ m. if b then first m else second m)
if_rows n true first second p q = p
if_rows n false first second p q = q

made_rows : (n : ℕ) (f : ℕ → ℕ) (first : Attempt → Option Evaluated) → KeepsRows n first → KeepsRows n (λ m. made_of f (first m))
made_rows n f first p = then_rows n first (λ w m. gives (f w) m) p (λ w m x h e. gives_rows n (f w) m x h e)

reading_rows : (n : ℕ) → KeepsRows n next_reading
reading_rows n m x h e = by m.left e
  where
    by : (rs : List ℕ) → reading_of rs m ≡ Some x → length x.behind.variables.shared ≡ n
    by [] e = cc e
    by (r ∷ rs) e = subst (OfValue (OfRows n)) e h

answer_rows : (n : ℕ) → KeepsRows n next_answer
answer_rows n m x h e = subst (OfValue (OfRows n)) e h

known_rows : (known : List Meaning) → KnownKeepRows known → (n k : ℕ) (words : List ℕ) → KeepsRows n (meaning_in known k words)
known_rows [] keep n k words m x h e = cc e
known_rows (g ∷ known) keep n zero words m x h e = keep.0 n words m x h e
known_rows (g ∷ known) keep n (suc k) words m x h e = known_rows known keep.1 n k words m x h e

module _ (known : List Meaning) (keep : KnownKeepRows known) (n : ℕ) where
  mutual
    value_rows : (e : CheckedExpression) → KeepsRows n (value_of known e)
    value_rows (t.number k) = λ m x h e. gives_rows n k m x h e
    value_rows (t.long_number k) = λ m x h e. gives_rows n k m x h e
    value_rows (t.name v) = λ m x h e. gives_rows n (scalar_value m.variables v) m x h e
    value_rows (t.element v index) = then_rows n (value_of known index) (λ i m. gives (word_at m.variables v.variable i) m) (value_rows index)
        (λ i m x h e. gives_rows n (word_at m.variables v.variable i) m x h e)
    value_rows t.sense = reading_rows n
    value_rows t.next_event = answer_rows n
    value_rows (t.call f values) = λ m x h e.
        let ws = bind_some (words_of known values m) (λ ws. meaning_in known f.function ws.words ws.behind) x e in
        known_rows known keep n f.function ws.0.words ws.0.behind x (words_rows values m ws.0 h ws.1) ws.2
    value_rows (t.unary op a) = made_rows n (unary_result op (type_of a)) (value_of known a) (value_rows a)
    value_rows (t.binary op a b) =
        let value : ℕ → ℕ → ℕ = binary_result op.operator (type_of a) (type_of b) in
        then_rows n (value_of known a) (λ x m. made_of (value x) (value_of known b m)) (value_rows a)
        (λ x. made_rows n (value x) (value_of known b) (value_rows b))
    value_rows (t.shift op a count) = made_rows n (λ w. shift_result op (type_of a) w count.value) (value_of known a) (value_rows a)
    value_rows (t.short_circuit op a b) =
        then_rows n (value_of known a) (λ x m. if is_settled op x then gives (truth_word x) m else made_of truth_word (value_of known b m)) (value_rows a)
        (λ x. if_rows n (is_settled op x) (gives (truth_word x)) (λ m. made_of truth_word (value_of known b m)) (λ m y h e. gives_rows n (truth_word x) m y h e)
        (made_rows n truth_word (value_of known b) (value_rows b)))

    words_rows : (values : CheckedValues) (m : Attempt) (ws : EvaluatedWords) → length m.variables.shared ≡ n → words_of known values m ≡ Some ws
        → length ws.behind.variables.shared ≡ n
    words_rows t.no_value m ws h e = subst (OfWords n) e h
    words_rows (t.value a more) m ws h e =
        let x = bind_some (value_of known a m) (λ x. words_of known more x.behind >>? λ us. Some (word_before (word_of a x.value) us)) ws e in
        let us = bind_some (words_of known more x.0.behind) (λ us. Some (word_before (word_of a x.0.value) us)) ws x.2 in
        subst (OfWords n) us.2 (words_rows more x.0.behind us.0 (value_rows a m x.0 h x.1) us.1)

rows_if : (n : ℕ) (b : Bool) (o q : Outcome) → HasRows n o → HasRows n q → HasRows n (if b then o else q)
rows_if n true o q h k = h
rows_if n false o q h k = k

rows_assigned : (m : Attempt) (x : Variable) (i w n : ℕ) → length m.variables.shared ≡ n → length (assigned m x i w).variables.shared ≡ n
rows_assigned m (Shared v) i w n h = length-set m.variables.shared v _ ∙ h
rows_assigned m (Local k) i w n h = h

rows_assigned_to : (m : Attempt) (x : VariableName) (w n : ℕ) → length m.variables.shared ≡ n → length (assigned_to m x w).variables.shared ≡ n
rows_assigned_to m x w n h = by x.word_type
  where
    by : (of : WordType)
        → length (by_width of (assigned m x.variable 0 w) (assigned (assigned m x.variable 0 (w % 65536)) x.variable 1 (w / 65536))).variables.shared ≡ n
    by Long = rows_assigned (assigned m x.variable 0 (w % 65536)) x.variable 1 (w / 65536) n (rows_assigned m x.variable 0 (w % 65536) n h)
    by Int = rows_assigned m x.variable 0 w n h
    by Unsigned = rows_assigned m x.variable 0 w n h

rows_turns : (n : ℕ) (x : Variable) (run : Attempt → Outcome) → ((m : Attempt) → length m.variables.shared ≡ n → HasRows n (run m))
    → (j k : ℕ) (m : Attempt) → length m.variables.shared ≡ n → HasRows n (turns j k x run m)
rows_turns n x run f zero k m h = rows_assigned m x 0 k n h
rows_turns n x run f (suc j) k m h =
    rows_then n (run (assigned m x 0 k)) (turns j (k + 1) x run) (f (assigned m x 0 k) (rows_assigned m x 0 k n h)) (λ s g. rows_turns n x run f j (k + 1) s g)

module _ (known : List Meaning) (keep : KnownKeepRows known) where
  rows_value : (n : ℕ) (e : CheckedExpression) (m : Attempt) (next : ℕ → Attempt → Outcome) → length m.variables.shared ≡ n
      → ((v : ℕ) (s : Attempt) → length s.variables.shared ≡ n → HasRows n (next v s)) → HasRows n (with_value known e m next)
  rows_value n e m next h f =
      for_value (HasRows n) known e m next tt (λ v s is. f v s (value_rows known keep n e m (record { value = v; behind = s }) h is))

  mutual
    statement_rows : (s : CheckedStatement) (m : Attempt) (n : ℕ) → length m.variables.shared ≡ n → HasRows n (run_statement known s m)
    statement_rows (t.declare of x None) m n h = h
    statement_rows (t.declare of x (Some e)) m n h =
        rows_value n e m (λ w s. goes_on (assigned_value s x e w)) h (λ v s k. rows_assigned_to s x (converted (type_of e) x.word_type v) n k)
    statement_rows (t.assign x e) m n h =
        rows_value n e m (λ w s. goes_on (assigned_value s x e w)) h (λ v s k. rows_assigned_to s x (converted (type_of e) x.word_type v) n k)
    statement_rows (t.store x index e) m n h =
        rows_value n index m (λ i s. with_value known e s (λ w s. goes_on (assigned s x.variable i (word_of e w)))) h
        (λ i s k. rows_value n e s (λ w s. goes_on (assigned s x.variable i (word_of e w))) k
        (λ v u l. rows_assigned u x.variable i (word_of e v) n l))
    statement_rows (t.choose choice) m n h = choice_rows choice m n h
    statement_rows (t.loop x from tested below stepped body) m n h =
        rows_turns n x.variable (run_block known body) (λ u g. block_rows body u n g) (below - from) from m h
    statement_rows (t.emit e) m n h = rows_value n e m (λ w s. goes_on (record s { emitted = s.emitted ++ word_of e w ∷ [] })) h (λ v s k. k)
    statement_rows (t.give at e) m n h = rows_value n e m (λ w s. returns (word_of e w) s) h (λ v s k. k)
    statement_rows (t.transition at task) m n h = h

    choice_rows : (c : CheckedChoice) (m : Attempt) (n : ℕ) → length m.variables.shared ≡ n → HasRows n (run_choice known c m)
    choice_rows t.nothing m n h = h
    choice_rows (t.otherwise block) m n h = block_rows block m n h
    choice_rows (t.test e block more) m n h =
        rows_value n e m (λ w s. if holds w then run_block known block s else run_choice known more s) h
        (λ v s k. rows_if n (holds v) (run_block known block s) (run_choice known more s) (block_rows block s n k) (choice_rows more s n k))

    -- statements keep how many shared variables there are
    pub block_rows : (b : CheckedBlock) (m : Attempt) (n : ℕ) → length m.variables.shared ≡ n → HasRows n (run_block known b m)
    block_rows t.end m n h = h
    block_rows (t.step s more) m n h =
        rows_then n (run_statement known s m) (run_block known more) (statement_rows s m n h) (λ u g. block_rows more u n g)

-- so do all functions
function_rows : (known : List Meaning) (f : CheckedFunction) → KnownKeepRows known → FunctionKeepsRows (meaning_of known f)
function_rows known f keep n words m x h e =
    by (run_block known f.body (entered words m)) (block_rows known keep f.body (entered words m) n h) e
  where
    by : (o : Outcome) → HasRows n o → left_with m.variables.locals o ≡ Some x → length x.behind.variables.shared ≡ n
    by (returns w s) k e = subst (OfValue (OfRows n)) e k
    by (goes_on s) k e = cc e
    by (to_task task s) k e = cc e
    by short k e = cc e

pub functions_keep_rows : (fs : List CheckedFunction) → KnownKeepRows (answers meaning_of fs)
functions_keep_rows fs = each_answer FunctionKeepsRows meaning_of function_rows [] fs tt

words_are : (ws : List ℕ) → ((i : ℕ) → get_or ws i 0 < 0x10000) → are_words ws ≡ true
words_are [] h = refl
words_are (w ∷ ws) h = and_from (nat_lt w 0x10000) (are_words ws) (lt-ltb w 0x10000 (h 0)) (words_are ws (λ i. h (suc i)))

-- rows of words with the declared lengths
pub rows_are : (ds : List SharedDeclaration) (rows : List (List ℕ)) → length rows ≡ length ds
    → ((v : ℕ) (d : SharedDeclaration) → slice_get ds v ≡ Some d → length (get_or rows v []) ≡ length (initial_words d.extent))
    → ((v i : ℕ) → get_or (get_or rows v []) i 0 < 0x10000) → are_rows ds rows ≡ true
rows_are [] [] e h k = refl
rows_are [] (row ∷ rows) e h k = absurd (omega (arith, e))
rows_are (d ∷ ds) [] e h k = absurd (omega (arith, e))
rows_are (d ∷ ds) (row ∷ rows) e h k =
    and_from (length row == length (initial_words d.extent)) (are_words row && are_rows ds rows)
    (eq-eqb (length row) (length (initial_words d.extent)) (h 0 d refl))
    (and_from (are_words row) (are_rows ds rows) (words_are row (k 0)) (rows_are ds rows (omega (arith, e)) (λ v. h (suc v)) (λ v. k (suc v))))

-- as many rows as declarations
pub rows_count : (ds : List SharedDeclaration) (rows : List (List ℕ)) → are_rows ds rows ≡ true → length rows ≡ length ds
rows_count [] [] h = refl
rows_count [] (row ∷ rows) h = cc h
rows_count (d ∷ ds) [] h = cc h
rows_count (d ∷ ds) (row ∷ rows) h =
    let k = rows_count ds rows (and_parts (are_words row) (are_rows ds rows)
    (and_parts (length row == length (initial_words d.extent)) (are_words row && are_rows ds rows) h).1).1 in
    omega (arith, k)

-- a place of the declared kind has the declared length
pub declared_length : (written : Bool) (e : Extent) (place : VariablePlace) → IsPlaceOf written e place → place_length place ≡ length (initial_words e)
declared_length written (extent.Scalar w) (Scalar home copy width) h = ap scalar_words h
declared_length written (extent.Long n) (Scalar home copy width) h = ap scalar_words h
declared_length written (extent.Array n) (Array elements len copies) h = h.0 ∙ sym (length-replicate n 0)
declared_length written (extent.Scalar w) (Array elements len copies) h = absurd h
declared_length written (extent.Long n) (Array elements len copies) h = absurd h
declared_length written (extent.Array n) (Scalar home copy width) h = absurd h
