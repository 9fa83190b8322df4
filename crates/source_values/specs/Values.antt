-- The values of expressions: C's arithmetic on numbers of 16 bits, and of 32 bits where the type is long, and the rules of the language
-- where C leaves one open.
use Rattle.std.specs.Prelude.{◌≡◌, ℕ, ◌^◌, ◌+◌, ◌-◌, ◌*◌, ◌/◌, ◌%◌, List, [], ◌∷◌, Bool, not, ◌==◌, nat_le, nat_lt, bit_and, bit_or, bit_xor, if◌then◌else◌}
use Rattle.std.specs.Prelude.{Option, Some, None}
use Rattle.std.specs.Prelude.{slice_get, slice_index, slice_index_or, slice_set, drop, replicate}
pub use Rattle.task_ast.specs.alp_text.Sequence.{◌>>?◌}
use Rattle.alp_words.specs.Words.{word_sum, word_difference, word_product, quotient, remainder, arithmetic_shift, biased, bit}
pub use Rattle.alp_words.specs.Words.{two_words, sign_word}
pub use Rattle.task_ast.specs.Types.{by_width, is_long, joined_type, binary_type, unary_type, literal_type, type_of}
pub use Rattle.task_ast.specs.Paths.{CheckedExpression, CheckedValues}
use Rattle.task_ast.specs.Tree.{number, long_number, name, element, sense, next_event, call, unary, binary, shift, short_circuit}
use Rattle.task_ast.specs.Tree as t
use Rattle.task_ast.specs.declared.WordType.{WordType}
use Rattle.task_ast.specs.declared.WordType.TheVariants.{Unsigned, Int, Long}
use Rattle.task_ast.specs.declared.UnaryOperator.{UnaryOperator}
use Rattle.task_ast.specs.declared.UnaryOperator.TheVariants.{Negate, Complement, Not}
use Rattle.task_ast.specs.declared.BinaryOperator.{BinaryOperator}
use Rattle.task_ast.specs.declared.BinaryOperator.TheVariants.{Multiply, Divide, Remainder, Add, Subtract, Less, LessEqual, Greater, GreaterEqual, Equal}
use Rattle.task_ast.specs.declared.BinaryOperator.TheVariants.{NotEqual, And, Xor, Or}
use Rattle.task_ast.specs.declared.ShiftOperator.{ShiftOperator}
use Rattle.task_ast.specs.declared.ShiftOperator.TheVariants.{Left, Right}
use Rattle.task_ast.specs.declared.ShortCircuitOperator.{ShortCircuitOperator}
use Rattle.task_ast.specs.declared.ShortCircuitOperator.TheVariants.{And as BothHold, Or as OneHolds}
use Rattle.task_ast.specs.declared.names.Variable.{Variable}
use Rattle.task_ast.specs.declared.names.Variable.TheVariants.{Shared, Local}
use Rattle.task_ast.specs.declared.names.VariableName.{VariableName}

-- the words of the variables: of each shared one its words, in order of declaration, one for a scalar and two for a long one, the low one
-- first; and the locals
pub record Variables : Type 0 where
  pub shared : List (List ℕ)
  pub locals : List ℕ

-- the locals at the start of a task. A task or a function has at most 256, and reads none before it has assigned it
abbrev pub new_locals : List ℕ
new_locals = replicate 256 0

-- word i of a variable; 0 where the variable has no such word. A local has one word, whatever the index
abbrev pub word_at : Variables → Variable → ℕ → ℕ
word_at m (Shared v) i = slice_index (slice_index_or m.shared v []) i
word_at m (Local n) i = slice_index m.locals n

-- the variables with another word there; nothing changes where the variable has no such word
abbrev pub with_word : Variables → Variable → ℕ → ℕ → Variables
with_word m (Shared v) i w = record m { shared = slice_set m.shared v (slice_set (slice_index_or m.shared v []) i w) }
with_word m (Local n) i w = record m { locals = slice_set m.locals n w }

-- what an attempt has made so far: the words of the variables, the words emitted, and the readings and the answers of `next_event()` that are
-- left
pub record Attempt : Type 0 where
  pub variables : Variables
  pub emitted : List ℕ
  pub left : List ℕ
  pub answers : List ℕ

-- what a row of words shows at an index: a word, or at 0 the number of a long's two words
abbrev pub shown : Bool → List ℕ → ℕ → ℕ
shown is_long row i = if is_long then (if i == 0 then two_words (slice_index row 0) (slice_index row 1) else 0) else slice_index row i

-- the value of a scalar: its word, or of a long one its two words
abbrev pub scalar_value : Variables → VariableName → ℕ
scalar_value m x = by_width x.word_type (word_at m x.variable 0) (two_words (word_at m x.variable 0) (word_at m x.variable 1))

-- A number of one type as one of another: an unsigned becomes long by a high word of 0, an int by its sign; a long that becomes one word is
-- cut to its low word.
abbrev pub converted : WordType → WordType → ℕ → ℕ
converted Long Long w = w
converted Long Int w = w % 65536
converted Long Unsigned w = w % 65536
converted Int Long w = two_words w (sign_word w)
converted Int Int w = w
converted Int Unsigned w = w
converted Unsigned to w = w

-- ---- operators on words

-- a condition holds where its value isn't 0
abbrev pub holds : ℕ → Bool
holds w = not (w == 0)

-- `-` wraps, `~` turns each bit, `!` is 1 for 0 and else 0
abbrev pub unary_value : UnaryOperator → ℕ → ℕ
unary_value Negate w = word_difference 0 w
unary_value Complement w = 65535 - w
unary_value Not w = bit (w == 0)

-- whether a is below b: as signed words where the operands are ints, else as unsigned ones
abbrev pub is_less : WordType → ℕ → ℕ → Bool
is_less Int a b = nat_lt (biased a) (biased b)
is_less Unsigned a b = nat_lt a b
is_less Long a b = nat_lt a b

-- the value of an operation on words whose joined type is t: sums, differences and products wrap, `/` and `%` are unsigned,
-- x / 0 is 65535 and x % 0 is x, a comparison is 1 where it holds and else 0
abbrev pub binary_value : BinaryOperator → WordType → ℕ → ℕ → ℕ
binary_value Multiply t a b = word_product a b
binary_value Divide t a b = quotient a b
binary_value Remainder t a b = remainder a b
binary_value Add t a b = word_sum a b
binary_value Subtract t a b = word_difference a b
binary_value Less t a b = bit (is_less t a b)
binary_value LessEqual t a b = bit (not (is_less t b a))
binary_value Greater t a b = bit (is_less t b a)
binary_value GreaterEqual t a b = bit (not (is_less t a b))
binary_value Equal t a b = bit (a == b)
binary_value NotEqual t a b = bit (not (a == b))
binary_value And t a b = bit_and a b
binary_value Xor t a b = bit_xor a b
binary_value Or t a b = bit_or a b

-- `>>` copies the sign of an int; the other shifts bring zeros in
abbrev pub shifted_value : ShiftOperator → WordType → ℕ → ℕ → ℕ
shifted_value Left t a count = word_product a (2 ^ count)
shifted_value Right Int a count = arithmetic_shift a count
shifted_value Right Unsigned a count = a / 2 ^ count
shifted_value Right Long a count = a / 2 ^ count

-- the same of any count: the checks refuse one above 15, for which 0 stands here
abbrev pub shift_value : ShiftOperator → WordType → ℕ → ℕ → ℕ
shift_value op t a count = if nat_le count 15 then shifted_value op t a count else 0

-- ---- the same on long numbers, modulo 2^32 and without a sign

abbrev pub long_sum : ℕ → ℕ → ℕ
long_sum a b = (a + b) % 2 ^ 32

abbrev pub long_difference : ℕ → ℕ → ℕ
long_difference a b = (a + (2 ^ 32 - b)) % 2 ^ 32

abbrev pub long_unary_value : UnaryOperator → ℕ → ℕ
long_unary_value Negate w = long_difference 0 w
long_unary_value Complement w = 4294967295 - w
long_unary_value Not w = bit (w == 0)

-- the checks refuse `*`, `/` and `%`, for which 0 stands here
abbrev pub long_binary_value : BinaryOperator → ℕ → ℕ → ℕ
long_binary_value Multiply a b = 0
long_binary_value Divide a b = 0
long_binary_value Remainder a b = 0
long_binary_value Add a b = long_sum a b
long_binary_value Subtract a b = long_difference a b
long_binary_value Less a b = bit (nat_lt a b)
long_binary_value LessEqual a b = bit (not (nat_lt b a))
long_binary_value Greater a b = bit (nat_lt b a)
long_binary_value GreaterEqual a b = bit (not (nat_lt a b))
long_binary_value Equal a b = bit (a == b)
long_binary_value NotEqual a b = bit (not (a == b))
long_binary_value And a b = bit_and a b
long_binary_value Xor a b = bit_xor a b
long_binary_value Or a b = bit_or a b

abbrev pub long_shifted_value : ShiftOperator → ℕ → ℕ → ℕ
long_shifted_value Left a count = (a * 2 ^ count) % 2 ^ 32
long_shifted_value Right a count = a / 2 ^ count

-- the same of any count: the checks refuse one above 31, for which 0 stands here
abbrev pub long_shift_value : ShiftOperator → ℕ → ℕ → ℕ
long_shift_value op a count = if nat_le count 31 then long_shifted_value op a count else 0

-- ---- the operators, by the types of their operands

abbrev pub unary_result : UnaryOperator → WordType → ℕ → ℕ
unary_result op t w = by_width t (unary_value op w) (long_unary_value op w)

-- of words of types s and t, or with a long among them of both as longs
abbrev pub binary_result : BinaryOperator → WordType → WordType → ℕ → ℕ → ℕ
binary_result op s t a b = by_width (joined_type s t) (binary_value op (joined_type s t) a b)
    (long_binary_value op (converted s Long a) (converted t Long b))

abbrev pub shift_result : ShiftOperator → WordType → ℕ → ℕ → ℕ
shift_result op t a count = by_width t (shift_value op t a count) (long_shift_value op a count)

-- ---- expressions

-- the value of an expression, and the attempt behind it
pub record Evaluated : Type 0 where
  pub value : ℕ
  pub behind : Attempt

abbrev pub evaluated : ℕ → Attempt → Evaluated
evaluated w s = record { value = w; behind = s }

-- there is this value, and this attempt behind it
abbrev pub gives : ℕ → Attempt → Option Evaluated
gives w s = Some (evaluated w s)

-- what is made of a value, if there is one; the attempt behind it stays
abbrev pub made_of : (ℕ → ℕ) → Option Evaluated → Option Evaluated
made_of f o = o >>? λ x. gives (f x.value) x.behind

-- the first of these readings, and those behind it left
abbrev pub reading_of : List ℕ → Attempt → Option Evaluated
reading_of [] s = None
reading_of (r ∷ rs) s = gives r (record s { left = rs })

-- the next reading
abbrev pub next_reading : Attempt → Option Evaluated
next_reading s = reading_of s.left s

-- the next answer, with those behind it left; 0 where none is left
abbrev pub next_answer : Attempt → Option Evaluated
next_answer s = gives (slice_index s.answers 0) (record s { answers = drop 1 s.answers })

-- these are taken from a list of answers one after another, 0 behind its last, and leave this of it
abbrev pub AreTaken : List ℕ → List ℕ → List ℕ → Type 0
AreTaken given [] left = left ≡ given
AreTaken given (a ∷ taken) left = (a ≡ slice_index given 0) × AreTaken (drop 1 given) taken left

-- a condition as a number: 1 where it holds, else 0
abbrev pub truth_word : ℕ → ℕ
truth_word w = bit (holds w)

-- whether the left side settles `&&` or `||`: the right side is then not evaluated
abbrev pub is_settled : ShortCircuitOperator → ℕ → Bool
is_settled BothHold w = not (holds w)
is_settled OneHolds w = holds w

-- the value of an expression as one word
abbrev pub word_of : CheckedExpression → ℕ → ℕ
word_of e w = converted (type_of e) Unsigned w

-- what a function is: from the words that it is called with, in an attempt, the word that it gives, and the attempt behind it; None where
-- the readings run out
abbrev pub Meaning : Type 0
Meaning = List ℕ → Attempt → Option Evaluated

-- the function of a number among those that are known; None where there is none
abbrev pub meaning_in : List Meaning → ℕ → Meaning
meaning_in known k words s = slice_get known k >>? λ m. m words s

-- the words of several expressions, and the attempt behind them
pub record EvaluatedWords : Type 0 where
  pub words : List ℕ
  pub behind : Attempt

-- one word more in front of others
abbrev pub word_before : ℕ → EvaluatedWords → EvaluatedWords
word_before w more = record { words = w ∷ more.words; behind = more.behind }

abbrev mutual
  -- the value of an expression in an attempt, by the functions that are known, and the attempt behind it; None where the readings run
  -- out. What stands further left is evaluated first, so each part sees what those before it changed
  pub value_of : List Meaning → CheckedExpression → Attempt → Option Evaluated
  value_of known (number n) s = gives n s
  value_of known (long_number n) s = gives n s
  value_of known (name x) s = gives (scalar_value s.variables x) s
  value_of known (element x index) s =
      value_of known index s >>? λ i. gives (word_at i.behind.variables x.variable i.value) i.behind
  value_of known sense s = next_reading s
  value_of known next_event s = next_answer s
  value_of known (call f values) s = words_of known values s >>? λ x. meaning_in known f.function x.words x.behind
  value_of known (unary op e) s = made_of (λ w. unary_result op (type_of e) w) (value_of known e s)
  value_of known (binary op a b) s = value_of known a s
      >>? λ x. made_of (λ w. binary_result op.operator (type_of a) (type_of b) x.value w) (value_of known b x.behind)
  value_of known (shift op e count) s = made_of (λ w. shift_result op (type_of e) w count.value) (value_of known e s)
  value_of known (short_circuit op a b) s = value_of known a s
      >>? λ x. if is_settled op x.value then gives (truth_word x.value) x.behind else made_of truth_word (value_of known b x.behind)

  -- the values of a call, from left to right, each as one word
  pub words_of : List Meaning → CheckedValues → Attempt → Option EvaluatedWords
  words_of known t.no_value s = Some (record { words = []; behind = s })
  words_of known (t.value e more) s = value_of known e s
      >>? λ x. words_of known more x.behind >>? λ ws. Some (word_before (word_of e x.value) ws)
