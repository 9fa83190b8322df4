-- The types of expressions: C's, where an int has one word and a long two.
use Rattle.std.specs.Prelude.{ℕ, Bool, true, false, nat_le, if◌then◌else◌}
use Rattle.task_ast.specs.Tree.{Expression, number, long_number, name, element, sense, next_event, call, unary, binary, shift, short_circuit}
use Rattle.task_ast.specs.declared.WordType.{WordType}
use Rattle.task_ast.specs.declared.WordType.TheVariants.{Unsigned, Int, Long}
use Rattle.task_ast.specs.declared.UnaryOperator.{UnaryOperator}
use Rattle.task_ast.specs.declared.UnaryOperator.TheVariants.{Negate, Complement, Not}
use Rattle.task_ast.specs.declared.BinaryOperator.{BinaryOperator}
use Rattle.task_ast.specs.declared.BinaryOperator.TheVariants.{Multiply, Divide, Remainder, Add, Subtract, Less, LessEqual, Greater, GreaterEqual, Equal}
use Rattle.task_ast.specs.declared.BinaryOperator.TheVariants.{NotEqual, And, Xor, Or}
use Rattle.task_ast.specs.declared.names.VariableName.{VariableName}
use Rattle.task_ast.specs.declared.names.FunctionName.{FunctionName}

-- whether a number of the type has two words
abbrev pub is_long : WordType → Bool
is_long Long = true
is_long Int = false
is_long Unsigned = false

-- a number of the type has one word
abbrev pub IsOneWord : WordType → Type 0
IsOneWord Long = ⊥
IsOneWord Int = Unit {0}
IsOneWord Unsigned = Unit {0}

-- one of two, by the width of a type: for one word, or for two
abbrev pub by_width : {A : Type 0} → WordType → A → A → A
by_width Long one two = two
by_width Int one two = one
by_width Unsigned one two = one

-- an operation with a long operand is long, and else one with an unsigned operand is unsigned
abbrev pub joined_type : WordType → WordType → WordType
joined_type Long t = Long
joined_type Int t = t
joined_type Unsigned Long = Long
joined_type Unsigned Int = Unsigned
joined_type Unsigned Unsigned = Unsigned

-- `/` and `%` are unsigned
abbrev pub quotient_type : WordType → WordType
quotient_type Long = Long
quotient_type Int = Unsigned
quotient_type Unsigned = Unsigned

-- the type of an operation on operands of these types: a comparison gives an int
abbrev pub binary_type : BinaryOperator → WordType → WordType → WordType
binary_type Multiply a b = joined_type a b
binary_type Divide a b = quotient_type (joined_type a b)
binary_type Remainder a b = quotient_type (joined_type a b)
binary_type Add a b = joined_type a b
binary_type Subtract a b = joined_type a b
binary_type Less a b = Int
binary_type LessEqual a b = Int
binary_type Greater a b = Int
binary_type GreaterEqual a b = Int
binary_type Equal a b = Int
binary_type NotEqual a b = Int
binary_type And a b = joined_type a b
binary_type Xor a b = joined_type a b
binary_type Or a b = joined_type a b

-- `-` and `~` keep the type, `!` gives an int
abbrev pub unary_type : UnaryOperator → WordType → WordType
unary_type Negate t = t
unary_type Complement t = t
unary_type Not t = Int

-- a number of one word is an int up to 32767, a greater one unsigned
abbrev pub literal_type : ℕ → WordType
literal_type n = if nat_le n 32767 then Int else Unsigned

-- the type of an expression over names of these types: a reading is unsigned, a call has its function's type, a shift that of its left side
abbrev pub expression_type : {V F : Type 0} → (V → WordType) → (F → WordType) → Expression V F → WordType
expression_type of gives (number n) = literal_type n
expression_type of gives (long_number n) = Long
expression_type of gives (name x) = of x
expression_type of gives (element x index) = of x
expression_type of gives sense = Unsigned
expression_type of gives next_event = Unsigned
expression_type of gives (call f values) = gives f
expression_type of gives (unary op e) = unary_type op (expression_type of gives e)
expression_type of gives (binary op a b) = binary_type op.operator (expression_type of gives a) (expression_type of gives b)
expression_type of gives (shift op e count) = expression_type of gives e
expression_type of gives (short_circuit op a b) = Int

-- the type of an expression whose names have been looked up
abbrev pub type_of : Expression VariableName FunctionName → WordType
type_of e = expression_type (λ x. x.word_type) (λ f. f.word_type) e
