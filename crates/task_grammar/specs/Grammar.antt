-- Which tokens spell which program: the grammar of the language, by cases. Expressions are C's, with C's precedences
-- (ISO C, 6.5), but that a shift has a literal count; tasks and `transition_to` are those of Alpaca (Maeng, Colin,
-- Lucia: OOPSLA 2017).
use Rattle.std.specs.Prelude.{◌≡◌, ℕ, suc, ◌+◌, ◌-◌, ◌*◌, ◌^◌, ◌%◌, List, [], ◌∷◌, ◌++◌, Option, Some, None}
use Rattle.alp_text.specs.declared.lines.Span.{Span}
use Rattle.task_lex.specs.declared.token.Token.{Token}
use Rattle.task_lex.specs.declared.token.Kind.{Kind}
use Rattle.task_lex.specs.declared.token.Kind.TheVariants as k
use Rattle.task_ast.specs.declared.UnaryOperator.{UnaryOperator}
use Rattle.task_ast.specs.declared.UnaryOperator.TheVariants as unary
use Rattle.task_ast.specs.declared.BinaryOperator.{BinaryOperator}
use Rattle.task_ast.specs.declared.BinaryOperator.TheVariants as binary
use Rattle.task_ast.specs.declared.PlacedOperator.{PlacedOperator}
use Rattle.task_ast.specs.declared.ShiftOperator.{ShiftOperator}
use Rattle.task_ast.specs.declared.ShiftOperator.TheVariants as shift
use Rattle.task_ast.specs.declared.ShortCircuitOperator.{ShortCircuitOperator}
use Rattle.task_ast.specs.declared.ShortCircuitOperator.TheVariants as short
use Rattle.task_ast.specs.declared.Literal.{Literal}
use Rattle.task_ast.specs.declared.WordType.{WordType}
use Rattle.task_ast.specs.declared.WordType.TheVariants as word
use Rattle.task_ast.specs.declared.Extent.{Extent}
use Rattle.task_ast.specs.declared.Extent.TheVariants as extent
use Rattle.task_ast.specs.declared.SharedDeclaration.{SharedDeclaration}
use Rattle.task_ast.specs.Tree.{block_of, choice_of}
use Rattle.task_grammar.specs.Parsed.{Expression, Values, Statement, Block, Tested, Parameter, Function, Task, Program}
use Rattle.task_ast.specs.Tree as node
use Rattle.task_grammar.specs.declared.operators.Infix.{Infix}
use Rattle.task_grammar.specs.declared.operators.Infix.TheVariants.{Binary, Shift, ShortCircuit}

-- the operator in front of an operand
abbrev pub prefix_of : Kind → Option UnaryOperator
prefix_of k.Minus = Some unary.Negate
prefix_of k.Tilde = Some unary.Complement
prefix_of k.Bang = Some unary.Not
prefix_of _ = None

-- the operator between two sides, and its precedence: from 1, the tightest, to 10, the weakest
abbrev pub infix_of : Kind → Option (ℕ × Infix)
infix_of k.Star = Some (1, Binary binary.Multiply)
infix_of k.Slash = Some (1, Binary binary.Divide)
infix_of k.Percent = Some (1, Binary binary.Remainder)
infix_of k.Plus = Some (2, Binary binary.Add)
infix_of k.Minus = Some (2, Binary binary.Subtract)
infix_of k.ShiftLeft = Some (3, Shift shift.Left)
infix_of k.ShiftRight = Some (3, Shift shift.Right)
infix_of k.Less = Some (4, Binary binary.Less)
infix_of k.LessEqual = Some (4, Binary binary.LessEqual)
infix_of k.Greater = Some (4, Binary binary.Greater)
infix_of k.GreaterEqual = Some (4, Binary binary.GreaterEqual)
infix_of k.Equal = Some (5, Binary binary.Equal)
infix_of k.NotEqual = Some (5, Binary binary.NotEqual)
infix_of k.Ampersand = Some (6, Binary binary.And)
infix_of k.Caret = Some (7, Binary binary.Xor)
infix_of k.Bar = Some (8, Binary binary.Or)
infix_of k.AndAnd = Some (9, ShortCircuit short.And)
infix_of k.OrOr = Some (10, ShortCircuit short.Or)
infix_of _ = None

-- the precedence of a whole expression
abbrev pub weakest : ℕ
weakest = 10

-- an operator with its place
abbrev pub placed : BinaryOperator → Span → PlacedOperator
placed op place = record { operator = op; span = place }

-- what a long number is worth
abbrev pub long_worth : Token → ℕ
long_worth n = n.value + 65536 * n.high

-- a number with its place
abbrev pub literal_of : Token → Literal
literal_of n = record { value = n.value; span = n.span }

mutual
  -- The tokens spell the expression, and no operator outside brackets binds more weakly than the precedence; at 0 there
  -- is none between two sides. Operators associate to the left. Brackets make no node.
  pub data IsExpression : ℕ → List Token → Expression → Type 0 where
    -- a number
    number : (n : Token) → n.kind ≡ k.Number → IsExpression 0 (n ∷ []) (node.number n.value)
    -- a long number
    long_number : (n : Token) → n.kind ≡ k.LongNumber → IsExpression 0 (n ∷ []) (node.long_number (long_worth n))
    -- a name
    name : (n : Token) → n.kind ≡ k.Name → IsExpression 0 (n ∷ []) (node.name n.span)
    -- `name [ index ]`
    element : (n o c : Token) (ts : List Token) (index : Expression) → n.kind ≡ k.Name → o.kind ≡ k.OpenSquare
        → IsExpression weakest ts index → c.kind ≡ k.CloseSquare
        → IsExpression 0 (n ∷ o ∷ ts ++ c ∷ []) (node.element n.span index)
    -- `sense ( )`
    sense : (s o c : Token) → s.kind ≡ k.Sense → o.kind ≡ k.Open → c.kind ≡ k.Close
        → IsExpression 0 (s ∷ o ∷ c ∷ []) node.sense
    -- `next_event ( )`
    next_event : (e o c : Token) → e.kind ≡ k.NextEvent → o.kind ≡ k.Open → c.kind ≡ k.Close
        → IsExpression 0 (e ∷ o ∷ c ∷ []) node.next_event
    -- `name ( values )`
    call : (n o c : Token) (ts : List Token) (values : Values) → n.kind ≡ k.Name → o.kind ≡ k.Open → IsValues ts values
        → c.kind ≡ k.Close → IsExpression 0 (n ∷ o ∷ ts ++ c ∷ []) (node.call n.span values)
    -- `( inner )`
    brackets : (o c : Token) (ts : List Token) (inner : Expression) → o.kind ≡ k.Open → IsExpression weakest ts inner
        → c.kind ≡ k.Close → IsExpression 0 (o ∷ ts ++ c ∷ []) inner
    -- an operator in front of its operand
    prefixed : (t : Token) (op : UnaryOperator) (ts : List Token) (inner : Expression) → prefix_of t.kind ≡ Some op
        → IsExpression 0 ts inner → IsExpression 0 (t ∷ ts) (node.unary op inner)
    -- an expression of a tighter precedence is one of the next
    tighter : (j : ℕ) (ts : List Token) (inner : Expression) → IsExpression j ts inner → IsExpression (suc j) ts inner
    -- an operator between two sides: the left one of its precedence, the right one tighter
    joined : (j : ℕ) (t : Token) (op : BinaryOperator) (xs ys : List Token) (a b : Expression) → IsExpression (suc j) xs a
        → infix_of t.kind ≡ Some (suc j, Binary op) → IsExpression j ys b
        → IsExpression (suc j) (xs ++ t ∷ ys) (node.binary (placed op t.span) a b)
    -- `&&` or `||` between two sides, in the same way
    short_circuited : (j : ℕ) (t : Token) (op : ShortCircuitOperator) (xs ys : List Token) (a b : Expression)
        → IsExpression (suc j) xs a → infix_of t.kind ≡ Some (suc j, ShortCircuit op) → IsExpression j ys b
        → IsExpression (suc j) (xs ++ t ∷ ys) (node.short_circuit op a b)
    -- a shift: its right side is a number
    shifted : (j : ℕ) (t n : Token) (op : ShiftOperator) (xs : List Token) (a : Expression) → IsExpression (suc j) xs a
        → infix_of t.kind ≡ Some (suc j, Shift op) → n.kind ≡ k.Number
        → IsExpression (suc j) (xs ++ t ∷ n ∷ []) (node.shift op a (literal_of n))

  -- what stands between the brackets of a call: nothing, or expressions with commas between them
  pub data IsValues : List Token → Values → Type 0 where
    -- nothing
    no_values : IsValues [] node.no_value
    -- a first one, then further ones
    values : (xs ys : List Token) (first : Expression) (more : Values) → IsExpression weakest xs first → IsMoreValues ys more
        → IsValues (xs ++ ys) (node.value first more)

  -- further values of a call
  pub data IsMoreValues : List Token → Values → Type 0 where
    -- no more
    no_more : IsMoreValues [] node.no_value
    -- `, value`, then further ones
    another_value : (c : Token) (xs ys : List Token) (next : Expression) (more : Values) → c.kind ≡ k.Comma
        → IsExpression weakest xs next → IsMoreValues ys more → IsMoreValues (c ∷ xs ++ ys) (node.value next more)

-- the type that a keyword names
abbrev pub type_of : Kind → Option WordType
type_of k.Unsigned = Some word.Unsigned
type_of k.Int = Some word.Int
type_of _ = None

-- `= value ;`
pub data IsGiven : List Token → Expression → Type 0 where
  given : (q z : Token) (ts : List Token) (value : Expression) → q.kind ≡ k.Assign → IsExpression weakest ts value
      → z.kind ≡ k.Semicolon → IsGiven (q ∷ ts ++ z ∷ []) value

-- a condition and its block
abbrev pub arm_from : Expression → Block → Tested
arm_from condition block = record { condition = condition; block = block }

mutual
  -- a statement
  pub data IsStatement : List Token → Statement → Type 0 where
    -- `type name ;`
    declare : (t n z : Token) (of : WordType) → type_of t.kind ≡ Some of → n.kind ≡ k.Name → z.kind ≡ k.Semicolon
        → IsStatement (t ∷ n ∷ z ∷ []) (node.declare of n.span None)
    -- `type name = value ;`
    declare_as : (t n : Token) (of : WordType) (ts : List Token) (value : Expression) → type_of t.kind ≡ Some of
        → n.kind ≡ k.Name → IsGiven ts value → IsStatement (t ∷ n ∷ ts) (node.declare of n.span (Some value))
    -- `name = value ;`
    assign : (n : Token) (ts : List Token) (value : Expression) → n.kind ≡ k.Name → IsGiven ts value
        → IsStatement (n ∷ ts) (node.assign n.span value)
    -- `name [ index ] = value ;`
    store : (n o c : Token) (is ts : List Token) (index value : Expression) → n.kind ≡ k.Name → o.kind ≡ k.OpenSquare
        → IsExpression weakest is index → c.kind ≡ k.CloseSquare → IsGiven ts value
        → IsStatement (n ∷ o ∷ is ++ (c ∷ ts)) (node.store n.span index value)
    -- `emit ( value ) ;`
    emit : (t o c z : Token) (ts : List Token) (value : Expression) → t.kind ≡ k.Emit → o.kind ≡ k.Open
        → IsExpression weakest ts value → c.kind ≡ k.Close → z.kind ≡ k.Semicolon
        → IsStatement (t ∷ o ∷ ts ++ c ∷ z ∷ []) (node.emit value)
    -- `return value ;`
    give : (t z : Token) (ts : List Token) (value : Expression) → t.kind ≡ k.Return → IsExpression weakest ts value
        → z.kind ≡ k.Semicolon → IsStatement (t ∷ ts ++ z ∷ []) (node.give t.span value)
    -- `transition_to ( name ) ;`
    transition : (t o n c z : Token) → t.kind ≡ k.TransitionTo → o.kind ≡ k.Open → n.kind ≡ k.Name → c.kind ≡ k.Close
        → z.kind ≡ k.Semicolon → IsStatement (t ∷ o ∷ n ∷ c ∷ z ∷ []) (node.transition t.span n.span)
    -- an `if` with its block, then what its `else`s add
    choice : (xs ys : List Token) (arm : Tested) (arms : List Tested) (last : Option Block) → IsArm xs arm
        → IsElses ys arms last → IsStatement (xs ++ ys) (node.choose (choice_of (arm ∷ arms) last))
    -- `for ( name = number ; name < number ; name ++ ) block`; that the names are one is not of the grammar
    loop : (f o n q a y m l b z w p c : Token) (ts : List Token) (body : Block) → f.kind ≡ k.For → o.kind ≡ k.Open
        → n.kind ≡ k.Name → q.kind ≡ k.Assign → a.kind ≡ k.Number → y.kind ≡ k.Semicolon → m.kind ≡ k.Name
        → l.kind ≡ k.Less → b.kind ≡ k.Number → z.kind ≡ k.Semicolon → w.kind ≡ k.Name → p.kind ≡ k.PlusPlus
        → c.kind ≡ k.Close → IsBlock ts body
        → IsStatement (f ∷ o ∷ n ∷ q ∷ a ∷ y ∷ m ∷ l ∷ b ∷ z ∷ w ∷ p ∷ c ∷ ts)
        (node.loop n.span a.value m.span b.value w.span body)

  -- `else if`s with their blocks, and the last block
  pub data IsElses : List Token → List Tested → Option Block → Type 0 where
    -- no `else`
    nothing : IsElses [] [] None
    -- `else block`
    last : (t : Token) (ts : List Token) (block : Block) → t.kind ≡ k.Else → IsBlock ts block
        → IsElses (t ∷ ts) [] (Some block)
    -- `else if ( condition ) block`, then further ones
    another : (t : Token) (xs ys : List Token) (arm : Tested) (arms : List Tested) (last : Option Block)
        → t.kind ≡ k.Else → IsArm xs arm → IsElses ys arms last → IsElses (t ∷ xs ++ ys) (arm ∷ arms) last

  -- `if (condition) block`
  pub data IsArm : List Token → Tested → Type 0 where
    arm : (i o c : Token) (ts bs : List Token) (condition : Expression) (block : Block) → i.kind ≡ k.If
        → o.kind ≡ k.Open → IsExpression weakest ts condition → c.kind ≡ k.Close → IsBlock bs block
        → IsArm (i ∷ o ∷ ts ++ (c ∷ bs)) (arm_from condition block)

  -- statements in braces
  pub data IsBlock : List Token → Block → Type 0 where
    block : (o c : Token) (ts : List Token) (all : List Statement) → o.kind ≡ k.OpenBrace → IsStatements ts all
        → c.kind ≡ k.CloseBrace → IsBlock (o ∷ ts ++ c ∷ []) (block_of all)

  -- statements, one after another
  pub data IsStatements : List Token → List Statement → Type 0 where
    -- no statement
    none : IsStatements [] []
    -- a statement, then further ones
    more : (xs ys : List Token) (first : Statement) (all : List Statement) → IsStatement xs first → IsStatements ys all
        → IsStatements (xs ++ ys) (first ∷ all)

-- the tokens spell the items, one after another
abbrev pub Row : {A : Type 0} → (List Token → A → Type 0) → List Token → List A → Type 0
Row R ts [] = ts ≡ []
Row R ts (x ∷ all) = (xs : List Token) × (ys : List Token) × (ts ≡ xs ++ ys) × R xs x × Row R ys all

-- 65536 - n modulo 65536
abbrev pub negated : ℕ → ℕ
negated n = (65536 - n) % 65536

-- what stands behind a shared name: nothing, a length, or an initial value with or without a minus
pub data IsExtent : List Token → Extent → Type 0 where
  -- nothing
  nothing_written : IsExtent [] (extent.Scalar 0)
  -- `[ number ]`
  array : (o n c : Token) → o.kind ≡ k.OpenSquare → n.kind ≡ k.Number → c.kind ≡ k.CloseSquare
      → IsExtent (o ∷ n ∷ c ∷ []) (extent.Array n.value)
  -- `= number`
  value : (q n : Token) → q.kind ≡ k.Assign → n.kind ≡ k.Number → IsExtent (q ∷ n ∷ []) (extent.Scalar n.value)
  -- `= - number`
  negative : (q m n : Token) → q.kind ≡ k.Assign → m.kind ≡ k.Minus → n.kind ≡ k.Number
      → IsExtent (q ∷ m ∷ n ∷ []) (extent.Scalar (negated n.value))

-- 2^32 - n modulo 2^32
abbrev pub long_negated : ℕ → ℕ
long_negated n = (2 ^ 32 - n) % 2 ^ 32

-- the token is a number or a long number, and is worth this
pub data IsWorth : Token → ℕ → Type 0 where
  number : (n : Token) → n.kind ≡ k.Number → IsWorth n n.value
  long_number : (n : Token) → n.kind ≡ k.LongNumber → IsWorth n (long_worth n)

-- what stands behind the name of a long: nothing, or an initial value with or without a minus
pub data IsLongExtent : List Token → Extent → Type 0 where
  -- nothing
  no_value : IsLongExtent [] (extent.Long 0)
  -- `= number`
  long_value : (q n : Token) (w : ℕ) → q.kind ≡ k.Assign → IsWorth n w → IsLongExtent (q ∷ n ∷ []) (extent.Long w)
  -- `= - number`
  long_negative : (q m n : Token) (w : ℕ) → q.kind ≡ k.Assign → m.kind ≡ k.Minus → IsWorth n w
      → IsLongExtent (q ∷ m ∷ n ∷ []) (extent.Long (long_negated w))

-- a shared declaration
abbrev pub shared_from : WordType → Token → Extent → SharedDeclaration
shared_from of n found = record { word_type = of; name = n.span; extent = found }

-- `shared type name extent ;`, or `shared unsigned long name extent ;`
pub data IsShared : List Token → SharedDeclaration → Type 0 where
  shared : (h t n z : Token) (of : WordType) (ts : List Token) (found : Extent) → h.kind ≡ k.Shared
      → type_of t.kind ≡ Some of → n.kind ≡ k.Name → IsExtent ts found → z.kind ≡ k.Semicolon
      → IsShared (h ∷ t ∷ n ∷ ts ++ z ∷ []) (shared_from of n found)
  long : (h t l n z : Token) (ts : List Token) (found : Extent) → h.kind ≡ k.Shared → t.kind ≡ k.Unsigned → l.kind ≡ k.Long
      → n.kind ≡ k.Name → IsLongExtent ts found → z.kind ≡ k.Semicolon
      → IsShared (h ∷ t ∷ l ∷ n ∷ ts ++ z ∷ []) (shared_from word.Long n found)

-- a parameter
abbrev pub parameter_from : WordType → Token → Parameter
parameter_from of n = record { word_type = of; name = n.span }

-- `type name`
pub data IsParameter : List Token → Parameter → Type 0 where
  parameter : (t n : Token) (of : WordType) → type_of t.kind ≡ Some of → n.kind ≡ k.Name → IsParameter (t ∷ n ∷ []) (parameter_from of n)

-- `, type name`
pub data IsFurther : List Token → Parameter → Type 0 where
  further : (c : Token) (xs : List Token) (found : Parameter) → c.kind ≡ k.Comma → IsParameter xs found → IsFurther (c ∷ xs) found

-- what stands between the brackets of a function: nothing, or parameters with commas between them
pub data IsParameters : List Token → List Parameter → Type 0 where
  no_parameter : IsParameters [] []
  parameters : (xs ys : List Token) (first : Parameter) (more : List Parameter) → IsParameter xs first → Row IsFurther ys more
      → IsParameters (xs ++ ys) (first ∷ more)

-- a function
abbrev pub function_from : WordType → Token → List Parameter → Block → Function
function_from of n found body = record { word_type = of; name = n.span; parameters = found; body = body }

-- `type name ( parameters ) block`
pub data IsFunction : List Token → Function → Type 0 where
  function : (t n o c : Token) (of : WordType) (ps ts : List Token) (parameters : List Parameter) (body : Block)
      → type_of t.kind ≡ Some of → n.kind ≡ k.Name → o.kind ≡ k.Open → IsParameters ps parameters → c.kind ≡ k.Close → IsBlock ts body
      → IsFunction (t ∷ n ∷ o ∷ ps ++ (c ∷ ts)) (function_from of n parameters body)

-- a task
abbrev pub task_from : Token → Block → Task
task_from n body = record { name = n.span; body = body }

-- `task name block`
pub data IsTask : List Token → Task → Type 0 where
  task : (h n : Token) (ts : List Token) (body : Block) → h.kind ≡ k.Task → n.kind ≡ k.Name → IsBlock ts body
      → IsTask (h ∷ n ∷ ts) (task_from n body)

-- a program
abbrev pub program_from : List SharedDeclaration → List Function → List Task → Token → Program
program_from shareds functions tasks n = record { shared = shareds; functions = functions; tasks = tasks; entry = n.span }

-- shared declarations, functions, one task or more, then `entry name ;`
pub data IsProgram : List Token → Program → Type 0 where
  program : (xs fs ys zs : List Token) (h n z : Token) (shareds : List SharedDeclaration) (functions : List Function) (first : Task)
      (others : List Task)
      → Row IsShared xs shareds → Row IsFunction fs functions → IsTask ys first → Row IsTask zs others → h.kind ≡ k.Entry
      → n.kind ≡ k.Name → z.kind ≡ k.Semicolon
      → IsProgram (xs ++ (fs ++ (ys ++ (zs ++ (h ∷ n ∷ z ∷ []))))) (program_from shareds functions (first ∷ others) n)
