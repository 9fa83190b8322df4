-- Reading programs.
use Rattle.std.specs.Prelude.{ℕ, Bool, true, false, List, [], ◌∷◌, ◌++◌, Option, Some}
use Rattle.task_lex.specs.declared.token.Kind.{Kind}
use Rattle.task_lex.specs.declared.token.Kind.TheVariants as k
use Rattle.task_ast.specs.declared.WordType.{WordType}
use Rattle.task_ast.specs.declared.WordType.TheVariants as word
use Rattle.task_ast.specs.declared.Extent.{Extent}
use Rattle.task_ast.specs.declared.Extent.TheVariants as extent
use Rattle.task_ast.specs.declared.SharedDeclaration.{SharedDeclaration}
use Rattle.task_grammar.specs.Parsed.{Parameter, Function, Task, Program}
use Rattle.task_grammar.specs.Grammar.{shared_from, parameter_from, function_from, task_from, program_from, negated, long_negated, long_worth}
use Rattle.task_grammar.specs.Reading.{done, fault, Parser, ◌>>=◌, pure, refuse, token, by, Turn, again, over, repeat}
use Rattle.task_grammar.specs.Statements.{typed, block}

-- items, as long as the next token begins one
abbrev pub many_if : {A : Type 0} → Parser A → List A → Bool → Parser (Turn (List A) (List A))
many_if item found true = item >>= λ x. pure (again (found ++ x ∷ []))
many_if item found false = pure (over found)

-- by the next token
abbrev pub many_turn : {A : Type 0} → (Option Kind → Bool) → Parser A → List A → Parser (Turn (List A) (List A))
many_turn goes item found = by (λ kind. many_if item found (goes kind))

-- all of them
abbrev pub many : {A : Type 0} → (Option Kind → Bool) → Parser A → List A → Parser (List A)
many goes item = repeat (many_turn goes item)

-- an initial value, behind its `=`
abbrev pub valued_by : Option Kind → Parser Extent
valued_by (Some k.Minus) = token k.Minus >>= λ m. token k.Number >>= λ n. pure (extent.Scalar (negated n.value))
valued_by _ = token k.Number >>= λ n. pure (extent.Scalar n.value)

-- by the token behind a shared name
abbrev pub extent_by : Option Kind → Parser Extent
extent_by (Some k.OpenSquare) = token k.OpenSquare >>= λ o. token k.Number >>= λ n. token k.CloseSquare >>= λ c.
    pure (extent.Array n.value)
extent_by (Some k.Assign) = token k.Assign >>= λ q. by valued_by
extent_by _ = pure (extent.Scalar 0)

-- what stands behind a shared name
unfoldable pub extents : Parser Extent
extents = by extent_by

-- a number or a long number, by the next token
abbrev pub worth_by : Option Kind → Parser ℕ
worth_by (Some k.LongNumber) = token k.LongNumber >>= λ n. pure (long_worth n)
worth_by _ = token k.Number >>= λ n. pure n.value

unfoldable pub worth : Parser ℕ
worth = by worth_by

-- the initial value of a long, behind its `=`
abbrev pub long_valued_by : Option Kind → Parser Extent
long_valued_by (Some k.Minus) = token k.Minus >>= λ m. worth >>= λ w. pure (extent.Long (long_negated w))
long_valued_by _ = worth >>= λ w. pure (extent.Long w)

-- by the token behind the name of a long
abbrev pub long_extent_by : Option Kind → Parser Extent
long_extent_by (Some k.Assign) = token k.Assign >>= λ q. by long_valued_by
long_extent_by _ = pure (extent.Long 0)

-- what stands behind the name of a long
unfoldable pub long_extents : Parser Extent
long_extents = by long_extent_by

-- a declaration of this type, from its name on
abbrev pub named_of : WordType → Parser Extent → Parser SharedDeclaration
named_of of extent = token k.Name >>= λ n. extent >>= λ found. token k.Semicolon >>= λ z. pure (shared_from of n found)

-- a long: `long` stands behind `unsigned` alone
abbrev pub long_behind : WordType → Parser SharedDeclaration
long_behind word.Unsigned = token k.Long >>= λ l. named_of word.Long long_extents
long_behind word.Int = refuse
long_behind word.Long = refuse

-- by the token behind the type
abbrev pub shared_by : Option Kind → WordType → Parser SharedDeclaration
shared_by (Some k.Long) of = long_behind of
shared_by _ of = named_of of extents

-- a shared declaration
unfoldable pub shared : Parser SharedDeclaration
shared = token k.Shared >>= λ h. typed >>= λ of. by (λ kind. shared_by kind of)

-- a parameter
unfoldable pub parameter : Parser Parameter
parameter = typed >>= λ of. token k.Name >>= λ n. pure (parameter_from of n)

-- a further parameter, behind its comma
unfoldable pub further : Parser Parameter
further = token k.Comma >>= λ c. parameter

-- begins a further parameter
abbrev pub is_comma : Option Kind → Bool
is_comma (Some k.Comma) = true
is_comma _ = false

-- one parameter or more
unfoldable pub some_parameters : Parser (List Parameter)
some_parameters = parameter >>= λ first. many is_comma further (first ∷ [])

-- by the token behind the opening bracket of a function
abbrev pub parameters_by : Option Kind → Parser (List Parameter)
parameters_by (Some k.Close) = pure []
parameters_by _ = some_parameters

-- the parameters of a function
unfoldable pub parameters : Parser (List Parameter)
parameters = by parameters_by

-- a function
unfoldable pub function : Parser Function
function = typed >>= λ of. token k.Name >>= λ n. token k.Open >>= λ o. parameters >>= λ found. token k.Close >>= λ c.
    block >>= λ body. pure (function_from of n found body)

-- a task
unfoldable pub task : Parser Task
task = token k.Task >>= λ h. token k.Name >>= λ n. block >>= λ body. pure (task_from n body)

-- begins a shared declaration
abbrev pub is_shared : Option Kind → Bool
is_shared (Some k.Shared) = true
is_shared _ = false

-- begins a function
abbrev pub is_function : Option Kind → Bool
is_function (Some k.Unsigned) = true
is_function (Some k.Int) = true
is_function _ = false

-- begins a task
abbrev pub is_task : Option Kind → Bool
is_task (Some k.Task) = true
is_task _ = false

-- one task or more
unfoldable pub tasks : Parser (List Task)
tasks = task >>= λ first. many is_task task (first ∷ [])

-- the end of the text
abbrev pub ending : {A : Type 0} → A → Parser A
ending a [] = done a []
ending a (t ∷ ts) = fault (t ∷ ts)

-- a whole program
unfoldable pub program : Parser Program
program = many is_shared shared [] >>= λ shareds. many is_function function [] >>= λ functions. tasks >>= λ all.
    token k.Entry >>= λ h. token k.Name >>= λ n. token k.Semicolon >>= λ z. ending (program_from shareds functions all n)
