-- The names of a source, each where it stands: from the last of the text to the first, so that a name's place in the list is the number of names behind it.
use Rattle.std.specs.Prelude.{ℕ, suc, Bool, true, false, not, nat_lt, nat_le, List, [], ◌∷◌, ◌++◌, length, Option, Some, None}
use Rattle.alp_text.specs.declared.lines.Span.{Span}
use Rattle.task_ast.specs.declared.SharedDeclaration.{SharedDeclaration}
use Rattle.task_ast.specs.declared.Parameter.{Parameter}
use Rattle.task_ast.specs.Tree.{Expression, Values, Statement, Choice, Block, Function, Task, Program}
use Rattle.task_ast.specs.Tree as t
use Rattle.task_ast.specs.Types.{is_long, joined_type, expression_type}
use Rattle.task_ast.specs.declared.WordType.{WordType}
use Rattle.task_ast.specs.declared.WordType.TheVariants.{Unsigned, Int, Long}
use Rattle.task_ast.specs.declared.BinaryOperator.{BinaryOperator}
use Rattle.task_ast.specs.declared.BinaryOperator.TheVariants.{Multiply, Divide, Remainder}
use Rattle.task_check.specs.declared.fault.Kept.TheVariants as kept
use Rattle.task_check.specs.declared.occurrence.Role.{Role}
use Rattle.task_check.specs.declared.occurrence.Role.TheVariants as role
use Rattle.task_check.specs.declared.occurrence.Occurrence.{Occurrence}
use Rattle.task_check.specs.SharedTypes.{shared_type}

-- what stands at a place, by its role
abbrev pub occurrence : Span → Role → Occurrence
occurrence s r = record { span = s; role = r }

-- one more, in front of those behind it
abbrev pub and_front : List Occurrence → Span → Role → List Occurrence
and_front behind s r = behind ++ occurrence s r ∷ []

-- whether an operator takes no operand of a type: `*`, `/` and `%` take no long
abbrev pub is_refused : BinaryOperator → WordType → Bool
is_refused Multiply t = is_long t
is_refused Divide t = is_long t
is_refused Remainder t = is_long t
is_refused _ t = false

-- an operator between operands of a joined type; its fault keeps nothing
abbrev pub operator_role : BinaryOperator → WordType → Role
operator_role op t = role.Operand (is_refused op t) kept.Nothing

-- the most that a number of a type is shifted by
abbrev pub most_count : WordType → ℕ
most_count Long = 31
most_count Int = 15
most_count Unsigned = 15

-- the count of a shift of a type; its fault keeps the count
abbrev pub count_role : ℕ → WordType → Role
count_role count t = role.Operand (nat_lt (most_count t) count) (kept.Number count)

-- an array's name with its index of this type, which isn't long; its fault keeps the name
abbrev pub element_of : WordType → Span → List Occurrence → List Occurrence
element_of index s behind = and_front (and_front behind s (role.Operand (is_long index) (kept.Name s))) s role.Element

-- the type of an expression over names of these types; no function's is long, which is all that is asked
abbrev pub width_type : (Span → WordType) → Expression Span Span → WordType
width_type types e = expression_type types (λ _. Unsigned) e

-- the same, by the index
abbrev pub element_front : (Span → WordType) → Span → Expression Span Span → List Occurrence → List Occurrence
element_front types s index behind = element_of (width_type types index) s behind

-- how many values a call has
abbrev pub values_length : Values Span Span → ℕ
values_length t.no_value = 0
values_length (t.value e more) = suc (values_length more)

abbrev mutual
  -- the names of an expression over names of these types, in front of those behind it
  pub expression_names : (Span → WordType) → Expression Span Span → List Occurrence → List Occurrence
  expression_names types (t.number n) behind = behind
  expression_names types (t.long_number n) behind = behind
  expression_names types (t.name s) behind = and_front behind s role.Scalar
  expression_names types (t.element s index) behind = element_front types s index (expression_names types index behind)
  expression_names types t.sense behind = behind
  expression_names types t.next_event behind = behind
  expression_names types (t.call s values) behind = and_front (values_names types values behind) s (role.Call (values_length values))
  expression_names types (t.unary op a) behind = expression_names types a behind
  expression_names types (t.binary op a b) behind =
      expression_names types a (and_front (expression_names types b behind) op.span
      (operator_role op.operator (joined_type (width_type types a) (width_type types b))))
  expression_names types (t.shift op a count) behind = expression_names types a (and_front behind count.span (count_role count.value (width_type types a)))
  expression_names types (t.short_circuit op a b) behind = expression_names types a (expression_names types b behind)

  -- those of the values of a call
  pub values_names : (Span → WordType) → Values Span Span → List Occurrence → List Occurrence
  values_names types t.no_value behind = behind
  values_names types (t.value e more) behind = expression_names types e (values_names types more behind)

-- those of an initial value, if one is written
abbrev pub value_names : (Span → WordType) → Option (Expression Span Span) → List Occurrence → List Occurrence
value_names types None behind = behind
value_names types (Some e) behind = expression_names types e behind

-- Statements stand in a task or in a function, as the Bool says: `return` is refused in a task, and `transition_to` in a function, at the
-- keyword, which comes before the names behind it.

-- a keyword that is refused or not; its fault keeps nothing
abbrev pub keyword_role : Bool → Role
keyword_role refused = role.Operand refused kept.Nothing

abbrev mutual
  -- those of a statement; the number is that of the names behind the end of its block
  pub statement_names : (Span → WordType) → Bool → ℕ → Statement Span Span Span → List Occurrence → List Occurrence
  statement_names types in_task end (t.declare of s value) behind = and_front (value_names types value behind) s (role.Local of (length behind) end false)
  statement_names types in_task end (t.assign s e) behind = and_front (expression_names types e behind) s role.Scalar
  statement_names types in_task end (t.store s index e) behind = element_front types s index (expression_names types index (expression_names types e behind))
  statement_names types in_task end (t.choose c) behind = choice_names types in_task c behind
  statement_names types in_task end (t.loop v from w below u body) behind =
      and_front (and_front (and_front (names_up_to types in_task (length behind) body behind) u role.Counter) w role.Counter) v role.Counter
  statement_names types in_task end (t.emit e) behind = expression_names types e behind
  statement_names types in_task end (t.give at e) behind = and_front (expression_names types e behind) at (keyword_role in_task)
  statement_names types in_task end (t.transition at s) behind = and_front (and_front behind s role.Target) at (keyword_role (not in_task))

  -- those of the conditions and blocks of an `if`
  pub choice_names : (Span → WordType) → Bool → Choice Span Span Span → List Occurrence → List Occurrence
  choice_names types in_task t.nothing behind = behind
  choice_names types in_task (t.otherwise b) behind = names_up_to types in_task (length behind) b behind
  choice_names types in_task (t.test e b more) behind =
      let rest = choice_names types in_task more behind in expression_names types e (names_up_to types in_task (length rest) b rest)

  -- those of the statements up to the end of their block
  pub names_up_to : (Span → WordType) → Bool → ℕ → Block Span Span Span → List Occurrence → List Occurrence
  names_up_to types in_task end t.end behind = behind
  names_up_to types in_task end (t.step s more) behind = statement_names types in_task end s (names_up_to types in_task end more behind)

-- those of a block
abbrev pub block_names : (Span → WordType) → Bool → Block Span Span Span → List Occurrence → List Occurrence
block_names types in_task b behind = names_up_to types in_task (length behind) b behind

-- those of the tasks
abbrev pub task_names : (Span → WordType) → List (Task Span Span Span) → List Occurrence → List Occurrence
task_names types [] behind = behind
task_names types (t ∷ more) behind = and_front (block_names types true t.body (task_names types more behind)) t.name role.Task

-- those of the parameters of a function, of which so many stand in front: locals up to the end of its body, of which it may have eight
abbrev pub parameter_names : ℕ → ℕ → List (Parameter Span) → List Occurrence → List Occurrence
parameter_names end at [] behind = behind
parameter_names end at (p ∷ more) behind =
    let rest = parameter_names end (suc at) more behind in and_front rest p.name (role.Local p.word_type (length rest) end (nat_le 8 at))

-- those of a function's parameters and its body
abbrev pub inner_names : (Span → WordType) → Function Span Span Span → List Occurrence → List Occurrence
inner_names types f behind = parameter_names (length behind) 0 f.parameters (block_names types false f.body behind)

-- those of the functions
abbrev pub function_names : (Span → WordType) → List (Function Span Span Span) → List Occurrence → List Occurrence
function_names types [] behind = behind
function_names types (f ∷ more) behind =
    and_front (inner_names types f (function_names types more behind)) f.name (role.Function f.word_type (length f.parameters))

-- those of the shared variables
abbrev pub shared_names : List SharedDeclaration → List Occurrence → List Occurrence
shared_names [] behind = behind
shared_names (d ∷ more) behind = and_front (shared_names more behind) d.name (role.Shared d.word_type d.extent)

-- those of a whole source
unfoldable pub program_names : List ℕ → Program Span Span Span → List Occurrence
program_names source p =
    let types = shared_type source p.shared in
    shared_names p.shared (function_names types p.functions (task_names types p.tasks (and_front [] p.entry role.Target)))
