-- How many shared variables, functions and tasks a tree declares.
use Rattle.std.proofs.Common.{◌≡◌, ℕ, suc, ◌+◌, Bool, true, false, not, nat_le, nat_lt, List, [], ◌∷◌, length, Option, Some, None, refl, arith}
use Rattle.alp_text.specs.declared.lines.Span.{Span}
use Rattle.task_ast.specs.declared.WordType.{WordType}
use Rattle.task_ast.specs.declared.Extent.{Extent}
use Rattle.task_ast.specs.declared.SharedDeclaration.{SharedDeclaration}
use Rattle.task_ast.specs.declared.Parameter.{Parameter}
use Rattle.task_ast.specs.Tree.{Expression, Values, Statement, Choice, Block, Function, Task, Program}
use Rattle.task_ast.specs.Tree as t
use Rattle.task_ast.specs.Types.{is_long, joined_type}
use Rattle.task_check.specs.declared.fault.Kept.{Kept}
use Rattle.task_check.specs.declared.fault.Kept.TheVariants as keeps
use Rattle.task_check.specs.declared.occurrence.Role.{Role}
use Rattle.task_check.specs.declared.occurrence.Role.TheVariants as role
use Rattle.task_check.specs.declared.occurrence.Occurrence.{Occurrence}
use Rattle.task_check.specs.SharedTypes.{shared_type}
use Rattle.task_check.specs.Occurrences.{is_refused, most_count, width_type, element_front, values_length}
use Rattle.task_check.specs.Occurrences.{and_front, expression_names, values_names, value_names, statement_names, choice_names, names_up_to, block_names}
use Rattle.task_check.specs.Occurrences.{parameter_names, inner_names, function_names, task_names, shared_names, program_names}
use Rattle.task_check.specs.Scope.{one_shared, one_function, one_task, shared_in, functions_in, tasks_in}

-- the names, each counted as often as its role says
abbrev count : (Role → ℕ) → List Occurrence → ℕ
count f [] = 0
count f (o ∷ front) = count f front + f o.role

count_front : (f : Role → ℕ) (names : List Occurrence) (s : Span) (r : Role) → count f (and_front names s r) ≡ f r + count f names
count_front f [] s r = omega arith
count_front f (o ∷ names) s r = omega (arith, count_front f names s r)

-- Shared variables are counted by `d`, functions by `g`, tasks by `k`, and nothing else.
module _ (f : Role → ℕ) (d g k : ℕ → ℕ)
    (d_none : d 0 ≡ 0) (d_more : (n : ℕ) → d (suc n) ≡ d n + d 1) (g_none : g 0 ≡ 0) (g_more : (n : ℕ) → g (suc n) ≡ g n + g 1)
    (k_none : k 0 ≡ 0) (k_more : (n : ℕ) → k (suc n) ≡ k n + k 1)
    (shared : (of : WordType) (e : Extent) → f (role.Shared of e) ≡ d 1) (function : (of : WordType) (n : ℕ) → f (role.Function of n) ≡ g 1)
    (task : f role.Task ≡ k 1) (scalar : f role.Scalar ≡ 0) (array : f role.Element ≡ 0) (counter : f role.Counter ≡ 0)
    (local : (of : WordType) (b e : ℕ) (extra : Bool) → f (role.Local of b e extra) ≡ 0) (call : (n : ℕ) → f (role.Call n) ≡ 0)
    (target : f role.Target ≡ 0) (operand : (refused : Bool) (kept : Kept) → f (role.Operand refused kept) ≡ 0) (types : Span → WordType) where
  count_operand : (names : List Occurrence) (s : Span) (refused : Bool) (kept : Kept) → count f (and_front names s (role.Operand refused kept)) ≡ count f names
  count_operand names s refused kept = omega (arith, count_front f names s (role.Operand refused kept), operand refused kept)

  count_element : (s : Span) (index : Expression Span Span) (names : List Occurrence) → count f (element_front types s index names) ≡ count f names
  count_element s index names =
      let refused = is_long (width_type types index) in
      let behind = and_front names s (role.Operand refused (keeps.Name s)) in
      omega (arith, count_front f behind s role.Element, array, count_operand names s refused (keeps.Name s))

  mutual
    count_expression : (e : Expression Span Span) (names : List Occurrence) → count f (expression_names types e names) ≡ count f names
    count_expression (t.number n) names = refl
    count_expression (t.long_number n) names = refl
    count_expression (t.name s) names = omega (arith, count_front f names s role.Scalar, scalar)
    count_expression (t.element s index) names =
        omega (arith, count_element s index (expression_names types index names), count_expression index names)
    count_expression t.sense names = refl
    count_expression t.next_event names = refl
    count_expression (t.call s values) names =
        omega (
          arith,
          count_front f (values_names types values names) s (role.Call (values_length values)),
          call (values_length values),
          count_values values names,
        )
    count_expression (t.unary op a) names = count_expression a names
    count_expression (t.binary op a b) names =
        let refused = is_refused op.operator (joined_type (width_type types a) (width_type types b)) in
        omega (
          arith,
          count_expression a (and_front (expression_names types b names) op.span (role.Operand refused keeps.Nothing)),
          count_operand (expression_names types b names) op.span refused keeps.Nothing,
          count_expression b names,
        )
    count_expression (t.shift op a c) names =
        let refused = nat_lt (most_count (width_type types a)) c.value in
        omega (
          arith,
          count_expression a (and_front names c.span (role.Operand refused (keeps.Number c.value))),
          count_operand names c.span refused (keeps.Number c.value),
        )
    count_expression (t.short_circuit op a b) names = omega (arith, count_expression a (expression_names types b names), count_expression b names)

    count_values : (values : Values Span Span) (names : List Occurrence) → count f (values_names types values names) ≡ count f names
    count_values t.no_value names = refl
    count_values (t.value e more) names = omega (arith, count_expression e (values_names types more names), count_values more names)

  count_value : (e : Option (Expression Span Span)) (names : List Occurrence) → count f (value_names types e names) ≡ count f names
  count_value None names = refl
  count_value (Some e) names = count_expression e names

  module _ (in_task : Bool) where
    mutual
      count_statement : (end : ℕ) (s : Statement Span Span Span) (names : List Occurrence) → count f (statement_names types in_task end s names) ≡ count f names
      count_statement end (t.declare of s e) names =
          omega (
            arith,
            count_front f (value_names types e names) s (role.Local of (length names) end false),
            local of (length names) end false,
            count_value e names,
          )
      count_statement end (t.assign s e) names =
          omega (arith, count_front f (expression_names types e names) s role.Scalar, scalar, count_expression e names)
      count_statement end (t.store s index e) names =
          omega (
            arith,
            count_element s index (expression_names types index (expression_names types e names)),
            count_expression index (expression_names types e names),
            count_expression e names,
          )
      count_statement end (t.choose c) names = count_choice c names
      count_statement end (t.loop a from b below c body) names =
          let inner = names_up_to types in_task (length names) body names in
          let first = and_front inner c role.Counter in
          let second = and_front first b role.Counter in
          omega (
            arith,
            count_front f second a role.Counter,
            count_front f first b role.Counter,
            count_front f inner c role.Counter,
            counter,
            count_block (length names) body names,
          )
      count_statement end (t.emit e) names = count_expression e names
      count_statement end (t.give at e) names =
          omega (arith, count_operand (expression_names types e names) at in_task keeps.Nothing, count_expression e names)
      count_statement end (t.transition at s) names =
          omega (arith, count_operand (and_front names s role.Target) at (not in_task) keeps.Nothing, count_front f names s role.Target, target)

      count_choice : (c : Choice Span Span Span) (names : List Occurrence) → count f (choice_names types in_task c names) ≡ count f names
      count_choice t.nothing names = refl
      count_choice (t.otherwise b) names = count_block (length names) b names
      count_choice (t.test e b more) names =
          let rest = choice_names types in_task more names in
          omega (
            arith,
            count_expression e (names_up_to types in_task (length rest) b rest),
            count_block (length rest) b rest,
            count_choice more names,
          )

      count_block : (end : ℕ) (b : Block Span Span Span) (names : List Occurrence) → count f (names_up_to types in_task end b names) ≡ count f names
      count_block end t.end names = refl
      count_block end (t.step s more) names =
          omega (arith, count_statement end s (names_up_to types in_task end more names), count_block end more names)

  count_tasks : (ts : List (Task Span Span Span)) (names : List Occurrence) → count f (task_names types ts names) ≡ k (length ts) + count f names
  count_tasks [] names = omega (arith, k_none)
  count_tasks (x ∷ ts) names =
      let rest = task_names types ts names in
      omega (
        arith,
        count_front f (block_names types true x.body rest) x.name role.Task,
        task,
        count_block true (length rest) x.body rest,
        count_tasks ts names,
        k_more (length ts),
      )

  count_parameters : (end at : ℕ) (ps : List (Parameter Span)) (names : List Occurrence) → count f (parameter_names end at ps names) ≡ count f names
  count_parameters end at [] names = refl
  count_parameters end at (p ∷ ps) names =
      let rest = parameter_names end (suc at) ps names in
      omega (
        arith,
        count_front f rest p.name (role.Local p.word_type (length rest) end (nat_le 8 at)),
        local p.word_type (length rest) end (nat_le 8 at),
        count_parameters end (suc at) ps names,
      )

  count_functions : (fs : List (Function Span Span Span)) (names : List Occurrence) → count f (function_names types fs names) ≡ g (length fs) + count f names
  count_functions [] names = omega (arith, g_none)
  count_functions (x ∷ fs) names =
      let rest = function_names types fs names in
      omega (
        arith,
        count_front f (inner_names types x rest) x.name (role.Function x.word_type (length x.parameters)),
        function x.word_type (length x.parameters),
        count_parameters (length rest) 0 x.parameters (block_names types false x.body rest),
        count_block false (length rest) x.body rest,
        count_functions fs names,
        g_more (length fs),
      )

  count_shared : (ds : List SharedDeclaration) (names : List Occurrence) → count f (shared_names ds names) ≡ d (length ds) + count f names
  count_shared [] names = omega (arith, d_none)
  count_shared (x ∷ ds) names =
      omega (
        arith,
        count_front f (shared_names ds names) x.name (role.Shared x.word_type x.extent),
        shared x.word_type x.extent,
        count_shared ds names,
        d_more (length ds),
      )

  count_program : (p : Program Span Span Span)
      → count f (shared_names p.shared (function_names types p.functions (task_names types p.tasks (and_front [] p.entry role.Target))))
      ≡ d (length p.shared) + g (length p.functions) + k (length p.tasks)
  count_program p =
      let last = and_front [] p.entry role.Target in
      omega (
        arith,
        count_shared p.shared (function_names types p.functions (task_names types p.tasks last)),
        count_functions p.functions (task_names types p.tasks last),
        count_tasks p.tasks last,
        count_front f [] p.entry role.Target,
        target,
      )

-- ---- the three counts

shared_is_count : (names : List Occurrence) → shared_in names ≡ count one_shared names
shared_is_count [] = refl
shared_is_count (o ∷ names) = omega (arith, shared_is_count names)

functions_is_count : (names : List Occurrence) → functions_in names ≡ count one_function names
functions_is_count [] = refl
functions_is_count (o ∷ names) = omega (arith, functions_is_count names)

tasks_is_count : (names : List Occurrence) → tasks_in names ≡ count one_task names
tasks_is_count [] = refl
tasks_is_count (o ∷ names) = omega (arith, tasks_is_count names)

-- as many shared variables are declared as the tree has
pub shared_of_program : (source : List ℕ) (p : Program Span Span Span) → shared_in (program_names source p) ≡ length p.shared
unfolding program_names
shared_of_program source p = omega (
  arith,
  shared_is_count (program_names source p),
  count_program one_shared (λ n. n) (λ n. 0) (λ n. 0) refl (λ n. omega arith) refl (λ n. refl) refl (λ n. refl) (λ of e. refl) (λ of n. refl)
      refl refl refl refl (λ of b e extra. refl) (λ n. refl) refl (λ refused kept. refl) (shared_type source p.shared) p,
)

-- and as many functions
pub functions_of_program : (source : List ℕ) (p : Program Span Span Span) → functions_in (program_names source p) ≡ length p.functions
unfolding program_names
functions_of_program source p = omega (
  arith,
  functions_is_count (program_names source p),
  count_program one_function (λ n. 0) (λ n. n) (λ n. 0) refl (λ n. refl) refl (λ n. omega arith) refl (λ n. refl) (λ of e. refl) (λ of n. refl)
      refl refl refl refl (λ of b e extra. refl) (λ n. refl) refl (λ refused kept. refl) (shared_type source p.shared) p,
)

-- and as many tasks
pub tasks_of_program : (source : List ℕ) (p : Program Span Span Span) → tasks_in (program_names source p) ≡ length p.tasks
unfolding program_names
tasks_of_program source p = omega (
  arith,
  tasks_is_count (program_names source p),
  count_program one_task (λ n. 0) (λ n. 0) (λ n. n) refl (λ n. refl) refl (λ n. refl) refl (λ n. omega arith) (λ of e. refl) (λ of n. refl)
      refl refl refl refl (λ of b e extra. refl) (λ n. refl) refl (λ refused kept. refl) (shared_type source p.shared) p,
)
