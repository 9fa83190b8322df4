-- The shared variables and tasks among the names of a source.
use Rattle.std.proofs.Common.{◌≡◌, ◌∙◌, ℕ, suc, List, [], ◌∷◌, ◌++◌, map, length, refl, sym, ap, append_assoc, Option, Some, None, append-nil, Bool, true}
use Rattle.std.proofs.Common.{false, not}
use Rattle.std.specs.Prelude.{nat_le}
use Rattle.alp_text.specs.declared.lines.Span.{Span}
use Rattle.task_ast.specs.declared.SharedDeclaration.{SharedDeclaration}
use Rattle.task_ast.specs.declared.Parameter.{Parameter}
use Rattle.task_ast.specs.Tree.{Expression, Values, Statement, Choice, Block, Function, Task, Program}
use Rattle.task_ast.specs.Tree as t
use Rattle.task_ast.specs.declared.WordType.{WordType}
use Rattle.task_ast.specs.Types.{is_long, joined_type}
use Rattle.cost_bound.specs.task_check.declared.fault.Kept.TheVariants as kept
use Rattle.cost_bound.specs.task_check.SharedTypes.{shared_type}
use Rattle.cost_bound.specs.task_check.Occurrences.{operator_role, count_role, element_front, width_type, values_length, keyword_role}
use Rattle.cost_bound.specs.task_check.declared.occurrence.Role.{Role}
use Rattle.cost_bound.specs.task_check.declared.occurrence.Role.TheVariants as role
use Rattle.cost_bound.specs.task_check.declared.occurrence.Occurrence.{Occurrence}
use Rattle.cost_bound.specs.task_check.Scope.{text_of}
use Rattle.cost_bound.specs.task_check.Occurrences.{and_front, expression_names, values_names, value_names, statement_names, choice_names, names_up_to}
use Rattle.cost_bound.specs.task_check.Occurrences.{task_names, parameter_names, inner_names, function_names, shared_names, program_names}

-- the name that is declared, if a shared variable or a task is
abbrev pub declared_by : Role → List ℕ → List (List ℕ)
declared_by (role.Shared of e) name = name ∷ []
declared_by role.Task name = name ∷ []
declared_by (role.Function of count) name = []
declared_by (role.Local of begin end extra) name = []
declared_by role.Scalar name = []
declared_by role.Element name = []
declared_by role.Counter name = []
declared_by (role.Call count) name = []
declared_by role.Target name = []
declared_by (role.Operand refused kept) name = []

module _ (source : List ℕ) where
  -- the names that are declared, in the text's order
  abbrev pub declared : List Occurrence → List (List ℕ)
  declared [] = []
  declared (o ∷ front) = declared front ++ declared_by o.role (text_of source o.span)

  in_front : (behind : List Occurrence) (s : Span) (r : Role) → declared (and_front behind s r) ≡ declared_by r (text_of source s) ++ declared behind
  in_front [] s r = sym (append-nil (declared_by r (text_of source s)))
  in_front (o ∷ more) s r =
      ap (λ l. l ++ declared_by o.role (text_of source o.span)) (in_front more s r)
      ∙ append_assoc (declared_by r (text_of source s)) (declared more) (declared_by o.role (text_of source o.span))

  element_silent : (types : Span → WordType) (s : Span) (index : Expression Span Span) (behind : List Occurrence)
      → declared (element_front types s index behind) ≡ declared behind
  element_silent types s index behind =
      let here = role.Operand (is_long (width_type types index)) (kept.Name s) in
      in_front (and_front behind s here) s role.Element ∙ in_front behind s here

  mutual
    expression_silent : (types : Span → WordType) (e : Expression Span Span) (behind : List Occurrence)
        → declared (expression_names types e behind) ≡ declared behind
    expression_silent types (t.number n) behind = refl
    expression_silent types (t.long_number n) behind = refl
    expression_silent types (t.name s) behind = in_front behind s role.Scalar
    expression_silent types (t.element s index) behind = element_silent types s index (expression_names types index behind)
        ∙ expression_silent types index behind
    expression_silent types t.sense behind = refl
    expression_silent types t.next_event behind = refl
    expression_silent types (t.call s values) behind =
        in_front (values_names types values behind) s (role.Call (values_length values)) ∙ values_silent types values behind
    expression_silent types (t.unary op a) behind = expression_silent types a behind
    expression_silent types (t.binary op a b) behind =
        let here = operator_role op.operator (joined_type (width_type types a) (width_type types b)) in
        expression_silent types a (and_front (expression_names types b behind) op.span here) ∙ in_front (expression_names types b behind) op.span here
        ∙ expression_silent types b behind
    expression_silent types (t.shift op a count) behind =
        let here = count_role count.value (width_type types a) in
        expression_silent types a (and_front behind count.span here) ∙ in_front behind count.span here
    expression_silent types (t.short_circuit op a b) behind = expression_silent types a (expression_names types b behind) ∙ expression_silent types b behind

    values_silent : (types : Span → WordType) (v : Values Span Span) (behind : List Occurrence) → declared (values_names types v behind) ≡ declared behind
    values_silent types t.no_value behind = refl
    values_silent types (t.value e more) behind = expression_silent types e (values_names types more behind) ∙ values_silent types more behind

  value_silent : (types : Span → WordType) (e : Option (Expression Span Span)) (behind : List Occurrence)
      → declared (value_names types e behind) ≡ declared behind
  value_silent types None behind = refl
  value_silent types (Some e) behind = expression_silent types e behind

  mutual
    statement_silent : (types : Span → WordType) (in_task : Bool) (end : ℕ) (x : Statement Span Span Span) (behind : List Occurrence)
        → declared (statement_names types in_task end x behind) ≡ declared behind
    statement_silent types in_task end (t.declare of s value) behind =
        in_front (value_names types value behind) s (role.Local of (length behind) end false) ∙ value_silent types value behind
    statement_silent types in_task end (t.assign s e) behind = in_front (expression_names types e behind) s role.Scalar ∙ expression_silent types e behind
    statement_silent types in_task end (t.store s index e) behind =
        element_silent types s index (expression_names types index (expression_names types e behind))
        ∙ expression_silent types index (expression_names types e behind)
        ∙ expression_silent types e behind
    statement_silent types in_task end (t.choose c) behind = choice_silent types in_task c behind
    statement_silent types in_task end (t.loop v from w below u body) behind =
        let inner = names_up_to types in_task (length behind) body behind in
        in_front (and_front (and_front inner u role.Counter) w role.Counter) v role.Counter ∙ in_front (and_front inner u role.Counter) w role.Counter
        ∙ in_front inner u role.Counter ∙ block_silent types in_task (length behind) body behind
    statement_silent types in_task end (t.emit e) behind = expression_silent types e behind
    statement_silent types in_task end (t.give at e) behind =
        in_front (expression_names types e behind) at (keyword_role in_task) ∙ expression_silent types e behind
    statement_silent types in_task end (t.transition at s) behind =
        in_front (and_front behind s role.Target) at (keyword_role (not in_task)) ∙ in_front behind s role.Target

    choice_silent : (types : Span → WordType) (in_task : Bool) (c : Choice Span Span Span) (behind : List Occurrence)
        → declared (choice_names types in_task c behind) ≡ declared behind
    choice_silent types in_task t.nothing behind = refl
    choice_silent types in_task (t.otherwise b) behind = block_silent types in_task (length behind) b behind
    choice_silent types in_task (t.test e b more) behind =
        let rest = choice_names types in_task more behind in
        expression_silent types e (names_up_to types in_task (length rest) b rest) ∙ block_silent types in_task (length rest) b rest
        ∙ choice_silent types in_task more behind

    block_silent : (types : Span → WordType) (in_task : Bool) (end : ℕ) (b : Block Span Span Span) (behind : List Occurrence)
        → declared (names_up_to types in_task end b behind) ≡ declared behind
    block_silent types in_task end t.end behind = refl
    block_silent types in_task end (t.step s more) behind =
        statement_silent types in_task end s (names_up_to types in_task end more behind) ∙ block_silent types in_task end more behind

  tasks_declared : (types : Span → WordType) (ts : List (Task Span Span Span)) (behind : List Occurrence)
      → declared (task_names types ts behind) ≡ map (λ t. text_of source t.name) ts ++ declared behind
  tasks_declared types [] behind = refl
  tasks_declared types (k ∷ more) behind =
      let rest = task_names types more behind in
      in_front (names_up_to types true (length rest) k.body rest) k.name role.Task
      ∙ ap (λ l. text_of source k.name ∷ l) (block_silent types true (length rest) k.body rest ∙ tasks_declared types more behind)

  -- a function's name isn't listed, nor are those of its parameters
  parameters_silent : (end at : ℕ) (ps : List (Parameter Span)) (behind : List Occurrence) → declared (parameter_names end at ps behind) ≡ declared behind
  parameters_silent end at [] behind = refl
  parameters_silent end at (p ∷ more) behind =
      let rest = parameter_names end (suc at) more behind in
      in_front rest p.name (role.Local p.word_type (length rest) end (nat_le 8 at)) ∙ parameters_silent end (suc at) more behind

  functions_silent : (types : Span → WordType) (fs : List (Function Span Span Span)) (behind : List Occurrence)
      → declared (function_names types fs behind) ≡ declared behind
  functions_silent types [] behind = refl
  functions_silent types (f ∷ more) behind =
      let rest = function_names types more behind in
      let inner = names_up_to types false (length rest) f.body rest in
      in_front (inner_names types f rest) f.name (role.Function f.word_type (length f.parameters))
      ∙ parameters_silent (length rest) 0 f.parameters inner ∙ block_silent types false (length rest) f.body rest ∙ functions_silent types more behind

  shared_declared : (ds : List SharedDeclaration) (behind : List Occurrence)
      → declared (shared_names ds behind) ≡ map (λ d. text_of source d.name) ds ++ declared behind
  shared_declared [] behind = refl
  shared_declared (d ∷ more) behind =
      in_front (shared_names more behind) d.name (role.Shared d.word_type d.extent) ∙ ap (λ l. text_of source d.name ∷ l) (shared_declared more behind)

  pub program_declared : (p : Program Span Span Span)
      → declared (program_names source p) ≡ map (λ d. text_of source d.name) p.shared ++ map (λ t. text_of source t.name) p.tasks
  unfolding program_names
  program_declared p =
      let behind : List Occurrence = and_front [] p.entry role.Target in
      let types = shared_type source p.shared in
      let tasks = task_names types p.tasks behind in
      shared_declared p.shared (function_names types p.functions tasks)
      ∙ ap (λ l. map (λ d. text_of source d.name) p.shared ++ l)
      (functions_silent types p.functions tasks ∙ tasks_declared types p.tasks behind ∙ append-nil (map (λ t. text_of source t.name) p.tasks))
