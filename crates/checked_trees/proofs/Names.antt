-- What is kept by names that declare nothing but locals is kept by the names of a text.
use Rattle.std.proofs.Common.{ℕ, suc, ◌≤◌, List, [], ◌∷◌, length, Bool, false, Option, Some, None}
use Rattle.std.specs.Prelude.{All, nat_le}
use Rattle.std.proofs.lemmas.List.Elements.{All-head, All-tail}
use Rattle.alp_text.specs.declared.lines.Span.{Span}
use Rattle.task_ast.specs.Tree as t
use Rattle.task_ast.specs.Tree.{Expression, Values, Statement, Choice, Block, Function}
use Rattle.task_ast.specs.declared.Parameter.{Parameter}
use Rattle.task_ast.specs.declared.WordType.{WordType}
use Rattle.task_ast.specs.Types.{IsOneWord}
use Rattle.task_check.specs.declared.occurrence.Role.{Role}
use Rattle.task_check.specs.declared.occurrence.Role.TheVariants as role
use Rattle.task_check.specs.declared.occurrence.Occurrence.{Occurrence}
use Rattle.task_check.specs.Occurrences.{element_front, and_front, expression_names, values_names, value_names, statement_names, choice_names, names_up_to}
use Rattle.task_check.specs.Occurrences.{parameter_names, inner_names}
use Rattle.checked_trees.proofs.Fits.{StatementFits, ChoiceFits, BlockFits, FunctionFits}

-- a name that declares nothing, or a local of one word that is known up to so many names behind
abbrev pub Quiet : ℕ → Role → Type 0
Quiet m (role.Shared of e) = ⊥
Quiet m (role.Function of count) = ⊥
Quiet m role.Task = ⊥
Quiet m (role.Local of begin end extra) = IsOneWord of × (m ≤ end)
Quiet m role.Scalar = Unit {0}
Quiet m role.Element = Unit {0}
Quiet m role.Counter = Unit {0}
Quiet m (role.Call count) = Unit {0}
Quiet m role.Target = Unit {0}
Quiet m (role.Operand refused kept) = Unit {0}

-- what is kept by a quiet name in front, of lists that are no shorter than so many names
module _ (m : ℕ) (P : List Occurrence → Type 0) (long : (behind : List Occurrence) → P behind → m ≤ length behind)
    (in_front : (behind : List Occurrence) (s : Span) (r : Role) → P behind → Quiet m r → P (and_front behind s r)) where
  element_kept : (types : Span → WordType) (s : Span) (index : Expression Span Span) (behind : List Occurrence) → P behind
      → P (element_front types s index behind)
  element_kept types s index behind h = in_front _ s role.Element (in_front behind s _ h tt) tt

  mutual
    expression_kept : (types : Span → WordType) (e : Expression Span Span) (behind : List Occurrence) → P behind
        → P (expression_names types e behind)
    expression_kept types (t.number n) behind h = h
    expression_kept types (t.long_number n) behind h = h
    expression_kept types (t.name s) behind h = in_front behind s role.Scalar h tt
    expression_kept types (t.element s index) behind h =
        element_kept types s index (expression_names types index behind) (expression_kept types index behind h)
    expression_kept types t.sense behind h = h
    expression_kept types t.next_event behind h = h
    expression_kept types (t.call s values) behind h = in_front (values_names types values behind) s _ (values_kept types values behind h) tt
    expression_kept types (t.unary op a) behind h = expression_kept types a behind h
    expression_kept types (t.binary op a b) behind h =
        expression_kept types a _ (in_front (expression_names types b behind) op.span _ (expression_kept types b behind h) tt)
    expression_kept types (t.shift op a count) behind h = expression_kept types a _ (in_front behind count.span _ h tt)
    expression_kept types (t.short_circuit op a b) behind h = expression_kept types a (expression_names types b behind) (expression_kept types b behind h)

    values_kept : (types : Span → WordType) (values : Values Span Span) (behind : List Occurrence) → P behind
        → P (values_names types values behind)
    values_kept types t.no_value behind h = h
    values_kept types (t.value e more) behind h = expression_kept types e (values_names types more behind) (values_kept types more behind h)

  value_kept : (types : Span → WordType) (e : Option (Expression Span Span)) (behind : List Occurrence) → P behind
      → P (value_names types e behind)
  value_kept types None behind h = h
  value_kept types (Some e) behind h = expression_kept types e behind h

  mutual
    statement_kept : (types : Span → WordType) (in_task : Bool) (end : ℕ) (x : Statement Span Span Span) (behind : List Occurrence) → StatementFits x
        → m ≤ end → P behind → P (statement_names types in_task end x behind)
    statement_kept types in_task end (t.declare of s value) behind f e h =
        in_front (value_names types value behind) s (role.Local of (length behind) end false) (value_kept types value behind h) (f.0, e)
    statement_kept types in_task end (t.assign s e) behind f l h =
        in_front (expression_names types e behind) s role.Scalar (expression_kept types e behind h) tt
    statement_kept types in_task end (t.store s index e) behind f l h =
        element_kept types s index (expression_names types index (expression_names types e behind))
        (expression_kept types index (expression_names types e behind) (expression_kept types e behind h))
    statement_kept types in_task end (t.choose c) behind f l h = choice_kept types in_task c behind f h
    statement_kept types in_task end (t.loop v from w below u body) behind f l h =
        let inner = block_kept types in_task (length behind) body behind f.0 (long behind h) h in
        in_front _ v role.Counter (in_front _ w role.Counter (in_front _ u role.Counter inner tt) tt) tt
    statement_kept types in_task end (t.emit e) behind f l h = expression_kept types e behind h
    statement_kept types in_task end (t.give at e) behind f l h =
        in_front (expression_names types e behind) at _ (expression_kept types e behind h) tt
    statement_kept types in_task end (t.transition at s) behind f l h =
        in_front (and_front behind s role.Target) at _ (in_front behind s role.Target h tt) tt

    choice_kept : (types : Span → WordType) (in_task : Bool) (c : Choice Span Span Span) (behind : List Occurrence) → ChoiceFits c → P behind
        → P (choice_names types in_task c behind)
    choice_kept types in_task t.nothing behind f h = h
    choice_kept types in_task (t.otherwise b) behind f h = block_kept types in_task (length behind) b behind f (long behind h) h
    choice_kept types in_task (t.test e b more) behind f h =
        let rest = choice_names types in_task more behind in
        let others = choice_kept types in_task more behind f.2 h in
        expression_kept types e (names_up_to types in_task (length rest) b rest)
        (block_kept types in_task (length rest) b rest f.1 (long rest others) others)

    pub block_kept : (types : Span → WordType) (in_task : Bool) (end : ℕ) (b : Block Span Span Span) (behind : List Occurrence) → BlockFits b → m ≤ end
        → P behind → P (names_up_to types in_task end b behind)
    block_kept types in_task end t.end behind f l h = h
    block_kept types in_task end (t.step s more) behind f l h =
        statement_kept types in_task end s (names_up_to types in_task end more behind) f.0 l (block_kept types in_task end more behind f.1 l h)

  parameters_kept : (end at : ℕ) (ps : List (Parameter Span)) (behind : List Occurrence) → All (λ p. IsOneWord p.word_type) ps → m ≤ end
      → P behind → P (parameter_names end at ps behind)
  parameters_kept end at [] behind one l h = h
  parameters_kept end at (p ∷ more) behind one l h =
      let rest = parameter_names end (suc at) more behind in
      in_front rest p.name (role.Local p.word_type (length rest) end (nat_le 8 at))
      (parameters_kept end (suc at) more behind (All-tail (λ p. IsOneWord p.word_type) p more one) l h)
      (All-head (λ p. IsOneWord p.word_type) p more one, l)

  -- the names in a function
  pub inner_kept : (types : Span → WordType) (f : Function Span Span Span) (behind : List Occurrence) → FunctionFits f → P behind
      → P (inner_names types f behind)
  inner_kept types f behind fits h =
      let l = long behind h in
      parameters_kept (length behind) 0 f.parameters (names_up_to types false (length behind) f.body behind) fits.takes l
      (block_kept types false (length behind) f.body behind fits.body l h)
