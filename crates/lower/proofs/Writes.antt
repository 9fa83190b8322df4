-- What the paths of a text write, its parts write: each expression's calls of what a statement's sum has.
use Rattle.lower.proofs.Names.{◌≡◌, ℕ, ◌&&◌, ◌||◌, List, Bool, true, false, refl, Some, if◌then◌else◌, CheckedExpression, CheckedValues, CheckedChoice}
use Rattle.lower.proofs.Names.{CheckedBlock}
use Rattle.lower.proofs.Names.{PlacedOperator, ShortCircuitOperator, Shared, VariableName, FunctionName, WordType, summary, AccessSummary, is_same}
use Rattle.source_values.specs.alp_text.declared.lines.Span.{Span}
use Rattle.path_sums.specs.Access.{summary_read, summary_unit}
use Rattle.path_sums.specs.Sums.{call_sum, expression_sum, values_sum, statement_sum, choice_sum}
use Rattle.checked_trees.proofs.Interface.{KnownGoOn}
use Rattle.std.proofs.lemmas.Bool.{and_from, or_left, or_right}
use Rattle.task_ast.specs.Tree as t

-- each call goes on behind its function
abbrev pub CallsGoOn : ℕ → List AccessSummary → Type 0
CallsGoOn v known = (i : ℕ) → (call_sum known (summary (Shared v)) i).falls_through ≡ true

-- so it is said of what the functions of a text write
pub known_goes_on : (v : ℕ) (known : List AccessSummary) → CallsGoOn v known → KnownGoOn known
unfolding summary
known_goes_on v known on = on

read_goes_on : (b : Bool) → (if b then summary_read else summary_unit).falls_through ≡ true
read_goes_on true = refl
read_goes_on false = refl

-- what stands behind is written where what stands in front goes on
late : (a f b : Bool) → f ≡ true → b ≡ true → (a || (f && b)) ≡ true
late a f b h k = or_right a (f && b) (and_from f b h k)

module _ (v : ℕ) (known : List AccessSummary) (on : CallsGoOn v known) where
  abbrev Writes : CheckedExpression → Type 0
  Writes e = (expression_sum known (summary (Shared v)) e).writes ≡ true

  abbrev ValuesWrite : CheckedValues → Type 0
  ValuesWrite values = (values_sum known (summary (Shared v)) values).writes ≡ true

  mutual
    unfolding summary

    expression_goes_on : (e : CheckedExpression) → (expression_sum known (summary (Shared v)) e).falls_through ≡ true
    expression_goes_on (t.number _) = refl
    expression_goes_on (t.long_number _) = refl
    expression_goes_on (t.name n) = read_goes_on (is_same (Shared v) n.variable)
    expression_goes_on (t.element n index) =
        and_from (expression_sum known (summary (Shared v)) index).falls_through _ (expression_goes_on index) (read_goes_on (is_same (Shared v) n.variable))
    expression_goes_on t.sense = refl
    expression_goes_on t.next_event = refl
    expression_goes_on (t.call f values) = and_from (values_sum known (summary (Shared v)) values).falls_through _ (values_go_on values) (on f.function)
    expression_goes_on (t.unary _ a) = expression_goes_on a
    expression_goes_on (t.binary _ a b) =
        and_from (expression_sum known (summary (Shared v)) a).falls_through _ (expression_goes_on a) (expression_goes_on b)
    expression_goes_on (t.shift _ a _) = expression_goes_on a
    expression_goes_on (t.short_circuit _ a b) = or_left (expression_sum known (summary (Shared v)) a).falls_through _ (expression_goes_on a)

    values_go_on : (values : CheckedValues) → (values_sum known (summary (Shared v)) values).falls_through ≡ true
    values_go_on t.no_value = refl
    values_go_on (t.value e more) = and_from (expression_sum known (summary (Shared v)) e).falls_through _ (expression_goes_on e) (values_go_on more)

  -- ---- parts of expressions

  pub index_writes : (n : VariableName) (index : CheckedExpression) → Writes index → Writes (t.element n index)
  unfolding summary
  index_writes n index h = or_left (expression_sum known (summary (Shared v)) index).writes _ h

  pub values_writes : (f : FunctionName) (values : CheckedValues) → ValuesWrite values → Writes (t.call f values)
  unfolding summary
  values_writes f values h = or_left (values_sum known (summary (Shared v)) values).writes _ h

  pub called_writes : (f : FunctionName) (values : CheckedValues) → (call_sum known (summary (Shared v)) f.function).writes ≡ true → Writes (t.call f values)
  unfolding summary
  called_writes f values h = late (values_sum known (summary (Shared v)) values).writes _ _ (values_go_on values) h

  pub left_writes : (op : PlacedOperator) (a b : CheckedExpression) → Writes a → Writes (t.binary op a b)
  unfolding summary
  left_writes op a b h = or_left (expression_sum known (summary (Shared v)) a).writes _ h

  pub right_writes : (op : PlacedOperator) (a b : CheckedExpression) → Writes b → Writes (t.binary op a b)
  unfolding summary
  right_writes op a b h = late (expression_sum known (summary (Shared v)) a).writes _ _ (expression_goes_on a) h

  pub first_side_writes : (op : ShortCircuitOperator) (a b : CheckedExpression) → Writes a → Writes (t.short_circuit op a b)
  unfolding summary
  first_side_writes op a b h = or_left (expression_sum known (summary (Shared v)) a).writes _ h

  pub second_side_writes : (op : ShortCircuitOperator) (a b : CheckedExpression) → Writes b → Writes (t.short_circuit op a b)
  unfolding summary
  second_side_writes op a b h =
      or_right (expression_sum known (summary (Shared v)) a).writes _ (late (expression_sum known (summary (Shared v)) a).writes _ _ (expression_goes_on a) h)

  pub first_value_writes : (e : CheckedExpression) (more : CheckedValues) → Writes e → ValuesWrite (t.value e more)
  unfolding summary
  first_value_writes e more h = or_left (expression_sum known (summary (Shared v)) e).writes _ h

  pub other_values_write : (e : CheckedExpression) (more : CheckedValues) → ValuesWrite more → ValuesWrite (t.value e more)
  unfolding summary
  other_values_write e more h = late (expression_sum known (summary (Shared v)) e).writes _ _ (expression_goes_on e) h

  -- ---- expressions of statements

  pub declared_writes : (of : WordType) (n : VariableName) (e : CheckedExpression) → Writes e
      → (statement_sum known (summary (Shared v)) (t.declare of n (Some e))).writes ≡ true
  unfolding summary
  declared_writes of n e h = or_left (expression_sum known (summary (Shared v)) e).writes _ h

  pub assigned_writes : (n : VariableName) (e : CheckedExpression) → Writes e → (statement_sum known (summary (Shared v)) (t.assign n e)).writes ≡ true
  unfolding summary
  assigned_writes n e h = or_left (expression_sum known (summary (Shared v)) e).writes _ h

  pub place_writes : (n : VariableName) (index e : CheckedExpression) → Writes index → (statement_sum known (summary (Shared v)) (t.store n index e)).writes
      ≡ true
  unfolding summary
  place_writes n index e h = or_left (expression_sum known (summary (Shared v)) index).writes _ h

  pub stored_writes : (n : VariableName) (index e : CheckedExpression) → Writes e → (statement_sum known (summary (Shared v)) (t.store n index e)).writes ≡ true
  unfolding summary
  stored_writes n index e h =
      late (expression_sum known (summary (Shared v)) index).writes _ _ (expression_goes_on index)
      (or_left (expression_sum known (summary (Shared v)) e).writes _ h)

  pub given_writes : (at : Span) (e : CheckedExpression) → Writes e → (statement_sum known (summary (Shared v)) (t.give at e)).writes ≡ true
  unfolding summary
  given_writes at e h = or_left (expression_sum known (summary (Shared v)) e).writes _ h

  pub condition_writes : (e : CheckedExpression) (block : CheckedBlock) (more : CheckedChoice) → Writes e
      → (choice_sum known (summary (Shared v)) (t.test e block more)).writes ≡ true
  unfolding summary
  condition_writes e block more h = or_left (expression_sum known (summary (Shared v)) e).writes _ h
