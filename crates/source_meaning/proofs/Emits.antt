-- The emits that the allowance counts are those that a run may make.
use Rattle.std.proofs.Common.{◌≡◌, ◌≤◌, ◌+◌, ◌-◌, ◌*◌, ℕ, List, [], ◌∷◌, ◌++◌, map, max, Some, None, refl, ap, ap₂, ◌∙◌, subst, arith}
use Rattle.std.specs.Prelude.{slice_index}
use Rattle.std.proofs.lemmas.List.{map-append}
use Rattle.task_ast.specs.Answers.{answers_from}
use Rattle.task_ast.specs.Tree as t
use Rattle.task_ast.specs.Paths.{CheckedExpression, CheckedValues, CheckedStatement, CheckedChoice, CheckedBlock, CheckedFunction, CheckedProgram}
use Rattle.source_values.specs.Statements.{expression_emits, values_emits, conditions_emit, statement_emits, choice_emits, block_emits, function_emits}
use Rattle.source_values.specs.Statements.{emit_counts}
use Rattle.cost_bound.specs.Summary.{Summary}
use Rattle.cost_bound.specs.Summaries.{function_summary, summaries}
use Rattle.cost_bound.specs.Counts.{expression_count, values_count, conditions_count, statement_count, choice_count, block_count, is_emit, called_emits}
use Rattle.cost_bound.specs.Counts.{emits_of}

module _ (ns : List ℕ) where
  mutual
    expression_same : (e : CheckedExpression) → expression_count ns e ≡ expression_emits ns e
    expression_same (t.number n) = refl
    expression_same (t.long_number n) = refl
    expression_same (t.name x) = refl
    expression_same (t.element x index) = expression_same index
    expression_same t.sense = refl
    expression_same t.next_event = refl
    expression_same (t.call f values) = ap (λ m. m + slice_index ns f.function) (values_same values)
    expression_same (t.unary op e) = expression_same e
    expression_same (t.binary op a b) = ap₂ (λ m n. m + n) (expression_same a) (expression_same b)
    expression_same (t.shift op e count) = expression_same e
    expression_same (t.short_circuit op a b) = ap₂ (λ m n. m + n) (expression_same a) (expression_same b)

    values_same : (values : CheckedValues) → values_count ns values ≡ values_emits ns values
    values_same t.no_value = refl
    values_same (t.value e more) = ap₂ (λ m n. m + n) (expression_same e) (values_same more)

  -- a statement that emits nothing itself
  alone : (m n : ℕ) → m ≡ n → m + 0 ≡ n
  alone m n h = omega (arith, h)

  conditions_same : (c : CheckedChoice) → conditions_count ns c ≡ conditions_emit ns c
  conditions_same t.nothing = refl
  conditions_same (t.otherwise block) = refl
  conditions_same (t.test condition block more) = ap₂ (λ m n. m + n) (expression_same condition) (conditions_same more)

  mutual
    statement_same : (s : CheckedStatement) → statement_count ns is_emit s ≡ statement_emits ns s
    statement_same (t.declare of x None) = refl
    statement_same (t.declare of x (Some e)) = alone (expression_count ns e) (expression_emits ns e) (expression_same e)
    statement_same (t.assign x e) = alone (expression_count ns e) (expression_emits ns e) (expression_same e)
    statement_same (t.store x index e) =
        alone (expression_count ns index + expression_count ns e) (expression_emits ns index + expression_emits ns e)
        (ap₂ (λ m n. m + n) (expression_same index) (expression_same e))
    statement_same (t.choose choice) = ap₂ (λ m n. m + n) (conditions_same choice) (choice_same choice)
    statement_same (t.loop x from tested below stepped body) = ap (λ n. (below - from) * n) (block_same body)
    statement_same (t.emit e) = ap (λ n. n + 1) (expression_same e)
    statement_same (t.give at e) = alone (expression_count ns e) (expression_emits ns e) (expression_same e)
    statement_same (t.transition at task) = refl

    choice_same : (c : CheckedChoice) → choice_count ns is_emit c ≡ choice_emits ns c
    choice_same t.nothing = refl
    choice_same (t.otherwise block) = block_same block
    choice_same (t.test condition block more) = ap₂ max (block_same block) (choice_same more)

    block_same : (b : CheckedBlock) → block_count ns is_emit b ≡ block_emits ns b
    block_same t.end = refl
    block_same (t.step s more) = ap₂ (λ m n. m + n) (statement_same s) (block_same more)

-- both count the same emits
pub emits_same : (known : List Summary) (b : CheckedBlock) → emits_of known b ≡ block_emits (called_emits known) b
unfolding emits_of
emits_same known b = block_same (called_emits known) b

counts_from : (known : List Summary) (fs : List CheckedFunction)
    → called_emits (answers_from function_summary known fs) ≡ answers_from function_emits (called_emits known) fs
counts_from known [] = refl
counts_from known (f ∷ fs) =
    let emits : Summary → ℕ = λ s. s.emits in
    counts_from (known ++ function_summary known f ∷ []) fs
    ∙ ap (λ ns. answers_from function_emits ns fs)
    (map-append emits known (function_summary known f ∷ []) ∙ ap (λ n. called_emits known ++ n ∷ []) (emits_same known f.body))

-- of the functions of a source too
pub counts_same : (p : CheckedProgram) → called_emits (summaries p) ≡ emit_counts p
counts_same p = counts_from [] p.functions

pub few_emits : (p : CheckedProgram) (b : CheckedBlock) → emits_of (summaries p) b ≤ 256 → block_emits (emit_counts p) b ≤ 256
few_emits p b h =
    let P : ℕ → Type 0 = λ n. n ≤ 256 in subst P (emits_same (summaries p) b ∙ ap (λ ns. block_emits ns b) (counts_same p)) h
