-- A source stands `next_event()` in no task, or takes events: so each of its tasks is admitted.
use Rattle.lower.proofs.Names.{◌≡◌, ℕ, zero, suc, ◌+◌, ◌⊎◌, ⊎_elim, inl, inr, Bool, true, false, List, [], ◌∷◌, Some, None, refl, ap, ◌∙◌, subst, arith}
use Rattle.lower.proofs.Names.{CheckedExpression, CheckedStatement, CheckedChoice, CheckedBlock, CheckedTask, expression_price, statement_price}
use Rattle.lower.proofs.Names.{conditions_price, blocks_price, block_price, AdmitsExpression, AdmitsStatement, AdmitsChoice, AdmitsBlock, nat_lt, lt-ltb}
use Rattle.lower.proofs.Names.{cases_lt}
use Rattle.std.specs.Prelude.{slice_get, ◌||◌}
use Rattle.cost_bound.specs.Table.{events_column}
use Rattle.cost_bound.specs.Allowance.{use_events, functions_use_events, uses_events}
use Rattle.source_values.specs.Runs.{CheckedProgram}
use Rattle.lower.proofs.Names.{CheckedFunction, CheckedValues, AdmitsValues, values_price, All-nil, All-cons, All-weaker}
use Rattle.std.proofs.Common.{All}
use Rattle.task_ast.specs.Tree as t

module _ (events : Bool) where
  -- events are taken, or none stand here
  abbrev IsFree : ℕ → Type 0
  IsFree count = (events ≡ true) ⊎ (count ≡ 0)

  -- so it is with a part
  part : (count all : ℕ) → (all ≡ 0 → count ≡ 0) → IsFree all → IsFree count
  part count all f h = ⊎_elim {C = IsFree count} (λ on. inl on) (λ e. inr (f e)) h

  mutual
    admits_expression : (e : CheckedExpression) → IsFree (expression_price [] events_column e) → AdmitsExpression events e
    admits_expression t.next_event h = ⊎_elim (λ on. on) (λ e. absurd (omega (arith, e))) h
    admits_expression (t.element x index) h = admits_expression index (part _ _ (λ e. omega (arith, e)) h)
    admits_expression (t.call f values) h = admits_values values (part _ _ (λ e. omega (arith, e)) h)
    admits_expression (t.unary op e) h = admits_expression e (part _ _ (λ e. omega (arith, e)) h)
    admits_expression (t.binary op a b) h =
        (admits_expression a (part _ _ (λ e. omega (arith, e)) h), admits_expression b (part _ _ (λ e. omega (arith, e)) h))
    admits_expression (t.shift op e count) h = admits_expression e (part _ _ (λ e. omega (arith, e)) h)
    admits_expression (t.short_circuit op a b) h =
        (admits_expression a (part _ _ (λ e. omega (arith, e)) h), admits_expression b (part _ _ (λ e. omega (arith, e)) h))
    admits_expression _ h = tt

    admits_values : (values : CheckedValues) → IsFree (values_price [] events_column values) → AdmitsValues events values
    admits_values t.no_value h = tt
    admits_values (t.value e more) h =
        (admits_expression e (part _ _ (λ e. omega (arith, e)) h), admits_values more (part _ _ (λ e. omega (arith, e)) h))

  mutual
    admits_statement : (s : CheckedStatement) → IsFree (statement_price [] events_column s) → AdmitsStatement events s
    admits_statement (t.declare of x None) h = tt
    admits_statement (t.declare of x (Some e)) h = admits_expression e (part _ _ (λ e. omega (arith, e)) h)
    admits_statement (t.assign x e) h = admits_expression e (part _ _ (λ e. omega (arith, e)) h)
    admits_statement (t.store x index e) h =
        (admits_expression index (part _ _ (λ e. omega (arith, e)) h), admits_expression e (part _ _ (λ e. omega (arith, e)) h))
    admits_statement (t.choose choice) h = admits_choice choice (part _ _ (λ e. omega (arith, e)) h)
    admits_statement (t.loop x from tested below stepped body) h = admits_block body (part _ _ (λ e. omega (arith, e)) h)
    admits_statement (t.emit e) h = admits_expression e (part _ _ (λ e. omega (arith, e)) h)
    admits_statement (t.give at e) h = admits_expression e (part _ _ (λ e. omega (arith, e)) h)
    admits_statement (t.transition at task) h = tt

    admits_choice : (c : CheckedChoice) → IsFree (conditions_price [] events_column c + blocks_price [] events_column c) → AdmitsChoice events c
    admits_choice t.nothing h = tt
    admits_choice (t.otherwise block) h = admits_block block (part _ _ (λ e. omega (arith, e)) h)
    admits_choice (t.test e block more) h = (
      admits_expression e (part _ _ (λ e. omega (arith, e)) h),
      admits_block block (part _ _ (λ e. omega (arith, e)) h),
      admits_choice more (part _ _ (λ e. omega (arith, e)) h),
    )

    admits_block : (b : CheckedBlock) → IsFree (block_price [] events_column b) → AdmitsBlock events b
    admits_block t.end h = tt
    admits_block (t.step s more) h =
        (admits_statement s (part _ _ (λ e. omega (arith, e)) h), admits_block more (part _ _ (λ e. omega (arith, e)) h))

-- one of two holds
either_used : (a b : Bool) → b ≡ true → (a || b) ≡ true
either_used true b e = refl
either_used false b e = e

task_used : (n : ℕ) (b : Bool) → ((nat_lt 0 n || b) ≡ true) ⊎ (n ≡ 0)
task_used n b = ⊎_elim {C = ((nat_lt 0 n || b) ≡ true) ⊎ (n ≡ 0)}
    (λ some. inl (ap (λ c. c || b) (lt-ltb 0 n some))) (λ none. inr (omega (arith, none))) (cases_lt 0 n)

-- `next_event()` stands in some task, or not in this one
used : (tasks : List CheckedTask) (k : ℕ) (task : CheckedTask) → slice_get tasks k ≡ Some task
    → (use_events tasks ≡ true) ⊎ (block_price [] events_column task.body ≡ 0)
used [] k task e = absurd (cc)
used (t ∷ tasks) zero task e =
    let same : t ≡ task = cc in
    subst (λ (u : CheckedTask). (use_events (t ∷ tasks) ≡ true) ⊎ (block_price [] events_column u.body ≡ 0)) same
    (task_used (block_price [] events_column t.body) (use_events tasks))
used (t ∷ tasks) (suc k) task e =
    ⊎_elim {C = (use_events (t ∷ tasks) ≡ true) ⊎ (block_price [] events_column task.body ≡ 0)}
    (λ on. inl (either_used (nat_lt 0 (block_price [] events_column t.body)) (use_events tasks) on)) (λ none. inr none) (used tasks k task e)

-- the same of a function
used_in : (fs : List CheckedFunction) → All (λ f. (functions_use_events fs ≡ true) ⊎ (block_price [] events_column f.body ≡ 0)) fs
used_in fs = every fs (λ e. e)
  where
    every : (rest : List CheckedFunction) → (functions_use_events rest ≡ true → functions_use_events fs ≡ true)
        → All (λ f. (functions_use_events fs ≡ true) ⊎ (block_price [] events_column f.body ≡ 0)) rest
    every [] on = All-nil (λ f. (functions_use_events fs ≡ true) ⊎ (block_price [] events_column f.body ≡ 0))
    every (f ∷ rest) on = All-cons (λ f. (functions_use_events fs ≡ true) ⊎ (block_price [] events_column f.body ≡ 0)) f rest
        (⊎_elim {C = (functions_use_events fs ≡ true) ⊎ (block_price [] events_column f.body ≡ 0)} (λ used. inl (on used)) (λ none. inr none)
        (task_used (block_price [] events_column f.body) (functions_use_events rest)))
        (every rest (λ e. on (either_used (nat_lt 0 (block_price [] events_column f.body)) (functions_use_events rest) e)))

either_of : (a b : Bool) → a ≡ true → (a || b) ≡ true
either_of a b e = ap (λ c. c || b) e

-- where a program takes events as its source uses some, each function is admitted
pub functions_are_admitted : (events : Bool) (p : CheckedProgram) → events ≡ uses_events p → All (λ f. AdmitsBlock events f.body) p.functions
functions_are_admitted events p same =
    All-weaker (λ f. (functions_use_events p.functions ≡ true) ⊎ (block_price [] events_column f.body ≡ 0)) (λ f. AdmitsBlock events f.body)
    (λ (f : CheckedFunction) h. admits_block events f.body (⊎_elim {C = (events ≡ true) ⊎ (block_price [] events_column f.body ≡ 0)}
    (λ on. inl (same ∙ either_of (functions_use_events p.functions) (use_events p.tasks) on)) (λ none. inr none) h)) p.functions (used_in p.functions)

-- and each task
pub tasks_are_admitted : (events : Bool) (p : CheckedProgram) (k : ℕ) (task : CheckedTask) → slice_get p.tasks k ≡ Some task
    → events ≡ uses_events p → AdmitsBlock events task.body
tasks_are_admitted events p k task is same =
    admits_block events task.body (⊎_elim {C = (events ≡ true) ⊎ (block_price [] events_column task.body ≡ 0)}
    (λ on. inl (same ∙ either_used (functions_use_events p.functions) (use_events p.tasks) on)) (λ none. inr none) (used p.tasks k task is))
