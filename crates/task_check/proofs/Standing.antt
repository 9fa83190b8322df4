-- What was looked at once more stands where it may.
use Rattle.std.proofs.Common.{◌≡◌, ℕ, suc, ◌+◌, ◌<◌, Bool, true, false, not, ◌&&◌, nat_lt, List, [], ◌∷◌, length, All, Option, Some, None, refl, subst, arith}
use Rattle.std.proofs.lemmas.Bool.{and_parts}
use Rattle.std.proofs.lemmas.Bool.Decides.{nat_tests}
use Rattle.std.proofs.lemmas.List.Elements.{All-cons}
use Rattle.task_ast.specs.Tree as t
use Rattle.task_ast.specs.Paths.{CheckedExpression, CheckedValues, CheckedStatement, CheckedChoice, CheckedBlock, CheckedFunction, CheckedTask, CheckedProgram}
use Rattle.task_ast.specs.Calls.{CallsAreBelow, ValuesCallBelow, InitialCallsBelow, StatementCallsBelow, ChoiceCallsBelow, BlockCallsBelow}
use Rattle.task_ast.specs.Calls.{FunctionsCallBelow, CallsAreKnown}
use Rattle.task_check.specs.Placed.{statement_ends, choice_ends, block_ends, IsPlaced, expression_stands, values_stand, value_stands, statement_stands}
use Rattle.task_check.specs.Placed.{choice_stands, block_stands, functions_stand, tasks_stand, all_stand}

is_below : (a n : ℕ) → nat_lt a n ≡ true → a < n
is_below a n h = grind (arith, nat_tests)

both_true : (a b : Bool) → a ≡ true → b ≡ true → (a && b) ≡ true
both_true a b h k = grind (arith, h, k)

module _ (n : ℕ) where
  mutual
    expression_calls : (e : CheckedExpression) → expression_stands n e ≡ true → CallsAreBelow n e
    expression_calls (t.number _) h = tt
    expression_calls (t.long_number _) h = tt
    expression_calls (t.name _) h = tt
    expression_calls (t.element _ index) h = expression_calls index h
    expression_calls t.sense h = tt
    expression_calls t.next_event h = tt
    expression_calls (t.call f values) h =
        let both = and_parts (nat_lt f.function n) (values_stand n values) h in (is_below f.function n both.0, values_call values both.1)
    expression_calls (t.unary _ a) h = expression_calls a h
    expression_calls (t.binary _ a b) h =
        let both = and_parts (expression_stands n a) (expression_stands n b) h in (expression_calls a both.0, expression_calls b both.1)
    expression_calls (t.shift _ a _) h = expression_calls a h
    expression_calls (t.short_circuit _ a b) h =
        let both = and_parts (expression_stands n a) (expression_stands n b) h in (expression_calls a both.0, expression_calls b both.1)

    values_call : (values : CheckedValues) → values_stand n values ≡ true → ValuesCallBelow n values
    values_call t.no_value h = tt
    values_call (t.value e more) h =
        let both = and_parts (expression_stands n e) (values_stand n more) h in (expression_calls e both.0, values_call more both.1)

  value_calls : (value : Option CheckedExpression) → value_stands n value ≡ true → InitialCallsBelow n value
  value_calls None h = tt
  value_calls (Some e) h = expression_calls e h

  module _ (in_task : Bool) where
    mutual
      statement_is : (s : CheckedStatement) → statement_stands n in_task s ≡ true → StatementCallsBelow n s × (statement_ends in_task s ≡ true)
      statement_is (t.declare _ _ value) h = (value_calls value h, refl)
      statement_is (t.assign _ e) h = (expression_calls e h, refl)
      statement_is (t.store _ index e) h =
          let both = and_parts (expression_stands n index) (expression_stands n e) h in ((expression_calls index both.0, expression_calls e both.1), refl)
      statement_is (t.choose c) h = choice_is c h
      statement_is (t.loop _ _ _ _ _ body) h = block_is body h
      statement_is (t.emit e) h = (expression_calls e h, refl)
      statement_is (t.give _ e) h = let both = and_parts (not in_task) (expression_stands n e) h in (expression_calls e both.1, both.0)
      statement_is (t.transition _ _) h = (tt, h)

      choice_is : (c : CheckedChoice) → choice_stands n in_task c ≡ true → ChoiceCallsBelow n c × (choice_ends in_task c ≡ true)
      choice_is t.nothing h = (tt, refl)
      choice_is (t.otherwise b) h = block_is b h
      choice_is (t.test e b more) h =
          let parts = and_parts (expression_stands n e && block_stands n in_task b) (choice_stands n in_task more) h in
          let front = and_parts (expression_stands n e) (block_stands n in_task b) parts.0 in
          let block = block_is b front.1 in
          let rest = choice_is more parts.1 in
          ((expression_calls e front.0, (block.0, rest.0)), both_true (block_ends in_task b) (choice_ends in_task more) block.1 rest.1)

      block_is : (b : CheckedBlock) → block_stands n in_task b ≡ true → BlockCallsBelow n b × (block_ends in_task b ≡ true)
      block_is t.end h = (tt, refl)
      block_is (t.step s more) h =
          let parts = and_parts (statement_stands n in_task s) (block_stands n in_task more) h in
          let here = statement_is s parts.0 in
          let rest = block_is more parts.1 in
          ((here.0, rest.0), both_true (statement_ends in_task s) (block_ends in_task more) here.1 rest.1)

functions_are : (n : ℕ) (fs : List CheckedFunction) → functions_stand n fs ≡ true → FunctionsCallBelow n fs × All (λ f. block_ends false f.body ≡ true) fs
functions_are n [] h = (tt, λ k d l. absurd (omega arith))
functions_are n (f ∷ more) h =
    let parts = and_parts (block_stands n false f.body) (functions_stand (suc n) more) h in
    let here = block_is n false f.body parts.0 in
    let rest = functions_are (suc n) more parts.1 in
    let next : suc n ≡ n + 1 = omega arith in
    ((here.0, subst (λ m. FunctionsCallBelow m more) next rest.0), All-cons (λ f. block_ends false f.body ≡ true) f more here.1 rest.1)

tasks_are : (n : ℕ) (ks : List CheckedTask) → tasks_stand n ks ≡ true
    → All (λ k. BlockCallsBelow n k.body) ks × All (λ k. block_ends true k.body ≡ true) ks
tasks_are n [] h = (λ k d l. absurd (omega arith), λ k d l. absurd (omega arith))
tasks_are n (k ∷ more) h =
    let parts = and_parts (block_stands n true k.body) (tasks_stand n more) h in
    let here = block_is n true k.body parts.0 in
    let rest = tasks_are n more parts.1 in (
      All-cons (λ k. BlockCallsBelow n k.body) k more here.0 rest.0,
      All-cons (λ k. block_ends true k.body ≡ true) k more here.1 rest.1,
    )

-- so each call is known
pub calls_known : (p : CheckedProgram) → all_stand p ≡ true → CallsAreKnown p
calls_known p h =
    let parts = and_parts (functions_stand 0 p.functions) (tasks_stand (length p.functions) p.tasks) h in
    record {
      functions = (functions_are 0 p.functions parts.0).0;
      tasks = (tasks_are (length p.functions) p.tasks parts.1).0;
    }

pub is_placed : (p : CheckedProgram) → all_stand p ≡ true → IsPlaced p
is_placed p h =
    let parts = and_parts (functions_stand 0 p.functions) (tasks_stand (length p.functions) p.tasks) h in
    let functions = functions_are 0 p.functions parts.0 in
    let tasks = tasks_are (length p.functions) p.tasks parts.1 in
    record { calls = record { functions = functions.0; tasks = tasks.0 }; functions = functions.1; tasks = tasks.1 }
