use Rattle.std.proofs.Common.{◌≡◌, ◌+◌, ◌-◌, ◌∙◌, sym, ap, arith, rules, ℕ, List, Option, None, Some, Vec, length, map, take, refl}
use Rattle.std.proofs.lemmas.List.{length-take-le}
use Rattle.std.specs.Global.{Global}
use Rattle.std.specs.Option.{option_map}
use Rattle.task_ast.specs.Tree.{choice_of}
use Rattle.task_ast.specs.View.{values_of, statement_of, tested_of, block_view, choice_view, last_view}
use Rattle.task_ast.specs.declared.names.VariableName.{VariableName}
use Rattle.task_ast.specs.declared.names.TaskName.{TaskName}
use Rattle.task_ast.specs.declared.names.FunctionName.{FunctionName}
use Rattle.task_ast.specs.declared.Stmt.{Stmt, If, For}
use Rattle.task_ast.specs.declared.Arm.{Arm}
use Rattle.source_values.specs.Values.{Meaning, Evaluated, evaluated, words_of, meaning_in}
use Rattle.source_values.specs.Statements.{Attempt, short, run_statement, run_block, turns, statement_emits, block_emits, choice_emits, conditions_emit}
use Rattle.source_values.specs.View.{attempt_in, evaluated_in, meanings_of, counts_of, ended}
use Rattle.source_values.proofs.Called.{unknown_call, call_behind, known_at, count_at, entered_is, given_is}
use Rattle.source_values.proofs.Choices.{arm_short, arm_taken, arm_passed, arm_emits, arm_size, none_emits, last_emits, none_size, last_size, same_conditions}
use Rattle.source_values.proofs.Choices.{none_kept, behind_most, on_some}
use Rattle.source_values.proofs.Sizes.{function_falls, statement_size, choice_size, block_size}
use Rattle.source_values.proofs.Blocks.{block_at, statement_falls}
use Rattle.source_values.proofs.Views.{if_view, for_view}
use Rattle.source_values.proofs.Turns.{turns_step, attempt_set, turn_emits, ended_stays, ended_goes_on}
use Rattle.source_values.proofs.statements.+run.Goals as goal

-- ---- calls

pub call-returns-then-functions-k-clause-value : goal.call-returns-then-functions-k-clause-value
call-returns-then-functions-k-clause-value t c =
    unknown_call c.args.functions.now c.args.f.now.function
    (words_of (meanings_of c.args.functions.now) (values_of c.args.values.now) (attempt_in c.args.scratch.now c.args.readings.now))
    (omega (arith, c.if-functions-k.true))

pub call-returns-in_err-word-clause-value : goal.call-returns-in_err-word-clause-value
call-returns-in_err-word-clause-value t c =
    rw c.from_residual-in_err-word.ensures
    (call_behind (words_of (meanings_of c.args.functions.now) (values_of c.args.values.now) (attempt_in c.args.scratch.now c.args.readings.now)) _ _ None
    (meaning_in (meanings_of c.args.functions.now) c.args.f.now.function) c.in_ok-left.ensures.words (λ words h. c.in_err-word.ensures.value words h))

pub call-returns-clause-value : goal.call-returns-clause-value
call-returns-clause-value t c =
    ap (λ w. Some (evaluated w (attempt_in c.run_function.new.scratch c.in_ok-word.left.now))) c.number_of.ensures.value
    ∙ call_behind (words_of (meanings_of c.args.functions.now) (values_of c.args.values.now) (attempt_in c.args.scratch.now c.args.readings.now)) _ _
    (Some (evaluated c.in_ok-word.word (attempt_in c.run_function.new.scratch c.in_ok-word.left.now)))
    (meaning_in (meanings_of c.args.functions.now) c.args.f.now.function) c.in_ok-left.ensures.words (λ words h. c.in_ok-word.ensures.value words h)

pub run_function-run_block-ran-requires : goal.run_function-run_block-ran-requires
run_function-run_block-ran-requires t c =
    let body = c.deref.ensures.value in
    let falls = function_falls c.args.functions.now c.args.k c.index-functions-k.result c.requires.known in
    let size = ap (λ b. block_size (block_view b)) body in
    let frames = ap length c.in_ok-frames.ensures.cases.0 in
    let front = length-take-le c.args.k c.args.functions.now (omega (arith, c.requires.known)) in
    let count = count_at c.args.functions.now c.args.k c.index-functions-k.result c.deref.result.now c.requires.known body in (
      omega (arith, falls, size, c.decreases),
      (
        omega (arith, c.requires.known, c.requires.frames, frames, front),
        omega (arith, c.requires.emits, count),
      ),
    )

-- what the body of a function came to
pub run_function-returns-in_err-ran-clause-value : goal.run_function-returns-in_err-ran-clause-value
run_function-returns-in_err-ran-clause-value t c = λ words h.
    let entered = entered_is c.args.scratch.now c.swap.new.x c.in_ok-frames.own.now c.args.frames.now c.in_ok-frames.rest.now words c.args.readings.now
    c.swap.ensures.x_after c.in_ok-frames.ensures.cases.0 h in
    rw c.from_residual-in_err-ran.ensures (sym (known_at c.args.functions.now c.args.k c.index-functions-k.result c.deref.result.now words
    (attempt_in c.args.scratch.now c.args.readings.now) short c.requires.known c.deref.ensures.value
    (ap (run_block (meanings_of (take c.args.k c.args.functions.now)) (block_view c.deref.result.now)) entered ∙ c.in_err-ran.ensures.outcome)))

pub run_function-returns-in_err-word-clause-value : goal.run_function-returns-in_err-word-clause-value
run_function-returns-in_err-word-clause-value t c = λ words h.
    let entered = entered_is c.args.scratch.now c.swap.new.x c.in_ok-frames.own.now c.args.frames.now c.in_ok-frames.rest.now words c.args.readings.now
    c.swap.ensures.x_after c.in_ok-frames.ensures.cases.0 h in
    let ran = known_at c.args.functions.now c.args.k c.index-functions-k.result c.deref.result.now words (attempt_in c.args.scratch.now c.args.readings.now)
    (ended c.in_ok-ran.ran.end (attempt_in c.run_block-ran.new.scratch c.in_ok-ran.ran.left.now)) c.requires.known c.deref.ensures.value
    (ap (run_block (meanings_of (take c.args.k c.args.functions.now)) (block_view c.deref.result.now)) entered ∙ c.in_ok-ran.ensures.outcome) in
    let given = given_is c.run_block-ran.new.scratch c.args.scratch.now.locals c.swap-2.new.y c.in_ok-ran.ran.left.now c.in_ok-ran.ran.end
    (c.swap-2.ensures.y_after ∙ c.swap.ensures.y_after) in
    let give : ℕ → Evaluated =
    λ w. evaluated w (attempt_in (record c.run_block-ran.new.scratch { locals = c.swap-2.new.y }) c.in_ok-ran.ran.left.now) in
    rw c.from_residual-in_err-word.ensures (ap (option_map give) c.in_err-word.ensures ∙ sym (ran ∙ given))

pub run_function-returns-clause-value : goal.run_function-returns-clause-value
run_function-returns-clause-value t c = λ words h.
    let entered = entered_is c.args.scratch.now c.swap.new.x c.in_ok-frames.own.now c.args.frames.now c.in_ok-frames.rest.now words c.args.readings.now
    c.swap.ensures.x_after c.in_ok-frames.ensures.cases.0 h in
    let ran = known_at c.args.functions.now c.args.k c.index-functions-k.result c.deref.result.now words (attempt_in c.args.scratch.now c.args.readings.now)
    (ended c.in_ok-ran.ran.end (attempt_in c.run_block-ran.new.scratch c.in_ok-ran.ran.left.now)) c.requires.known c.deref.ensures.value
    (ap (run_block (meanings_of (take c.args.k c.args.functions.now)) (block_view c.deref.result.now)) entered ∙ c.in_ok-ran.ensures.outcome) in
    let given = given_is c.run_block-ran.new.scratch c.args.scratch.now.locals c.swap-2.new.y c.in_ok-ran.ran.left.now c.in_ok-ran.ran.end
    (c.swap-2.ensures.y_after ∙ c.swap.ensures.y_after) in
    let give : ℕ → Evaluated =
    λ w. evaluated w (attempt_in (record c.run_block-ran.new.scratch { locals = c.swap-2.new.y }) c.in_ok-ran.ran.left.now) in
    ap (option_map give) c.in_ok-word.ensures ∙ sym (ran ∙ given)

pub run_function-returns-clause-emitted : goal.run_function-returns-clause-emitted
run_function-returns-clause-emitted t c =
    let count = count_at c.args.functions.now c.args.k c.index-functions-k.result c.deref.result.now c.requires.known c.deref.ensures.value in
    omega (arith, count, c.in_ok-ran.ensures.emitted)

-- ---- conditions

pub run_arms-evaluate-requires : goal.run_arms-evaluate-requires
run_arms-evaluate-requires t c =
    let smaller = arm_size c.args.arms.now c.loop-arm.arm-index c.arm-item.result c.arm-item.result.block.items c.loop-arm-test.true c.arm-item.is refl in
    let here = arm_emits (counts_of c.args.functions.now) c.args.arms.now c.loop-arm.arm-index c.arm-item.result c.arm-item.result.block.items
    c.loop-arm-test.true c.arm-item.is refl in (
      omega (arith, smaller, c.decreases),
      (
        omega (arith, c.requires.frames, c.loop-arm.auto.frames),
        omega (arith, here.conditions, c.loop-arm.invariant.emits, c.requires.emits),
      ),
    )

pub run_arms-returns-in_err-x-clause-outcome : goal.run_arms-returns-in_err-x-clause-outcome
run_arms-returns-in_err-x-clause-outcome t c = λ last.
    rw c.from_residual.ensures (sym (c.loop-arm.invariant.rest last)
    ∙ arm_short (meanings_of c.args.functions.now) c.args.arms.now c.loop-arm.arm-index c.arm-item.result last
    (attempt_in c.loop-arm.scratch c.loop-arm.left.now) c.loop-arm-test.true c.arm-item.is c.in_err-x.ensures.value)

pub run_arms-run_block-requires : goal.run_arms-run_block-requires
run_arms-run_block-requires t c =
    let smaller = arm_size c.args.arms.now c.loop-arm.arm-index c.arm-item.result c.deref.result.now c.loop-arm-test.true c.arm-item.is c.deref.ensures.value in
    let here = arm_emits (counts_of c.args.functions.now) c.args.arms.now c.loop-arm.arm-index c.arm-item.result c.deref.result.now c.loop-arm-test.true
    c.arm-item.is c.deref.ensures.value in (
      omega (arith, smaller, c.decreases),
      (
        omega (arith, c.requires.frames, c.loop-arm.auto.frames, c.evaluate.auto.frames),
        omega (arith, here.conditions, here.most, c.loop-arm.invariant.emits, c.in_ok-x.ensures.emitted, c.requires.emits),
      ),
    )

pub run_arms-returns-in_err-ran-clause-outcome : goal.run_arms-returns-in_err-ran-clause-outcome
run_arms-returns-in_err-ran-clause-outcome t c = λ last.
    let taken = arm_taken (meanings_of c.args.functions.now) c.args.arms.now c.loop-arm.arm-index c.arm-item.result last c.deref.result.now
    (attempt_in c.loop-arm.scratch c.loop-arm.left.now) (evaluated_in c.evaluate.new.scratch c.in_ok-x.x) c.loop-arm-test.true c.arm-item.is
    c.deref.ensures.value c.in_ok-x.ensures.value (sym c.if-holds.ensures) in
    rw c.from_residual-in_err-ran.ensures (sym (c.loop-arm.invariant.rest last) ∙ taken ∙ c.in_err-ran.ensures.outcome)

pub run_arms-returns-then-holds-clause-outcome : goal.run_arms-returns-then-holds-clause-outcome
run_arms-returns-then-holds-clause-outcome t c = λ last.
    let taken = arm_taken (meanings_of c.args.functions.now) c.args.arms.now c.loop-arm.arm-index c.arm-item.result last c.deref.result.now
    (attempt_in c.loop-arm.scratch c.loop-arm.left.now) (evaluated_in c.evaluate.new.scratch c.in_ok-x.x) c.loop-arm-test.true c.arm-item.is
    c.deref.ensures.value c.in_ok-x.ensures.value (sym c.if-holds.ensures) in
    sym (c.loop-arm.invariant.rest last) ∙ taken ∙ c.in_ok-ran.ensures.outcome

pub run_arms-returns-then-holds-clause-emitted : goal.run_arms-returns-then-holds-clause-emitted
run_arms-returns-then-holds-clause-emitted t c =
    let here = arm_emits (counts_of c.args.functions.now) c.args.arms.now c.loop-arm.arm-index c.arm-item.result c.deref.result.now c.loop-arm-test.true
    c.arm-item.is c.deref.ensures.value in
    omega (arith, here.conditions, here.most, c.loop-arm.invariant.emits, c.in_ok-x.ensures.emitted, c.in_ok-ran.ensures.emitted)

pub run_arms-loop-arm-preserved : goal.run_arms-loop-arm-preserved
run_arms-loop-arm-preserved t c = record {
  rest = λ last. sym (arm_passed (meanings_of c.args.functions.now) c.args.arms.now c.loop-arm.arm-index c.arm-item.result last
      (attempt_in c.loop-arm.scratch c.loop-arm.left.now) (evaluated_in c.evaluate.new.scratch c.in_ok-x.x) c.loop-arm-test.true c.arm-item.is
      c.in_ok-x.ensures.value (sym c.if-holds.ensures)) ∙ c.loop-arm.invariant.rest last;
  emits =
      let here = arm_emits (counts_of c.args.functions.now) c.args.arms.now c.loop-arm.arm-index c.arm-item.result c.arm-item.result.block.items
      c.loop-arm-test.true c.arm-item.is refl in
      omega (arith, here.conditions, c.loop-arm.invariant.emits, c.in_ok-x.ensures.emitted);
  same_base = c.in_ok-x.ensures.same_base ∙ c.loop-arm.invariant.same_base;
}

-- ---- blocks

pub run_block-run_statement-requires : goal.run_block-run_statement-requires
run_block-run_statement-requires t c =
    let falls = statement_falls c.args.body.now c.loop-statement.statement-index c.statement-item.result c.loop-statement-test.true c.statement-item.is in
    let at = ap (block_emits (counts_of c.args.functions.now))
    (block_at c.args.body.now c.loop-statement.statement-index c.statement-item.result c.loop-statement-test.true c.statement-item.is) in (
      omega (arith, falls, c.decreases),
      (
        omega (arith, c.requires.frames, c.loop-statement.auto.frames),
        omega (arith, at, c.loop-statement.invariant.emits, c.requires.emits),
      ),
    )

-- ---- statements

-- the emitted words of an `if`
if_emits : (counts : List ℕ) (arms : Vec (Arm VariableName TaskName FunctionName) Global) (last : Option (Vec (Stmt VariableName TaskName FunctionName) Global))
    (statement : Stmt VariableName TaskName FunctionName) → statement ≡ If arms last
    → statement_emits counts (statement_of statement) ≡ conditions_emit counts (choice_view arms.items last) + choice_emits counts (choice_view arms.items last)
if_emits counts arms last statement is = ap (λ s. statement_emits counts (statement_of s)) is ∙ ap (statement_emits counts) (if_view arms last)

-- and its size
if_size : (arms : Vec (Arm VariableName TaskName FunctionName) Global) (last : Option (Vec (Stmt VariableName TaskName FunctionName) Global))
    (statement : Stmt VariableName TaskName FunctionName) → statement ≡ If arms last
    → statement_size (statement_of statement) ≡ 1 + choice_size (choice_view arms.items last)
if_size arms last statement is = ap (λ s. statement_size (statement_of s)) is ∙ ap statement_size (if_view arms last)

pub run_statement-run_arms-requires : goal.run_statement-run_arms-requires
run_statement-run_arms-requires t c =
    let counts = counts_of c.args.functions.now in
    let whole = if_emits counts c.in-If.arms c.in-If.last c.args.statement.now c.in-If.is in
    let arms = none_emits counts (map tested_of c.in-If.arms.items) (last_view c.in-If.last) in
    let conditions = ap (λ a. conditions_emit counts (choice_of (map tested_of a) None)) c.deref.ensures.value in
    let blocks = ap (λ a. choice_emits counts (choice_of (map tested_of a) None)) c.deref.ensures.value in
    let size = ap (λ a. choice_size (choice_of (map tested_of a) None)) c.deref.ensures.value in
    let falls = if_size c.in-If.arms c.in-If.last c.args.statement.now c.in-If.is in
    let fewer = none_size (map tested_of c.in-If.arms.items) (last_view c.in-If.last) in
    (omega (arith, size, falls, fewer, c.decreases), (c.requires.frames, omega (arith, whole, arms, conditions, blocks, c.requires.emits)))

pub run_statement-run_block-requires : goal.run_statement-run_block-requires
run_statement-run_block-requires t c =
    let counts = counts_of c.args.functions.now in
    let whole = if_emits counts c.in-If.arms c.in-If.last c.args.statement.now c.in-If.is
    ∙ ap (λ last. conditions_emit counts (choice_view c.in-If.arms.items last) + choice_emits counts (choice_view c.in-If.arms.items last)) c.in-Some.is in
    let falls = if_size c.in-If.arms c.in-If.last c.args.statement.now c.in-If.is
    ∙ ap (λ last. 1 + choice_size (choice_view c.in-If.arms.items last)) c.in-Some.is in
    let part = last_size (map tested_of c.in-If.arms.items) (block_view c.in-Some.block.items) in
    let most = last_emits counts (map tested_of c.in-If.arms.items) (block_view c.in-Some.block.items) in
    let conditions = same_conditions counts (map tested_of c.in-If.arms.items) (block_view c.in-Some.block.items) in
    let asked = ap (λ a. conditions_emit counts (choice_of (map tested_of a) None)) c.deref.ensures.value in
    let size = ap (λ b. block_size (block_view b)) c.deref-in-Some.ensures.value in
    let same = ap (λ b. block_emits counts (block_view b)) c.deref-in-Some.ensures.value in
    let kept = none_kept c.in_ok-ran-in-If.field-0 c.in-NoneHolds.left _ _ _ _ c.in-NoneHolds.is c.in_ok-ran-in-If.ensures.emitted in (
      omega (arith, falls, part, size, c.decreases),
      (
        omega (arith, c.requires.frames, c.run_arms.auto.frames),
        omega (arith, whole, most, conditions, asked, same, kept, c.requires.emits),
      ),
    )

-- what a `for` does
for_runs : (known : List Meaning) (statement : Stmt VariableName TaskName FunctionName) (s : Attempt) (x : VariableName) (from : ℕ) (tested : VariableName)
    (below : ℕ) (stepped : VariableName) (body : Vec (Stmt VariableName TaskName FunctionName) Global)
    → statement ≡ For x from tested below stepped body
    → run_statement known (statement_of statement) s ≡ turns (below - from) from x.variable (run_block known (block_view body.items)) s
for_runs known statement s x from tested below stepped body is =
    ap (λ z. run_statement known (statement_of z) s) is ∙ ap (λ z. run_statement known z s) (for_view x from tested below stepped body)

pub run_statement-returns-in_err-ran-in-For-clause-outcome : goal.run_statement-returns-in_err-ran-in-For-clause-outcome
run_statement-returns-in_err-ran-in-For-clause-outcome t c =
    let run = run_block (meanings_of c.args.functions.now) (block_view c.in-For.body.items) in
    let set = attempt_set c.loop-k.scratch c.set-in-loop-k.new.self c.loop-k.left.now c.in-For.variable.variable 0 c.loop-k.k c.set-in-loop-k.ensures.variables
    c.set-in-loop-k.ensures.emitted in
    let whole = for_runs (meanings_of c.args.functions.now) c.args.statement.now (attempt_in c.args.scratch.now c.args.readings.now) c.in-For.variable
    c.in-For.from c.in-For.tested c.in-For.below c.in-For.stepped c.in-For.body c.in-For.is in
    let step = turns_step (c.in-For.below - c.loop-k.k) (c.in-For.below - (c.loop-k.k + 1)) c.loop-k.k c.in-For.variable.variable
    run (attempt_in c.loop-k.scratch c.loop-k.left.now) short (omega arith)
    (ap run set
    ∙ ap (λ b. run_block (meanings_of c.args.functions.now) (block_view b) (attempt_in c.set-in-loop-k.new.self c.loop-k.left.now))
    (sym c.deref-in-loop-k.ensures.value) ∙ c.in_err-ran-in-For.ensures.outcome) in
    rw c.from_residual-in_err-ran-in-For.ensures (whole ∙ sym c.loop-k.invariant.rest ∙ step)

pub run_statement-returns-then-leaves-clause-outcome : goal.run_statement-returns-then-leaves-clause-outcome
run_statement-returns-then-leaves-clause-outcome t c =
    let run = run_block (meanings_of c.args.functions.now) (block_view c.in-For.body.items) in
    let set = attempt_set c.loop-k.scratch c.set-in-loop-k.new.self c.loop-k.left.now c.in-For.variable.variable 0 c.loop-k.k c.set-in-loop-k.ensures.variables
    c.set-in-loop-k.ensures.emitted in
    let whole = for_runs (meanings_of c.args.functions.now) c.args.statement.now (attempt_in c.args.scratch.now c.args.readings.now) c.in-For.variable
    c.in-For.from c.in-For.tested c.in-For.below c.in-For.stepped c.in-For.body c.in-For.is in
    let behind = attempt_in c.run_block-in-loop-k.new.scratch c.in_ok-ran-in-For.ran.left.now in
    let o = ended c.in_ok-ran-in-For.ran.end behind in
    let step = turns_step (c.in-For.below - c.loop-k.k) (c.in-For.below - (c.loop-k.k + 1)) c.loop-k.k c.in-For.variable.variable
    run (attempt_in c.loop-k.scratch c.loop-k.left.now) o (omega arith)
    (ap run set
    ∙ ap (λ b. run_block (meanings_of c.args.functions.now) (block_view b) (attempt_in c.set-in-loop-k.new.self c.loop-k.left.now))
    (sym c.deref-in-loop-k.ensures.value) ∙ c.in_ok-ran-in-For.ensures.outcome) in
    whole ∙ sym c.loop-k.invariant.rest ∙ step ∙ ended_stays c.in_ok-ran-in-For.ran.end behind
    (turns (c.in-For.below - (c.loop-k.k + 1)) (c.loop-k.k + 1) c.in-For.variable.variable run) (sym c.if-leaves.ensures)

pub run_statement-loop-k-preserved : goal.run_statement-loop-k-preserved
run_statement-loop-k-preserved t c = record {
  rest =
      let run = run_block (meanings_of c.args.functions.now) (block_view c.in-For.body.items) in
      let set = attempt_set c.loop-k.scratch c.set-in-loop-k.new.self c.loop-k.left.now c.in-For.variable.variable 0 c.loop-k.k
      c.set-in-loop-k.ensures.variables c.set-in-loop-k.ensures.emitted in
      let behind = attempt_in c.run_block-in-loop-k.new.scratch c.in_ok-ran-in-For.ran.left.now in
      let more = turns (c.in-For.below - (c.loop-k.k + 1)) (c.loop-k.k + 1) c.in-For.variable.variable run in
      let step = turns_step (c.in-For.below - c.loop-k.k) (c.in-For.below - (c.loop-k.k + 1)) c.loop-k.k c.in-For.variable.variable
      run (attempt_in c.loop-k.scratch c.loop-k.left.now) (ended c.in_ok-ran-in-For.ran.end behind) (omega arith)
      (ap run set
      ∙ ap (λ b. run_block (meanings_of c.args.functions.now) (block_view b) (attempt_in c.set-in-loop-k.new.self c.loop-k.left.now))
      (sym c.deref-in-loop-k.ensures.value) ∙ c.in_ok-ran-in-For.ensures.outcome) in
      sym (step ∙ ended_goes_on c.in_ok-ran-in-For.ran.end behind more (sym c.if-leaves.ensures)) ∙ c.loop-k.invariant.rest;
  emits =
      let counts = counts_of c.args.functions.now in
      let turn = turn_emits (c.in-For.below - c.loop-k.k) (c.in-For.below - (c.loop-k.k + 1)) (block_emits counts (block_view c.in-For.body.items))
      (omega arith) in
      let same = ap (λ b. block_emits counts (block_view b)) c.deref-in-loop-k.ensures.value in
      let kept = ap (λ e. length e.items) c.set-in-loop-k.ensures.emitted in
      omega (arith, turn, same, kept, c.in_ok-ran-in-For.ensures.emitted, c.loop-k.invariant.emits);
  bound = omega arith;
  same_base = search rules;
}

pub run_statement-returns-in-Behind-clause-emitted : goal.run_statement-returns-in-Behind-clause-emitted
run_statement-returns-in-Behind-clause-emitted t c =
    let counts = counts_of c.args.functions.now in
    let whole = if_emits counts c.in-If.arms c.in-If.last c.args.statement.now c.in-If.is in
    let arms = none_emits counts (map tested_of c.in-If.arms.items) (last_view c.in-If.last) in
    let conditions = ap (λ a. conditions_emit counts (choice_of (map tested_of a) None)) c.deref.ensures.value in
    let blocks = ap (λ a. choice_emits counts (choice_of (map tested_of a) None)) c.deref.ensures.value in
    let most = behind_most c.in_ok-ran-in-If.field-0 c.in-Behind.ran _ _ _ _ c.in-Behind.is c.in_ok-ran-in-If.ensures.emitted in
    omega (arith, whole, arms, conditions, blocks, most)

pub run_statement-returns-in-Some-clause-emitted : goal.run_statement-returns-in-Some-clause-emitted
run_statement-returns-in-Some-clause-emitted t c =
    let counts = counts_of c.args.functions.now in
    let whole = if_emits counts c.in-If.arms c.in-If.last c.args.statement.now c.in-If.is
    ∙ ap (λ last. conditions_emit counts (choice_view c.in-If.arms.items last) + choice_emits counts (choice_view c.in-If.arms.items last)) c.in-Some.is in
    let most = last_emits counts (map tested_of c.in-If.arms.items) (block_view c.in-Some.block.items) in
    let conditions = same_conditions counts (map tested_of c.in-If.arms.items) (block_view c.in-Some.block.items) in
    let asked = ap (λ a. conditions_emit counts (choice_of (map tested_of a) None)) c.deref.ensures.value in
    let same = ap (λ b. block_emits counts (block_view b)) c.deref-in-Some.ensures.value in
    let kept = none_kept c.in_ok-ran-in-If.field-0 c.in-NoneHolds.left _ _ _ _ c.in-NoneHolds.is c.in_ok-ran-in-If.ensures.emitted in
    on_some c.run_block.result _ _ (λ h. omega (arith, whole, most, conditions, asked, same, kept, h)) c.run_block.ensures.emitted
