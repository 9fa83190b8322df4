-- The conditions of an `if`, one after another, and what its blocks emit.
use Rattle.std.proofs.Common.{◌≡◌, ◌<◌, ◌≤◌, ◌+◌, ℕ, zero, suc, max, Bool, true, false, List, [], ◌∷◌, map, length, drop, get_or, sym, ap, ◌∙◌, arith, Option}
use Rattle.std.proofs.Common.{Some}
use Rattle.std.proofs.Common.{None, drop-cons, if◌then◌else◌, OnSome, subst}
use denote.Bor.{Bor}
use Rattle.source_values.specs.declared.statements.Chosen.{Chosen}
use Rattle.source_values.specs.declared.statements.Chosen.TheVariants.{Behind, NoneHolds}
use Rattle.source_values.specs.declared.statements.Ran.{Ran}
use Rattle.source_values.specs.View.{ChosenEmits}
use Rattle.task_ast.specs.Paths.{CheckedExpression, CheckedStatement, CheckedChoice, CheckedBlock}
use Rattle.task_ast.specs.Tree.{test, Tested, choice_of}
use Rattle.task_ast.specs.View.{expression_of, statement_step, tested_of, tested_step, block_view}
use Rattle.task_ast.specs.declared.names.VariableName.{VariableName}
use Rattle.task_ast.specs.declared.names.TaskName.{TaskName}
use Rattle.task_ast.specs.declared.names.FunctionName.{FunctionName}
use Rattle.task_ast.specs.declared.Arm.{Arm, fold_out-Arm}
use Rattle.task_ast.specs.declared.Stmt.{Stmt}
use Rattle.source_values.specs.Values.{Evaluated, Meaning, value_of, holds}
use Rattle.source_values.specs.Statements.{Attempt, short, if_value, run_choice, run_block, expression_emits, block_emits, choice_emits, conditions_emit}
use Rattle.source_values.proofs.Sizes.{expression_size, choice_size, block_size}

-- an arm's condition and block
arm_view : (arm : Arm VariableName TaskName FunctionName)
    → tested_of arm ≡ record { condition = expression_of arm.condition; block = block_view arm.block.items }
arm_view arm =
    fold_out-Arm VariableName TaskName FunctionName CheckedStatement (Tested VariableName TaskName FunctionName) statement_step tested_step arm

-- where the first condition has a value
choice_by : (known : List Meaning) (c : CheckedExpression) (block : CheckedBlock) (more : CheckedChoice) (s : Attempt) (x : Evaluated)
    (b : Bool) → Some x ≡ value_of known c s → holds x.value ≡ b
    → run_choice known (test c block more) s ≡ (if b then run_block known block x.behind else run_choice known more x.behind)
choice_by known c block more s x b e h =
    ap (λ o. if_value o (λ w s. if holds w then run_block known block s else run_choice known more s)) (sym e)
    ∙ ap (λ b. if b then run_block known block x.behind else run_choice known more x.behind) h

-- the arms from number i on
choice_at : (arms : List (Arm VariableName TaskName FunctionName)) (i : ℕ) (arm : Arm VariableName TaskName FunctionName) (last : Option CheckedBlock)
    → i < length arms → arm ≡ get_or arms i arm
    → choice_of (map tested_of (drop i arms)) last
    ≡ test (expression_of arm.condition) (block_view arm.block.items) (choice_of (map tested_of (drop (i + 1) arms)) last)
choice_at arms i arm last h is =
    let split : drop i arms ≡ get_or arms i arm ∷ drop (i + 1) arms = grind (arith, drop-cons arms i arm) in
    ap (λ rest. choice_of (map tested_of rest) last) (split ∙ ap (λ x. x ∷ drop (i + 1) arms) (sym is))
    ∙ ap (λ t. test t.condition t.block (choice_of (map tested_of (drop (i + 1) arms)) last)) (arm_view arm)

pub arm_taken : (known : List Meaning) (arms : List (Arm VariableName TaskName FunctionName)) (i : ℕ) (arm : Arm VariableName TaskName FunctionName)
    (last : Option CheckedBlock) (body : List (Stmt VariableName TaskName FunctionName)) (s : Attempt) (x : Evaluated)
    → i < length arms → arm ≡ get_or arms i arm → body ≡ arm.block.items
    → Some x ≡ value_of known (expression_of arm.condition) s → holds x.value ≡ true
    → run_choice known (choice_of (map tested_of (drop i arms)) last) s ≡ run_block known (block_view body) x.behind
arm_taken known arms i arm last body s x h is e v t =
    ap (λ choice. run_choice known choice s) (choice_at arms i arm last h is)
    ∙ choice_by known (expression_of arm.condition) (block_view arm.block.items) (choice_of (map tested_of (drop (i + 1) arms)) last) s x true v t
    ∙ ap (λ b. run_block known (block_view b) x.behind) (sym e)

-- where an arm's condition has no value
pub arm_short : (known : List Meaning) (arms : List (Arm VariableName TaskName FunctionName)) (i : ℕ) (arm : Arm VariableName TaskName FunctionName)
    (last : Option CheckedBlock) (s : Attempt) → i < length arms → arm ≡ get_or arms i arm → None ≡ value_of known (expression_of arm.condition) s
    → run_choice known (choice_of (map tested_of (drop i arms)) last) s ≡ short
arm_short known arms i arm last s h is e =
    ap (λ choice. run_choice known choice s) (choice_at arms i arm last h is)
    ∙ ap (λ o. if_value o (λ w s. if holds w then run_block known (block_view arm.block.items) s
    else run_choice known (choice_of (map tested_of (drop (i + 1) arms)) last) s)) (sym e)

pub arm_passed : (known : List Meaning) (arms : List (Arm VariableName TaskName FunctionName)) (i : ℕ) (arm : Arm VariableName TaskName FunctionName)
    (last : Option CheckedBlock) (s : Attempt) (x : Evaluated)
    → i < length arms → arm ≡ get_or arms i arm
    → Some x ≡ value_of known (expression_of arm.condition) s → holds x.value ≡ false
    → run_choice known (choice_of (map tested_of (drop i arms)) last) s ≡ run_choice known (choice_of (map tested_of (drop (i + 1) arms)) last) x.behind
arm_passed known arms i arm last s x h is v t =
    ap (λ choice. run_choice known choice s) (choice_at arms i arm last h is)
    ∙ choice_by known (expression_of arm.condition) (block_view arm.block.items) (choice_of (map tested_of (drop (i + 1) arms)) last) s x false v t

-- ---- emitted words

-- a last block has no condition
pub same_conditions : (counts : List ℕ) (tests : List (Tested VariableName TaskName FunctionName)) (block : CheckedBlock)
    → conditions_emit counts (choice_of tests (Some block)) ≡ conditions_emit counts (choice_of tests None)
same_conditions counts [] block = omega arith
same_conditions counts (one ∷ more) block = omega (arith, same_conditions counts more block)

greater_emits : (counts : List ℕ) (tests : List (Tested VariableName TaskName FunctionName)) (block : CheckedBlock)
    → choice_emits counts (choice_of tests None) ≤ choice_emits counts (choice_of tests (Some block))
greater_emits counts [] block = omega arith
greater_emits counts (one ∷ more) block = omega (arith, greater_emits counts more block)

pub none_emits : (counts : List ℕ) (tests : List (Tested VariableName TaskName FunctionName)) (last : Option CheckedBlock)
    → conditions_emit counts (choice_of tests None) + choice_emits counts (choice_of tests None)
    ≤ conditions_emit counts (choice_of tests last) + choice_emits counts (choice_of tests last)
none_emits counts [] None = omega arith
none_emits counts [] (Some block) = omega arith
none_emits counts (one ∷ more) None = omega arith
none_emits counts (one ∷ more) (Some block) = omega (arith, same_conditions counts more block, greater_emits counts more block)

pub last_emits : (counts : List ℕ) (tests : List (Tested VariableName TaskName FunctionName)) (block : CheckedBlock)
    → block_emits counts block ≤ choice_emits counts (choice_of tests (Some block))
last_emits counts [] block = omega arith
last_emits counts (one ∷ more) block = omega (arith, last_emits counts more block)

-- no arm emits more than the arms from its number on
pub rest_emits : (counts : List ℕ) (arms : List (Arm VariableName TaskName FunctionName)) (i : ℕ)
    → choice_emits counts (choice_of (map tested_of (drop i arms)) None) ≤ choice_emits counts (choice_of (map tested_of arms) None)
rest_emits counts arms zero = omega arith
rest_emits counts [] (suc i) = omega arith
rest_emits counts (arm ∷ arms) (suc i) = omega (arith, rest_emits counts arms i)

-- what an arm emits, beside those behind it
pub record ArmEmits (counts : List ℕ) (arms : List (Arm VariableName TaskName FunctionName)) (i : ℕ) (condition : CheckedExpression) (block : CheckedBlock)
    : Type 0 where
  pub conditions : conditions_emit counts (choice_of (map tested_of (drop i arms)) None)
      ≡ expression_emits counts condition + conditions_emit counts (choice_of (map tested_of (drop (i + 1) arms)) None)
  pub most : block_emits counts block ≤ choice_emits counts (choice_of (map tested_of arms) None)

pub arm_emits : (counts : List ℕ) (arms : List (Arm VariableName TaskName FunctionName)) (i : ℕ) (arm : Arm VariableName TaskName FunctionName)
    (body : List (Stmt VariableName TaskName FunctionName)) → i < length arms → arm ≡ get_or arms i arm → body ≡ arm.block.items
    → ArmEmits counts arms i (expression_of arm.condition) (block_view body)
arm_emits counts arms i arm body h is e =
    let at = choice_at arms i arm None h is in
    let first : choice_emits counts (choice_of (map tested_of (drop i arms)) None)
    ≡ max (block_emits counts (block_view arm.block.items)) (choice_emits counts (choice_of (map tested_of (drop (i + 1) arms)) None)) =
    ap (choice_emits counts) at in
    let same : block_emits counts (block_view body) ≡ block_emits counts (block_view arm.block.items) = ap (λ b. block_emits counts (block_view b)) e in
    let rest = rest_emits counts arms i in
    record { conditions = ap (conditions_emit counts) at; most = rw (same) (omega (arith, first, rest)) }

-- where no condition held, their calls alone emitted
pub none_kept : (x : Chosen) (left : Bor (List ℕ)) (before now conditions most : ℕ) → x ≡ NoneHolds left → ChosenEmits (Some x) before now conditions most
    → now ≤ before + conditions
none_kept x left before now conditions most is h =
    let P : Chosen → Type 0 = λ y. ChosenEmits (Some y) before now conditions most in subst P is h

-- the block behind the condition that held emitted what the arms allow
pub behind_most : (x : Chosen) (r : Ran) (before now conditions most : ℕ) → x ≡ Behind r → ChosenEmits (Some x) before now conditions most
    → now ≤ before + (conditions + most)
behind_most x r before now conditions most is h =
    let P : Chosen → Type 0 = λ y. ChosenEmits (Some y) before now conditions most in subst P is h

pub on_some : {A : Type 0} (result : Option A) (P Q : Type 0) → (P → Q) → OnSome result P → OnSome result Q
on_some None P Q f h = tt
on_some (Some x) P Q f h = f h

-- ---- sizes

pub none_size : (tests : List (Tested VariableName TaskName FunctionName)) (last : Option CheckedBlock)
    → choice_size (choice_of tests None) ≤ choice_size (choice_of tests last)
none_size [] None = omega arith
none_size [] (Some block) = omega arith
none_size (one ∷ more) last = omega (arith, none_size more last)

pub last_size : (tests : List (Tested VariableName TaskName FunctionName)) (block : CheckedBlock)
    → 1 + block_size block ≤ choice_size (choice_of tests (Some block))
last_size [] block = omega arith
last_size (one ∷ more) block = omega (arith, last_size more block)

rest_size : (arms : List (Arm VariableName TaskName FunctionName)) (i : ℕ)
    → choice_size (choice_of (map tested_of (drop i arms)) None) ≤ choice_size (choice_of (map tested_of arms) None)
rest_size arms zero = omega arith
rest_size [] (suc i) = omega arith
rest_size (arm ∷ arms) (suc i) = omega (arith, rest_size arms i)

-- an arm's condition and its block are smaller than all arms
pub arm_size : (arms : List (Arm VariableName TaskName FunctionName)) (i : ℕ) (arm : Arm VariableName TaskName FunctionName)
    (body : List (Stmt VariableName TaskName FunctionName)) → i < length arms → arm ≡ get_or arms i arm → body ≡ arm.block.items
    → 1 + (expression_size (expression_of arm.condition) + block_size (block_view body)) ≤ choice_size (choice_of (map tested_of arms) None)
arm_size arms i arm body h is e =
    let first : choice_size (choice_of (map tested_of (drop i arms)) None) ≡ 1 + (expression_size (expression_of arm.condition)
    + (block_size (block_view arm.block.items) + choice_size (choice_of (map tested_of (drop (i + 1) arms)) None))) =
    ap choice_size (choice_at arms i arm None h is) in
    let same : block_size (block_view body) ≡ block_size (block_view arm.block.items) = ap (λ b. block_size (block_view b)) e in
    omega (arith, first, same, rest_size arms i)
