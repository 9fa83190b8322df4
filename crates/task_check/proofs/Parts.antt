-- The parts of a looked-up source as lists.
use Rattle.std.proofs.Common.{◌≡◌, ◌+◌, ◌<◌, ℕ, List, [], ◌∷◌, ◌++◌, length, get_or, take, map, Some, None, refl, sym, ap, ap₂, ◌∙◌}
use Rattle.std.proofs.lemmas.List.{map-append, map-id, take_more}
use Rattle.task_ast.specs.declared.Stmt.{Stmt}
use Rattle.task_ast.specs.declared.Arm.{Arm}
use Rattle.task_ast.specs.declared.Parameter.{Parameter}
use Rattle.task_ast.specs.View.{statement_of, tested_of}
use Rattle.alp_text.specs.declared.lines.Span.{Span}
use Rattle.task_ast.specs.declared.names.FunctionName.{FunctionName}
use Rattle.task_ast.specs.Paths.{CheckedStatement, CheckedBlock, CheckedFunction, CheckedTask}
use Rattle.task_ast.specs.declared.names.VariableName.{VariableName}
use Rattle.task_ast.specs.declared.names.TaskName.{TaskName}
use Rattle.task_ast.specs.Tree.{Block, block_of, Tested, choice_of}
use Rattle.task_ast.specs.Tree as t
use Rattle.task_check.specs.declared.symbol.TypedVariable.{TypedVariable}
use Rattle.task_check.specs.declared.symbol.TypedFunction.{TypedFunction}
use Rattle.task_check.specs.LookedUp.{expression_back, statement_back, block_back, choice_back, expression_variables, statement_variables, block_variables}
use Rattle.task_check.specs.LookedUp.{choice_variables, statement_targets, block_targets, choice_targets, task_variables, task_targets}
use Rattle.task_check.specs.LookedUp.{expression_calls, statement_calls, choice_calls, block_calls, task_calls, function_variables, function_calls}
use Rattle.task_check.specs.LookedUp.{function_targets, inner_variables, parameter_variables, parameter_back, typed}
use Rattle.task_check.specs.Parts.{tested_back, list_variables, list_calls, list_targets, arms_variables, arms_calls, arms_targets}

pub block_back_list : (xs : List CheckedStatement) → block_back (block_of xs) ≡ block_of (map statement_back xs)
block_back_list [] = refl
block_back_list (x ∷ xs) = ap (t.step (statement_back x)) (block_back_list xs)

pub block_variables_list : (xs : List CheckedStatement) (more : List TypedVariable)
    → block_variables (block_of xs) more ≡ list_variables xs more
block_variables_list [] more = refl
block_variables_list (x ∷ xs) more = ap (statement_variables x) (block_variables_list xs more)

pub block_targets_list : (xs : List CheckedStatement) (more : List ℕ) → block_targets (block_of xs) more ≡ list_targets xs more
block_targets_list [] more = refl
block_targets_list (x ∷ xs) more = ap (statement_targets x) (block_targets_list xs more)

pub block_calls_list : (xs : List CheckedStatement) (more : List TypedFunction) → block_calls (block_of xs) more ≡ list_calls xs more
block_calls_list [] more = refl
block_calls_list (x ∷ xs) more = ap (statement_calls x) (block_calls_list xs more)

pub choice_back_none : (xs : List (Tested VariableName TaskName FunctionName)) → choice_back (choice_of xs None) ≡ choice_of (map tested_back xs) None
choice_back_none [] = refl
choice_back_none (x ∷ xs) = ap (t.test (expression_back x.condition) (block_back x.block)) (choice_back_none xs)

pub choice_back_some : (xs : List (Tested VariableName TaskName FunctionName)) (b : CheckedBlock)
    → choice_back (choice_of xs (Some b)) ≡ choice_of (map tested_back xs) (Some (block_back b))
choice_back_some [] b = refl
choice_back_some (x ∷ xs) b = ap (t.test (expression_back x.condition) (block_back x.block)) (choice_back_some xs b)

pub choice_variables_none : (xs : List (Tested VariableName TaskName FunctionName)) (more : List TypedVariable)
    → choice_variables (choice_of xs None) more ≡ arms_variables xs more
choice_variables_none [] more = refl
choice_variables_none (x ∷ xs) more = ap (λ r. expression_variables x.condition (block_variables x.block r)) (choice_variables_none xs more)

pub choice_variables_some : (xs : List (Tested VariableName TaskName FunctionName)) (b : CheckedBlock) (more : List TypedVariable)
    → choice_variables (choice_of xs (Some b)) more ≡ arms_variables xs (block_variables b more)
choice_variables_some [] b more = refl
choice_variables_some (x ∷ xs) b more = ap (λ r. expression_variables x.condition (block_variables x.block r)) (choice_variables_some xs b more)

pub choice_targets_none : (xs : List (Tested VariableName TaskName FunctionName)) (more : List ℕ)
    → choice_targets (choice_of xs None) more ≡ arms_targets xs more
choice_targets_none [] more = refl
choice_targets_none (x ∷ xs) more = ap (block_targets x.block) (choice_targets_none xs more)

pub choice_targets_some : (xs : List (Tested VariableName TaskName FunctionName)) (b : CheckedBlock) (more : List ℕ)
    → choice_targets (choice_of xs (Some b)) more ≡ arms_targets xs (block_targets b more)
choice_targets_some [] b more = refl
choice_targets_some (x ∷ xs) b more = ap (block_targets x.block) (choice_targets_some xs b more)

pub choice_calls_none : (xs : List (Tested VariableName TaskName FunctionName)) (more : List TypedFunction)
    → choice_calls (choice_of xs None) more ≡ arms_calls xs more
choice_calls_none [] more = refl
choice_calls_none (x ∷ xs) more = ap (λ r. expression_calls x.condition (block_calls x.block r)) (choice_calls_none xs more)

pub choice_calls_some : (xs : List (Tested VariableName TaskName FunctionName)) (b : CheckedBlock) (more : List TypedFunction)
    → choice_calls (choice_of xs (Some b)) more ≡ arms_calls xs (block_calls b more)
choice_calls_some [] b more = refl
choice_calls_some (x ∷ xs) b more = ap (λ r. expression_calls x.condition (block_calls x.block r)) (choice_calls_some xs b more)

-- what a choice uses
pub ruleset choice_uses = (choice_variables_none, choice_variables_some, choice_calls_none, choice_calls_some, choice_targets_none, choice_targets_some)

pub list_variables_push : (xs : List CheckedStatement) (x : CheckedStatement) (more : List TypedVariable)
    → list_variables (xs ++ x ∷ []) more ≡ list_variables xs (statement_variables x more)
list_variables_push [] x more = refl
list_variables_push (y ∷ xs) x more = ap (statement_variables y) (list_variables_push xs x more)

pub list_targets_push : (xs : List CheckedStatement) (x : CheckedStatement) (more : List ℕ)
    → list_targets (xs ++ x ∷ []) more ≡ list_targets xs (statement_targets x more)
list_targets_push [] x more = refl
list_targets_push (y ∷ xs) x more = ap (statement_targets y) (list_targets_push xs x more)

pub list_calls_push : (xs : List CheckedStatement) (x : CheckedStatement) (more : List TypedFunction)
    → list_calls (xs ++ x ∷ []) more ≡ list_calls xs (statement_calls x more)
list_calls_push [] x more = refl
list_calls_push (y ∷ xs) x more = ap (statement_calls y) (list_calls_push xs x more)

pub arms_variables_push : (xs : List (Tested VariableName TaskName FunctionName)) (x : Tested VariableName TaskName FunctionName) (more : List TypedVariable)
    → arms_variables (xs ++ x ∷ []) more ≡ arms_variables xs (expression_variables x.condition (block_variables x.block more))
arms_variables_push [] x more = refl
arms_variables_push (y ∷ xs) x more = ap (λ r. expression_variables y.condition (block_variables y.block r)) (arms_variables_push xs x more)

pub arms_targets_push : (xs : List (Tested VariableName TaskName FunctionName)) (x : Tested VariableName TaskName FunctionName) (more : List ℕ)
    → arms_targets (xs ++ x ∷ []) more ≡ arms_targets xs (block_targets x.block more)
arms_targets_push [] x more = refl
arms_targets_push (y ∷ xs) x more = ap (block_targets y.block) (arms_targets_push xs x more)

pub arms_calls_push : (xs : List (Tested VariableName TaskName FunctionName)) (x : Tested VariableName TaskName FunctionName) (more : List TypedFunction)
    → arms_calls (xs ++ x ∷ []) more ≡ arms_calls xs (expression_calls x.condition (block_calls x.block more))
arms_calls_push [] x more = refl
arms_calls_push (y ∷ xs) x more = ap (λ r. expression_calls y.condition (block_calls y.block r)) (arms_calls_push xs x more)

-- one more at the end
pub statements_push : (xs : List (Stmt VariableName TaskName FunctionName)) (x : Stmt VariableName TaskName FunctionName)
    → map statement_of (xs ++ x ∷ []) ≡ map statement_of xs ++ statement_of x ∷ []
statements_push xs x = map-append statement_of xs (x ∷ [])

pub tests_push : (xs : List (Arm VariableName TaskName FunctionName)) (x : Arm VariableName TaskName FunctionName)
    → map tested_of (xs ++ x ∷ []) ≡ map tested_of xs ++ tested_of x ∷ []
tests_push xs x = map-append tested_of xs (x ∷ [])

-- ---- an `if` and its parts

pub if_back_none : (s : CheckedStatement) (ts : List (Tested VariableName TaskName FunctionName)) (us : List (Tested Span Span Span))
    → s ≡ t.choose (choice_of ts None) → map tested_back ts ≡ us
    → statement_back s ≡ t.choose (choice_of us None)
if_back_none s ts us e h = ap statement_back e ∙ ap t.choose (choice_back_none ts ∙ ap (λ v. choice_of v None) h)

pub if_back_some : (s : CheckedStatement) (ts : List (Tested VariableName TaskName FunctionName)) (b : CheckedBlock)
    (us : List (Tested Span Span Span)) (d : Block Span Span Span)
    → s ≡ t.choose (choice_of ts (Some b)) → map tested_back ts ≡ us → block_back b ≡ d
    → statement_back s ≡ t.choose (choice_of us (Some d))
if_back_some s ts b us d e h k =
    ap statement_back e ∙ ap t.choose (choice_back_some ts b ∙ (ap (λ v. choice_of v (Some (block_back b))) h ∙ ap (λ v. choice_of us (Some v)) k))

-- ---- turns of a loop

-- a list that grows by what another has yielded
pub read_on : {A B C D : Type 0} (f : A → D) (h : D → C) (g : B → C) (xs new : List A) (x : A) (ys : List B) (y : B) → new ≡ xs ++ x ∷ []
    → map h (map f xs) ≡ map g ys → h (f x) ≡ g y → map h (map f new) ≡ map g (ys ++ y ∷ [])
read_on f h g xs new x ys y is e k =
    ap (λ v. map h (map f v)) is ∙ (ap (map h) (map-append f xs (x ∷ [])) ∙ (map-append h (map f xs) (f x ∷ [])
    ∙ (ap (λ v. v ++ h (f x) ∷ []) e ∙ (ap (λ v. map g ys ++ v ∷ []) k ∙ sym (map-append g ys (y ∷ []))))))

-- what is left to take after one more
pub push_variables : (xs new : List (Stmt VariableName TaskName FunctionName)) (x : Stmt VariableName TaskName FunctionName)
    (all rest left : List TypedVariable) → new ≡ xs ++ x ∷ []
    → all ≡ list_variables (map statement_of xs) rest → rest ≡ statement_variables (statement_of x) left → all ≡ list_variables (map statement_of new) left
push_variables xs new x all rest left is h k =
    h ∙ (ap (list_variables (map statement_of xs)) k
    ∙ (sym (list_variables_push (map statement_of xs) (statement_of x) left) ∙ ap (λ v. list_variables v left)
    (sym (statements_push xs x) ∙ ap (map statement_of) (sym is))))

pub push_targets : (xs new : List (Stmt VariableName TaskName FunctionName)) (x : Stmt VariableName TaskName FunctionName) (all rest left : List ℕ)
    → new ≡ xs ++ x ∷ []
    → all ≡ list_targets (map statement_of xs) rest → rest ≡ statement_targets (statement_of x) left → all ≡ list_targets (map statement_of new) left
push_targets xs new x all rest left is h k =
    h ∙ (ap (list_targets (map statement_of xs)) k ∙ (sym (list_targets_push (map statement_of xs) (statement_of x) left)
    ∙ ap (λ v. list_targets v left) (sym (statements_push xs x) ∙ ap (map statement_of) (sym is))))

pub push_calls : (xs new : List (Stmt VariableName TaskName FunctionName)) (x : Stmt VariableName TaskName FunctionName) (all rest left : List TypedFunction)
    → new ≡ xs ++ x ∷ [] → all ≡ list_calls (map statement_of xs) rest → rest ≡ statement_calls (statement_of x) left
    → all ≡ list_calls (map statement_of new) left
push_calls xs new x all rest left is h k =
    h ∙ (ap (list_calls (map statement_of xs)) k ∙ (sym (list_calls_push (map statement_of xs) (statement_of x) left)
    ∙ ap (λ v. list_calls v left) (sym (statements_push xs x) ∙ ap (map statement_of) (sym is))))

pub push_arm_variables : (xs new : List (Arm VariableName TaskName FunctionName)) (x : Arm VariableName TaskName FunctionName)
    (all rest left : List TypedVariable) → new ≡ xs ++ x ∷ []
    → all ≡ arms_variables (map tested_of xs) rest → rest ≡ expression_variables (tested_of x).condition (block_variables (tested_of x).block left)
    → all ≡ arms_variables (map tested_of new) left
push_arm_variables xs new x all rest left is h k =
    h ∙ (ap (arms_variables (map tested_of xs)) k ∙ (sym (arms_variables_push (map tested_of xs) (tested_of x) left)
    ∙ ap (λ v. arms_variables v left) (sym (tests_push xs x) ∙ ap (map tested_of) (sym is))))

pub push_arm_targets : (xs new : List (Arm VariableName TaskName FunctionName)) (x : Arm VariableName TaskName FunctionName) (all rest left : List ℕ)
    → new ≡ xs ++ x ∷ []
    → all ≡ arms_targets (map tested_of xs) rest → rest ≡ block_targets (tested_of x).block left → all ≡ arms_targets (map tested_of new) left
push_arm_targets xs new x all rest left is h k =
    h ∙ (ap (arms_targets (map tested_of xs)) k ∙ (sym (arms_targets_push (map tested_of xs) (tested_of x) left)
    ∙ ap (λ v. arms_targets v left) (sym (tests_push xs x) ∙ ap (map tested_of) (sym is))))

pub push_arm_calls : (xs new : List (Arm VariableName TaskName FunctionName)) (x : Arm VariableName TaskName FunctionName) (all rest left : List TypedFunction)
    → new ≡ xs ++ x ∷ []
    → all ≡ arms_calls (map tested_of xs) rest → rest ≡ expression_calls (tested_of x).condition (block_calls (tested_of x).block left)
    → all ≡ arms_calls (map tested_of new) left
push_arm_calls xs new x all rest left is h k =
    h ∙ (ap (arms_calls (map tested_of xs)) k ∙ (sym (arms_calls_push (map tested_of xs) (tested_of x) left)
    ∙ ap (λ v. arms_calls v left) (sym (tests_push xs x) ∙ ap (map tested_of) (sym is))))

-- the end of a loop that has yielded all
pub all_read : {B C : Type 0} (g : B → C) (zs : List C) (xs ys : List B) → map (λ y. y) xs ≡ ys → zs ≡ map g xs → zs ≡ map g ys
all_read g zs xs ys all h = h ∙ ap (map g) (sym (map-id xs) ∙ all)

-- ---- functions and tasks

-- what is left to take, of any parts that are taken one after another
pub taken_push : {A U : Type 0} (one : A → List U → List U) (all_of : List A → List U → List U) → ((more : List U) → all_of [] more ≡ more)
    → ((x : A) (xs : List A) (more : List U) → all_of (x ∷ xs) more ≡ one x (all_of xs more))
    → (xs : List A) (x : A) (more : List U) → all_of (xs ++ x ∷ []) more ≡ all_of xs (one x more)
taken_push one all_of none some [] x more = some x [] more ∙ ap (one x) (none more) ∙ sym (none (one x more))
taken_push one all_of none some (y ∷ xs) x more =
    some y (xs ++ x ∷ []) more ∙ ap (one y) (taken_push one all_of none some xs x more) ∙ sym (some y xs (one x more))

-- one more of them
pub push_taken : {A D U : Type 0} (view : D → A) (one : A → List U → List U) (all_of : List A → List U → List U)
    → ((xs : List A) (x : A) (more : List U) → all_of (xs ++ x ∷ []) more ≡ all_of xs (one x more))
    → (xs new : List D) (x : D) (whole rest left : List U) → new ≡ xs ++ x ∷ [] → whole ≡ all_of (map view xs) rest → rest ≡ one (view x) left
    → whole ≡ all_of (map view new) left
push_taken view one all_of push xs new x all rest left is h k =
    h ∙ ap (all_of (map view xs)) k ∙ sym (push (map view xs) (view x) left)
    ∙ ap (λ v. all_of v left) (sym (map-append view xs (x ∷ [])) ∙ ap (map view) (sym is))

pub tasks_variables_push : (xs : List CheckedTask) (x : CheckedTask) (more : List TypedVariable)
    → task_variables (xs ++ x ∷ []) more ≡ task_variables xs (block_variables x.body more)
tasks_variables_push xs x more = taken_push (λ k. block_variables k.body) task_variables (λ more. refl) (λ x xs more. refl) xs x more

pub tasks_calls_push : (xs : List CheckedTask) (x : CheckedTask) (more : List TypedFunction)
    → task_calls (xs ++ x ∷ []) more ≡ task_calls xs (block_calls x.body more)
tasks_calls_push xs x more = taken_push (λ k. block_calls k.body) task_calls (λ more. refl) (λ x xs more. refl) xs x more

pub tasks_targets_push : (xs : List CheckedTask) (x : CheckedTask) (more : List ℕ)
    → task_targets (xs ++ x ∷ []) more ≡ task_targets xs (block_targets x.body more)
tasks_targets_push xs x more = taken_push (λ k. block_targets k.body) task_targets (λ more. refl) (λ x xs more. refl) xs x more

pub functions_variables_push : (xs : List CheckedFunction) (x : CheckedFunction) (more : List TypedVariable)
    → function_variables (xs ++ x ∷ []) more ≡ function_variables xs (inner_variables x more)
functions_variables_push xs x more = taken_push inner_variables function_variables (λ more. refl) (λ x xs more. refl) xs x more

pub functions_calls_push : (xs : List CheckedFunction) (x : CheckedFunction) (more : List TypedFunction)
    → function_calls (xs ++ x ∷ []) more ≡ function_calls xs (block_calls x.body more)
functions_calls_push xs x more = taken_push (λ f. block_calls f.body) function_calls (λ more. refl) (λ x xs more. refl) xs x more

pub functions_targets_push : (xs : List CheckedFunction) (x : CheckedFunction) (more : List ℕ)
    → function_targets (xs ++ x ∷ []) more ≡ function_targets xs (block_targets x.body more)
functions_targets_push xs x more = taken_push (λ f. block_targets f.body) function_targets (λ more. refl) (λ x xs more. refl) xs x more

-- one more parameter
pub parameters_push : (xs : List (Parameter VariableName)) (x : Parameter VariableName) (more : List TypedVariable)
    → parameter_variables (xs ++ x ∷ []) more ≡ parameter_variables xs (typed x.name ∷ more)
parameters_push xs x more = taken_push (λ p more. typed p.name ∷ more) parameter_variables (λ more. refl) (λ x xs more. refl) xs x more

-- one more of them with its name looked up
pub parameter_step : (found new : List (Parameter VariableName)) (v : VariableName) (all : List (Parameter Span)) (i : ℕ) (p : Parameter Span) → i < length all
    → p ≡ get_or all i p → new ≡ found ++ record { word_type = p.word_type; name = v } ∷ [] → v.span ≡ p.name → map parameter_back found ≡ take i all
    → map parameter_back new ≡ take (i + 1) all
parameter_step found new v all i p below at is place back =
    let here : record { word_type = p.word_type; name = v.span } ≡ p = λ j. record { word_type = p.word_type; name = place j } in
    ap (map parameter_back) is ∙ map-append parameter_back found (record { word_type = p.word_type; name = v } ∷ [])
    ∙ ap₂ (λ xs x. xs ++ x ∷ []) back (here ∙ at) ∙ sym (take_more all i p below)
