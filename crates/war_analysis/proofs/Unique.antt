-- The laws of plans.
use Rattle.std.proofs.Common.{◌≡◌, zero, suc, List, [], ◌∷◌, refl, ap, ◌∙◌, arith}
use Rattle.task_ast.specs.declared.SharedDeclaration.{SharedDeclaration}
use Rattle.task_ast.specs.Paths.{CheckedFunction}
use Rattle.cost_bound.specs.Allowance.{CheckedTask, CheckedProgram}
use Rattle.war_analysis.specs.PlanValue.{TaskPlanValue}
use Rattle.war_analysis.specs.Plans.{IsPrivateIn, IsVersionedIn, IsTaskPlan, ArePlans, IsPlan}
use Rattle.war_analysis.proofs.Numbers.{one_list}

same_plan : (fs : List CheckedFunction) (shared : List SharedDeclaration) (task : CheckedTask) (a b : TaskPlanValue) → IsTaskPlan fs shared task.body a
    → IsTaskPlan fs shared task.body b → a ≡ b
same_plan fs shared task a b x y =
    let e = one_list (IsPrivateIn fs shared task.body) a.private_scalars b.private_scalars x.private_scalars y.private_scalars in
    let f = one_list (IsVersionedIn fs shared task.body) a.versioned_arrays b.versioned_arrays x.versioned_arrays y.versioned_arrays in
    λ i. record { private_scalars = e i; versioned_arrays = f i }

tail_plans : (fs : List CheckedFunction) (shared : List SharedDeclaration) (task : CheckedTask) (tasks : List CheckedTask) (a : TaskPlanValue)
    (as' : List TaskPlanValue)
    → ArePlans fs shared (task ∷ tasks) (a ∷ as') → ArePlans fs shared tasks as'
tail_plans fs shared task tasks a as' h = record { count = let c = h.count in omega (arith, c); each = λ k t p e f. h.each (suc k) t p e f }

same_plans : (fs : List CheckedFunction) (shared : List SharedDeclaration) (tasks : List CheckedTask) (a b : List TaskPlanValue) → ArePlans fs shared tasks a
    → ArePlans fs shared tasks b → a ≡ b
same_plans fs shared [] [] [] x y = refl
same_plans fs shared [] (a ∷ as') b x y = absurd (let c = x.count in omega (arith, c))
same_plans fs shared [] [] (b ∷ bs) x y = absurd (let c = y.count in omega (arith, c))
same_plans fs shared (t ∷ ts) [] b x y = absurd (let c = x.count in omega (arith, c))
same_plans fs shared (t ∷ ts) (a ∷ as') [] x y = absurd (let c = y.count in omega (arith, c))
same_plans fs shared (t ∷ ts) (a ∷ as') (b ∷ bs) x y =
    let here = same_plan fs shared t a b (x.each zero t a refl refl) (y.each zero t b refl refl) in
    let rest = same_plans fs shared ts as' bs (tail_plans fs shared t ts a as' x) (tail_plans fs shared t ts b bs y) in
    ap (λ h. h ∷ as') here ∙ ap (λ t. b ∷ t) rest

pub one_plan : (p : CheckedProgram) (a b : List TaskPlanValue) → IsPlan p a → IsPlan p b → a ≡ b
one_plan p a b x y = same_plans p.functions p.shared p.tasks a b x y
