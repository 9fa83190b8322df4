-- What one turn of the loops of the analysis finds.
use Rattle.std.proofs.Common.{◌≡◌, ℕ, zero, suc, ◌+◌, ◌<◌, Bool, true, false, ◌&&◌, not, if◌then◌else◌, List, [], ◌∷◌, ◌++◌, length, map, get_or, refl, ap, sym}
use Rattle.std.proofs.Common.{◌∙◌, subst, inl, inr, arith, Option, Some, None}
use Rattle.std.specs.Prelude.{All, slice_get, IsSomeAnd, IsTrue, ◌↔◌, Vec}
use Rattle.std.specs.Global.{Global}
use Rattle.std.specs.Option.{option_map}
use Rattle.std.proofs.lemmas.Option.{slice_get_read, slice_get_past, get_or_from_slice_get, slice_get-map, same_Some}
use Rattle.std.proofs.lemmas.List.{length_push, length-map, get_or-map}
use Rattle.std.proofs.lemmas.List.Elements.{All-get_or}
use Rattle.std.proofs.lemmas.Bool.{cases_lt, and_parts, and_from, not-true}
use Rattle.task_ast.specs.declared.Extent.{Extent}
use Rattle.task_ast.specs.declared.SharedDeclaration.{SharedDeclaration}
use Rattle.task_ast.specs.declared.TaskDeclaration.{TaskDeclaration}
use Rattle.task_ast.specs.declared.Stmt.{Stmt}
use Rattle.task_ast.specs.declared.names.VariableName.{VariableName}
use Rattle.task_ast.specs.declared.names.TaskName.{TaskName}
use Rattle.task_ast.specs.declared.names.FunctionName.{FunctionName}
use Rattle.task_ast.specs.Paths.{CheckedFunction}
use Rattle.task_ast.specs.Calls.{BlockCallsBelow}
use Rattle.task_ast.specs.View.{block_view, task_of}
use Rattle.task_ast.specs.declared.names.Variable.TheVariants.{Shared}
use Rattle.cost_bound.specs.path_sums.Access.{writes, SomePath, IsPrivate}
use Rattle.cost_bound.specs.Counts.{CheckedBlock}
use Rattle.cost_bound.specs.Allowance.{CheckedTask}
use Rattle.cost_bound.specs.path_sums.Access.{summary}
use Rattle.cost_bound.specs.path_sums.Known.{AreCallSums}
use Rattle.cost_bound.specs.path_sums.declared.access.AccessSummary.{AccessSummary}
use Rattle.war_analysis.specs.Known.{AreSumsByVariable}
use Rattle.war_analysis.specs.PlanValue.{TaskPlanValue}
use Rattle.war_analysis.specs.Plans.{is_scalar, IsPrivateIn, IsVersionedIn, IsTaskPlan, ArePlans}
use Rattle.war_analysis.proofs.Numbers.{AreNumbersBelow, one_more, none_more}

some_and : {A : Type 0} (o : Option A) (P : A → Type 0) (x : A) → o ≡ Some x → P x → IsSomeAnd o P
some_and o P x e p = subst (λ o. IsSomeAnd o P) (sym e) p

and_some : {A : Type 0} (o : Option A) (P : A → Type 0) (x : A) → o ≡ Some x → IsSomeAnd o P → P x
and_some o P x e h = subst (λ o. IsSomeAnd o P) e h

within : {A : Type 0} (xs : List A) (i : ℕ) (P : A → Type 0) → IsSomeAnd (slice_get xs i) P → i < length xs
within xs i P h = elim (cases_lt i (length xs)) [
  | inl l ↦ l
  | inr past ↦ absurd (subst (λ o. IsSomeAnd o P) (slice_get_past xs i past) h)
]

pub private_within : (fs : List CheckedFunction) (shared : List SharedDeclaration) (code : CheckedBlock) (i : ℕ) → IsPrivateIn fs shared code i
    → i < length shared
private_within fs shared code i h = within shared i (λ d. is_scalar d.extent ≡ true) h.scalar

pub versioned_within : (fs : List CheckedFunction) (shared : List SharedDeclaration) (code : CheckedBlock) (i : ℕ) → IsVersionedIn fs shared code i
    → i < length shared
versioned_within fs shared code i h = within shared i (λ d. is_scalar d.extent ≡ false) h.array

-- one variable, what the paths say of it, and whether it is found
module _ (fs : List CheckedFunction) (shared : List SharedDeclaration) (code : CheckedBlock) (i : ℕ) (extent : Extent) (mark r : Bool)
    (at : (d : SharedDeclaration) → slice_get shared i ≡ Some d → extent ≡ d.extent) where
  pub private_found : IsTrue mark ↔ IsPrivate fs code (Shared i) → (d : SharedDeclaration) → slice_get shared i ≡ Some d → r ≡ (mark && is_scalar extent)
      → r ≡ true
      → IsPrivateIn fs shared code i
  private_found marked d there e h =
      let found : (mark && is_scalar extent) ≡ true = sym e ∙ h in
      record {
        scalar =
            some_and (slice_get shared i) (λ d. is_scalar d.extent ≡ true) d there
            (ap is_scalar (sym (at d there)) ∙ (and_parts mark (is_scalar extent) found).1);
        owed = marked.0 (and_parts mark (is_scalar extent) found).0;
      }

  pub private_missed : IsTrue mark ↔ IsPrivate fs code (Shared i) → (d : SharedDeclaration) → slice_get shared i ≡ Some d → r ≡ (mark && is_scalar extent)
      → r ≡ false
      → IsPrivateIn fs shared code i → ⊥
  private_missed marked d there e h p =
      let found =
      and_from mark (is_scalar extent) (marked.1 p.owed)
      (ap is_scalar (at d there) ∙ and_some (slice_get shared i) (λ d. is_scalar d.extent ≡ true) d there p.scalar) in
      let clash : true ≡ false = sym found ∙ sym e ∙ h in cc

  pub versioned_found : IsTrue mark ↔ SomePath fs code (writes (Shared i)) → (d : SharedDeclaration) → slice_get shared i ≡ Some d
      → r ≡ (mark && not (is_scalar extent))
      → r ≡ true → IsVersionedIn fs shared code i
  versioned_found marked d there e h =
      let found : (mark && not (is_scalar extent)) ≡ true = sym e ∙ h in
      record {
        array =
            some_and (slice_get shared i) (λ d. is_scalar d.extent ≡ false) d there
            (ap is_scalar (sym (at d there)) ∙ not-true (is_scalar extent) (and_parts mark (not (is_scalar extent)) found).1);
        written = marked.0 (and_parts mark (not (is_scalar extent)) found).0;
      }

  pub versioned_missed : IsTrue mark ↔ SomePath fs code (writes (Shared i)) → (d : SharedDeclaration) → slice_get shared i ≡ Some d
      → r ≡ (mark && not (is_scalar extent))
      → r ≡ false → IsVersionedIn fs shared code i → ⊥
  versioned_missed marked d there e h p =
      let found =
      and_from mark (not (is_scalar extent)) (marked.1 p.written)
      (ap not (ap is_scalar (at d there) ∙ and_some (slice_get shared i) (λ d. is_scalar d.extent ≡ false) d there p.array)) in
      let clash : true ≡ false = sym found ∙ sym e ∙ h in cc

-- an element of a list below its end
pub element : {A : Type 0} (xs : List A) (i : ℕ) → i < length xs → (x : A) × (slice_get xs i ≡ Some x)
element [] i l = absurd (omega arith)
element (x ∷ xs) zero l = (x, refl)
element (x ∷ xs) (suc i) l = element xs i (omega arith)

-- a turn of a loop over all numbers
next : (P : ℕ → Type 0) (n : ℕ) (xs ys : List ℕ) (r : Bool) → (r ≡ true → P n) → (r ≡ false → P n → ⊥) → ys ≡ (if r then xs ++ n ∷ [] else xs)
    → AreNumbersBelow P n xs → AreNumbersBelow P (n + 1) ys
next P n xs ys true found missed e h = one_more P n xs ys h (found refl) e
next P n xs ys false found missed e h = subst (λ zs. AreNumbersBelow P (n + 1) zs) (sym e) (none_more P n xs h (missed refl))

extent_at : (shared : List SharedDeclaration) (i : ℕ) (extent : Extent) → ((d : SharedDeclaration) → extent ≡ (get_or shared i d).extent)
    → (d : SharedDeclaration) → slice_get shared i ≡ Some d → extent ≡ d.extent
extent_at shared i extent h d e = h d ∙ ap (λ x. x.extent) (get_or_from_slice_get shared i d d e)

module _ (fs : List CheckedFunction) (shared : List SharedDeclaration) (code : CheckedBlock) (n : ℕ) (extent : Extent) (mark r : Bool) (xs ys : List ℕ)
    (lt : n < length shared) (at : (d : SharedDeclaration) → extent ≡ (get_or shared n d).extent) (e : ys ≡ (if r then xs ++ n ∷ [] else xs)) where
  pub next_private : IsTrue mark ↔ IsPrivate fs code (Shared n) → r ≡ (mark && is_scalar extent) → AreNumbersBelow (IsPrivateIn fs shared code) n xs
      → AreNumbersBelow (IsPrivateIn fs shared code) (n + 1) ys
  next_private marked is h =
      let d = element shared n lt in
      let here = extent_at shared n extent at in
      next (IsPrivateIn fs shared code) n xs ys r (private_found fs shared code n extent mark r here marked d.0 d.1 is)
      (private_missed fs shared code n extent mark r here marked d.0 d.1 is) e h

  pub next_versioned : IsTrue mark ↔ SomePath fs code (writes (Shared n)) → r ≡ (mark && not (is_scalar extent))
      → AreNumbersBelow (IsVersionedIn fs shared code) n xs
      → AreNumbersBelow (IsVersionedIn fs shared code) (n + 1) ys
  next_versioned marked is h =
      let d = element shared n lt in
      let here = extent_at shared n extent at in
      next (IsVersionedIn fs shared code) n xs ys r (versioned_found fs shared code n extent mark r here marked d.0 d.1 is)
      (versioned_missed fs shared code n extent mark r here marked d.0 d.1 is) e h

-- ---- one more plan

pub push_at : {A : Type 0} (P : ℕ → A → Type 0) (xs : List A) (y : A) → ((k : ℕ) (x : A) → slice_get xs k ≡ Some x → P k x) → P (length xs) y
    → (k : ℕ) (x : A) → slice_get (xs ++ y ∷ []) k ≡ Some x → P k x
push_at P [] y each new zero x e = let same : y ≡ x = cc in subst (P 0) same new
push_at P [] y each new (suc k) x e = let no : None ≡ Some x = e in cc
push_at P (z ∷ zs) y each new zero x e = each zero x e
push_at P (z ∷ zs) y each new (suc k) x e = push_at (λ n. P (suc n)) zs y (λ k x h. each (suc k) x h) new k x e

-- a task of those that call so many functions
pub calls_in : (functions : ℕ) (tasks : List (TaskDeclaration VariableName TaskName FunctionName)) (n : ℕ)
    (task : TaskDeclaration VariableName TaskName FunctionName)
    (body : List (Stmt VariableName TaskName FunctionName)) → n < length tasks → task ≡ get_or tasks n task → body ≡ task.body.items
    → All (λ t. BlockCallsBelow functions t.body) (map task_of tasks) → BlockCallsBelow functions (block_view body)
calls_in functions tasks n task body lt at b calls =
    let under : n < length (map task_of tasks) = subst (λ k. n < k) (sym (length-map tasks task_of)) lt in
    let here = All-get_or (λ t. BlockCallsBelow functions t.body) (map task_of tasks) n (task_of task) under calls in
    let same : get_or (map task_of tasks) n (task_of task) ≡ task_of task = get_or-map task_of tasks n task (task_of task) lt ∙ ap task_of (sym at) in
    subst (λ x. BlockCallsBelow functions (block_view x)) (sym b) (subst (λ t. BlockCallsBelow functions t.body) same here)

-- ---- one more variable's sums

pub no_sums : (functions : List CheckedFunction) → AreSumsByVariable functions 0 []
no_sums functions = record { count = refl; each = λ i known at. let no : None ≡ Some known = at in cc }

pub next_sums : (functions : List CheckedFunction) (n : ℕ) (sums more : List (Vec AccessSummary Global)) (known : Vec AccessSummary Global)
    → more ≡ sums ++ known ∷ [] → AreCallSums (summary (Shared n)) functions known.items → AreSumsByVariable functions n sums
    → AreSumsByVariable functions (n + 1) more
next_sums functions n sums more known e is h = subst (λ xs. AreSumsByVariable functions (n + 1) xs) (sym e) (record {
  count = length_push sums known ∙ ap (λ k. k + 1) h.count;
  each = push_at (λ i s. AreCallSums (summary (Shared i)) functions s.items) sums known h.each
      (subst (λ i. AreCallSums (summary (Shared i)) functions known.items) (sym h.count) is);
})

-- those of one variable
pub sums_at : (functions : List CheckedFunction) (n i : ℕ) (sums : List (Vec AccessSummary Global)) (known : Vec AccessSummary Global)
    (items : List AccessSummary) → AreSumsByVariable functions n sums → i < n → known ≡ get_or sums i known → items ≡ known.items
    → AreCallSums (summary (Shared i)) functions items
sums_at functions n i sums known items h lt at e =
    subst (λ (xs : List AccessSummary). AreCallSums (summary (Shared i)) functions xs) (sym e)
    (h.each i known (slice_get_read sums n i known (sym h.count) lt at))

-- the plans of the first tasks
pub record PlansBelow (fs : List CheckedFunction) (shared : List SharedDeclaration) (tasks : List CheckedTask) (n : ℕ) (plans : List TaskPlanValue) : Type 0
  where
    pub count : length plans ≡ n
    pub each : (k : ℕ) (plan : TaskPlanValue) → slice_get plans k ≡ Some plan → (task : CheckedTask) → slice_get tasks k ≡ Some task
        → IsTaskPlan fs shared task.body plan

pub no_plans : (fs : List CheckedFunction) (shared : List SharedDeclaration) (tasks : List CheckedTask) → PlansBelow fs shared tasks 0 []
no_plans fs shared tasks = record { count = refl; each = λ k plan e. let no : None ≡ Some plan = e in cc }

pub next_plan : (fs : List CheckedFunction) (shared : List SharedDeclaration) (tasks : List (TaskDeclaration VariableName TaskName FunctionName)) (n : ℕ)
    (task : TaskDeclaration VariableName TaskName FunctionName)
    (body : List (Stmt VariableName TaskName FunctionName))
    (plan : TaskPlanValue) (xs ys : List TaskPlanValue) → n < length tasks → task ≡ get_or tasks n task → body ≡ task.body.items
    → IsTaskPlan fs shared (block_view body) plan → ys ≡ xs ++ plan ∷ []
    → PlansBelow fs shared (map task_of tasks) n xs → PlansBelow fs shared (map task_of tasks) (n + 1) ys
next_plan fs shared tasks n task body plan xs ys lt at b is e h = subst (λ zs. PlansBelow fs shared (map task_of tasks) (n + 1) zs) (sym e) (record {
  count = length_push xs plan ∙ ap (λ k. k + 1) h.count;
  each = push_at (λ k x. (t : CheckedTask) → slice_get (map task_of tasks) k ≡ Some t → IsTaskPlan fs shared t.body x) xs plan h.each
      (λ t found. let there : slice_get (map task_of tasks) n ≡ Some (task_of task) = slice_get-map task_of tasks n
      ∙ ap (option_map task_of) (slice_get_read tasks (length tasks) n task refl lt at) in
      let here : slice_get (map task_of tasks) n ≡ Some t = ap (λ k. slice_get (map task_of tasks) k) (sym h.count) ∙ found in
      let same : task_of task ≡ t = same_Some (task_of task) t (sym there ∙ here) in
      subst (λ c. IsTaskPlan fs shared c plan) (ap block_view b ∙ ap (λ t. t.body) same) is);
})

pub all_plans : (fs : List CheckedFunction) (shared : List SharedDeclaration) (tasks : List (TaskDeclaration VariableName TaskName FunctionName)) (n : ℕ)
    (plans : List TaskPlanValue) → n ≡ length tasks
    → PlansBelow fs shared (map task_of tasks) n plans
    → ArePlans fs shared (map task_of tasks) plans
all_plans fs shared tasks n plans e h = record { count = h.count ∙ e ∙ sym (length-map tasks task_of); each = λ k task plan t p. h.each k plan p task t }
