-- The places of the crash theorem, and the room of its buffers.
use Rattle.layout_facts.proofs.Names.{◌≡◌, ℕ, zero, suc, ◌<◌, ◌≤◌, List, [], ◌∷◌, length, arith, ap, subst, sym, Some, None, slice_get, All, All-head, All-tail}
use Rattle.layout_facts.proofs.Names.{CheckedBlock, emits_of, CheckedProgram, CheckedTask, greatest, list_of, element, body_of, task_body, apart_of}
use Rattle.layout_facts.proofs.Names.{PlacesAreApart, TasksHaveRoom}
use Rattle.cost_bound.specs.Summaries.{summaries}

pub places_are_apart : PlacesAreApart
places_are_apart p allow plans l h = apart_of l h.layout.rules

-- none is greater than the greatest
pub at_most_greatest : (f : CheckedBlock → ℕ) (ts : List CheckedTask) (t : ℕ) (task : CheckedTask) → slice_get ts t ≡ Some task → f task.body ≤ greatest f ts
at_most_greatest f [] t task e = let no : None ≡ Some task = e in cc
at_most_greatest f (x ∷ ts) zero task e =
    let same : x ≡ task = cc in
    let body : f x.body ≡ f task.body = ap (λ (y : CheckedTask). f y.body) same in
    omega (arith, body)
at_most_greatest f (x ∷ ts) (suc t) task e = let rest = at_most_greatest f ts t task e in omega (arith, rest)

greatest_within : (f : CheckedBlock → ℕ) (most : ℕ) (ts : List CheckedTask) → All (λ t. f t.body ≤ most) ts → greatest f ts ≤ most
greatest_within f most [] h = omega arith
greatest_within f most (t ∷ ts) h =
    let here = All-head (λ t. f t.body ≤ most) t ts h in
    let rest = greatest_within f most ts (All-tail (λ t. f t.body ≤ most) t ts h) in
    omega (arith, here, rest)

-- the body of a task that there is
body_within : (f : CheckedBlock → ℕ) (p : CheckedProgram) (t : ℕ) → t < length p.tasks → f (task_body p t) ≤ greatest f p.tasks
body_within f p t lt =
    let task = element p.tasks t lt in
    subst (λ x. f x ≤ greatest f p.tasks) (sym (ap body_of task.1)) (at_most_greatest f p.tasks t task.0 task.1)

pub tasks_have_room : TasksHaveRoom
tasks_have_room p allow plans l h = record {
  list = λ t lt. let most = body_within (list_of (summaries p) p.shared) p t lt in let x = h.layout.list in let y = h.allowed.list in omega (arith, most, x, y);
  emits = λ t lt. let most = body_within (emits_of (summaries p)) p t lt in let x = h.layout.emits in let y = h.allowed.emits in omega (arith, most, x, y);
  few_emits =
      let few = greatest_within (emits_of (summaries p)) 256 p.tasks h.allowed.few_emits in
      let x = h.layout.emits in
      let y = h.allowed.emits in
      omega (arith, few, x, y);
}
