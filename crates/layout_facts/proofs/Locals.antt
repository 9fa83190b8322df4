-- The numbers of the locals of a task, and of the functions that it reaches, are words.
use Rattle.layout_facts.proofs.Names.{◌≡◌, ℕ, ◌+◌, ◌≤◌, Bool, true, false, if◌then◌else◌, All, Some, slice_get, arith, subst, sym, TaskPlanValue}
use Rattle.layout_facts.specs.Laws.{LocalsAreLow}
use Rattle.cost_bound.specs.Summaries.{summaries}
use Rattle.cost_bound.specs.Frames.{stack_of}
use Rattle.function_locals.specs.declared.locals.FunctionLocals.{FunctionLocals}
use Rattle.function_locals.specs.Locals.{is_light}
use Rattle.function_locals.proofs.Interface.{locals_stand}
use Rattle.memory_map.specs.declared.place.RoutinePlace.{RoutinePlace}
use Rattle.memory_map.specs.Places.{end_of}
use Rattle.privatise.specs.Layouts.{IsTaskLayout}
use Rattle.privatise.specs.Routines.{first_local, words_above, known_functions, task_routines}
use Rattle.privatise.proofs.Interface.{routines_stand}
use Rattle.checked_trees.proofs.Interface.{all_of}
use Rattle.layout_facts.proofs.Chains.{at_most_greatest}
use Rattle.layout_facts.proofs.Privates.{plan_at}

low_first : (stack depth : ℕ) (l : FunctionLocals) → l.base ≤ 8 → stack ≤ 1000 → first_local stack depth l + 256 ≤ 65536
low_first stack depth l base few = by (is_light l)
  where
    by : (b : Bool) → (if b then l.base else 8 + words_above stack depth) + 256 ≤ 65536
    by true = omega (arith, base)
    by false = omega (arith, few)

pub locals_are_low : LocalsAreLow
locals_are_low p allow plans l h t task layout k = record { own = own; routines = routines }
  where
    plan : (plan : TaskPlanValue) × (slice_get plans t ≡ Some plan)
    plan = plan_at p plans t task h.plan.count k.is_task

    its : IsTaskLayout (known_functions p) p.shared task.body plan.0 layout
    its = h.layout.tasks.each t task plan.0 layout k.is_task plan.1 k.is_layout

    own : layout.first + 256 ≤ 65536
    own = let base = (locals_stand p.functions).few_of_task task.body in let is = its.first in omega (arith, base, is)

    stack : stack_of (summaries p) task.body ≤ 1000
    stack =
        let most = at_most_greatest (stack_of (summaries p)) p.tasks t task k.is_task in
        let allowed = h.allowed.within_stack in omega (arith, most, allowed)

    IsLow : RoutinePlace → Type 0
    IsLow r = r.first + 256 ≤ 65536

    one : (j : ℕ) (r : RoutinePlace) → slice_get (task_routines (known_functions p) task.body (end_of layout.code)) j ≡ Some r → IsLow r
    one j r at =
        let is = (routines_stand p task.body (end_of layout.code)).each j r at in
        let few = (locals_stand p.functions).few r.function is.known.locals is.is.locals in
        subst (λ n. n + 256 ≤ 65536) (sym is.first) (low_first (stack_of (summaries p) task.body) is.known.summary.depth is.known.locals few.base stack)

    routines : All IsLow layout.routines
    routines = subst (All IsLow) (sym its.routines) (all_of IsLow (task_routines (known_functions p) task.body (end_of layout.code)) one)
