-- The image of an accepted source suits it.
use Rattle.compiled_states.proofs.Names.{Bool, true, false, if◌then◌else◌, None}
use Rattle.std.specs.Prelude.{is_some}
use Rattle.source_maps.specs.Maps.{event_ring}
use Rattle.compiled_states.proofs.Names.{◌≡◌, ℕ, suc, List, [], ◌∷◌, length, map, Some, refl, ap, ap₂, ◌∙◌, arith, slice_get}
use Rattle.compiled_states.proofs.Names.{SharedDeclaration, CheckedTask, TaskPlanValue, VariablePlace, TaskPlace}
use Rattle.compiled_states.proofs.Names.{IsTaskLayout, KnownFunctions, known_functions, TaskValue, variables_of, shared_name, task_value_of, tasks_of}
use Rattle.compiled_states.proofs.Names.{map_of, ArePlacesOf, ImagesSuitTheirSources}
use Rattle.fram_state.specs.Suits.{line_of, declared_line, planned_task, planned_tasks}
use Rattle.memory_map.specs.declared.place.PrivateScalar.{PrivateScalar}
use Rattle.compiled_states.proofs.States.{source_map, image_of}

-- each variable has the line of its declaration
lines_are : (text : List ℕ) (ds : List SharedDeclaration) (places : List VariablePlace) → ArePlacesOf ds places
    → map line_of (variables_of text ds places) ≡ map (declared_line text) ds
lines_are text [] [] kinds = refl
lines_are text [] (place ∷ places) kinds = absurd kinds
lines_are text (d ∷ ds) [] kinds = absurd kinds
lines_are text (d ∷ ds) (place ∷ places) kinds = ap (λ ls. declared_line text d ∷ ls) (lines_are text ds places kinds.1)

-- the names of a task's private scalars, by their numbers
by_numbers : (name : ℕ → List ℕ) (ss : List PrivateScalar) → map (λ s. name s.number) ss ≡ map name (map (λ s. s.number) ss)
by_numbers name [] = refl
by_numbers name (s ∷ ss) = ap (λ ns. name s.number ∷ ns) (by_numbers name ss)

task_is : (known : KnownFunctions) (text : List ℕ) (shared : List SharedDeclaration) (task : CheckedTask) (plan : TaskPlanValue) (place : TaskPlace)
    → IsTaskLayout known shared task.body plan place → task_value_of text shared task place ≡ planned_task text shared task plan
task_is known text shared task plan place h =
    let Named : List (List ℕ) → TaskValue = λ ns. record (task_value_of text shared task place) { privates = ns } in
    ap Named (by_numbers (shared_name text shared) place.privates ∙ ap (map (shared_name text shared)) h.privates)

-- each task has the private scalars of its plan
tasks_are : (known : KnownFunctions) (text : List ℕ) (shared : List SharedDeclaration) (ts : List CheckedTask) (plans : List TaskPlanValue)
    (places : List TaskPlace)
    → length plans ≡ length ts → length places ≡ length ts
    → ((k : ℕ) (task : CheckedTask) (plan : TaskPlanValue) (t : TaskPlace) → slice_get ts k ≡ Some task → slice_get plans k ≡ Some plan
    → slice_get places k ≡ Some t → IsTaskLayout known shared task.body plan t)
    → tasks_of text shared ts places ≡ planned_tasks text shared ts plans
tasks_are known text shared [] [] [] e f h = refl
tasks_are known text shared [] [] (place ∷ places) e f h = absurd (omega (arith, f))
tasks_are known text shared [] (plan ∷ plans) places e f h = absurd (omega (arith, e))
tasks_are known text shared (t ∷ ts) [] places e f h = absurd (omega (arith, e))
tasks_are known text shared (t ∷ ts) (plan ∷ plans) [] e f h = absurd (omega (arith, f))
tasks_are known text shared (t ∷ ts) (plan ∷ plans) (place ∷ places) e f h =
    ap₂ (λ (v : TaskValue) (vs : List TaskValue). v ∷ vs) (task_is known text shared t plan place (h 0 t plan place refl refl refl))
    (tasks_are known text shared ts plans places (omega (arith, e)) (omega (arith, f)) (λ k task p q a b c. h (suc k) task p q a b c))

-- there is a ring where the runtime takes events
ring_is : (events : Bool) → is_some (if events then Some event_ring else None) ≡ events
ring_is true = refl
ring_is false = refl

pub images_suit_their_sources : ImagesSuitTheirSources
images_suit_their_sources text p allow image ok c = record {
  plans = c.plans;
  is_plan = c.is_plan;
  named = map_of text p c.layout allow;
  mapped = c.map;
  lines = record {
    variables = lines_are text p.shared c.layout.variables (source_map text image (image_of text p allow image ok c)).places;
    tasks = tasks_are (known_functions p) text p.shared p.tasks c.plans c.layout.tasks c.is_plan.count c.is_layout.tasks.count c.is_layout.tasks.each;
    ring = ring_is c.layout.runtime.events ∙ ap (λ r. r.events) c.is_layout.runtime;
  };
}
