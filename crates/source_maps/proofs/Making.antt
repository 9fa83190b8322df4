-- A map that is made call by call is the source's.
use Rattle.std.proofs.Common.{◌≡◌, ◌∙◌, ℕ, Bool, cond, List, [], ◌∷◌, map, ap, ap₂, Some, None}
use Rattle.std.specs.Prelude.{All}
use Rattle.std.proofs.lemmas.List.Elements.{All-nil, All-cons, All-head, All-tail}
use Rattle.alp_text.specs.declared.lines.Span.{Span}
use Rattle.task_ast.specs.View.{task_of}
use Rattle.task_ast.specs.declared.SharedDeclaration.{SharedDeclaration}
use Rattle.task_ast.specs.declared.TaskDeclaration.{TaskDeclaration}
use Rattle.task_ast.specs.declared.names.VariableName.{VariableName}
use Rattle.task_ast.specs.declared.names.FunctionName.{FunctionName}
use Rattle.task_ast.specs.declared.names.TaskName.{TaskName}
use Rattle.image_map.specs.declared.parts.RuntimeWords.{RuntimeWords}
use Rattle.image_map.specs.declared.parts.Place.{Place}
use Rattle.image_map.specs.MapValue.{MapValue}
use Rattle.cost_bound.specs.declared.allowance.Allow.{Allow}
use Rattle.cost_bound.specs.Allowance.{CheckedTask}
use Rattle.source_report.specs.source_values.Runs.{CheckedProgram}
use Rattle.memory_map.specs.declared.place.VariablePlace.{VariablePlace}
use Rattle.memory_map.specs.MemoryMap.{MemoryMap, TaskPlace}
use Rattle.source_maps.specs.Maps.{map_words, map_list, map_buffer, map_copies, event_ring, variables_of, tasks_of, map_of}
use Rattle.source_maps.specs.Adding.{bare_map, with_variables, with_tasks}
use Rattle.source_maps.proofs.Takes.{all_variables, all_tasks}

pub names_back : (P : Span → Type 0) (ts : List (TaskDeclaration VariableName TaskName FunctionName)) → All (λ t. P t.name) (map task_of ts)
    → All (λ t. P t.name) ts
names_back P [] h = All-nil (λ t. P t.name)
names_back P (t ∷ ts) h =
    All-cons (λ t. P t.name) t ts (All-head (λ t. P t.name) (task_of t) (map task_of ts) h)
    (names_back P ts (All-tail (λ t. P t.name) (task_of t) (map task_of ts) h))

abbrev bare : ℕ → RuntimeWords → Place → Place → Place → MapValue
bare bound words list emits versions = record {
  bound = bound;
  words = words;
  list = list;
  emits = emits;
  versions = versions;
  copies = None;
  ring = None;
  variables = [];
  tasks = [];
}

pub bare_is : (l : MemoryMap) (allow : Allow) (m : MapValue) (w : RuntimeWords) (a b d : Place) → m ≡ bare allow.cycles w a b d → w ≡ map_words l → a
    ≡ map_list l
    → b ≡ map_buffer l.emits → d ≡ map_buffer l.versions → m ≡ record (bare_map l allow) { copies = None; ring = None }
bare_is l allow m w a b d e i j k n =
    let bound = allow.cycles in
    e ∙ ap (λ x. bare bound x a b d) i ∙ ap (λ x. bare bound (map_words l) x b d) j ∙ ap (λ x. bare bound (map_words l) (map_list l) x d) k
    ∙ ap (bare bound (map_words l) (map_list l) (map_buffer l.emits)) n

-- the same with the place of the copies
pub copies_are : (l : MemoryMap) (allow : Allow) (m n : MapValue) (c : Place) → m ≡ record (bare_map l allow) { copies = None; ring = None }
    → n ≡ record m { copies = Some c }
    → c ≡ map_copies l → n ≡ record (bare_map l allow) { ring = None }
copies_are l allow m n c e f g =
    f ∙ ap (λ (m : MapValue). record m { copies = Some c }) e ∙ ap (λ c. record (bare_map l allow) { copies = Some c; ring = None }) g

-- and of the ring, if there is one
pub ring_is_set : (l : MemoryMap) (allow : Allow) (m n : MapValue) (events : Bool) → m ≡ record (bare_map l allow) { ring = None }
    → events ≡ l.runtime.events → n ≡ record m { ring = cond events (Some event_ring) None } → n ≡ bare_map l allow
ring_is_set l allow m n events e f g =
    g ∙ ap (λ (m : MapValue). record m { ring = cond events (Some event_ring) None }) e
    ∙ ap (λ b. record (bare_map l allow) { ring = cond b (Some event_ring) None }) f

-- from the map without variables and tasks, with those that the calls were given
pub made : (text : List ℕ) (p : CheckedProgram) (l : MemoryMap) (allow : Allow) (first second third : MapValue) (ds es : List SharedDeclaration)
    (places : List VariablePlace)
    (tasks : List CheckedTask) (layouts : List TaskPlace) → first ≡ bare_map l allow → ds ≡ p.shared → es ≡ p.shared → places ≡ l.variables → tasks ≡ p.tasks
    → layouts ≡ l.tasks
    → second ≡ with_variables first (variables_of text ds places) → third ≡ with_tasks second (tasks_of text es tasks layouts) → third ≡ map_of text p l allow
made text p l allow first second third ds es places tasks layouts e i j k n o v t =
    let m = map_of text p l allow in
    let given : variables_of text ds places ≡ m.variables = ap₂ (variables_of text) i k in
    let then : tasks_of text es tasks layouts ≡ m.tasks =
    ap (λ x. tasks_of text x tasks layouts) j ∙ ap₂ (tasks_of text p.shared) n o in
    t ∙ ap₂ with_tasks (v ∙ ap₂ with_variables e given ∙ all_variables m [] m.variables) then ∙ all_tasks m [] m.tasks
