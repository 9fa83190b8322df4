-- The map of a source.
use Rattle.std.proofs.Common.{◌≡◌, ◌∙◌, ℕ, suc, ◌*◌, ◌%◌, ◌<◌, ◌≤◌, true, List, [], ◌∷◌, ◌++◌, map, length, refl, sym, ap, ap₂, subst, arith, Some, None}
use Rattle.std.proofs.Common.{get_or}
use Rattle.std.proofs.Common.{Bool, false, cond}
use Rattle.std.specs.Prelude.{All, IfSome, slice_get}
use Rattle.std.proofs.lemmas.Option.{slice_get_within, slice_get-get_or}
use Rattle.std.proofs.lemmas.List.Elements.{All-nil, All-cons, All-weaker}
use Rattle.task_ast.specs.declared.SharedDeclaration.{SharedDeclaration}
use Rattle.image_map.specs.MapValue.{IsFramWord, AreFramWords, IsPlace, IsRing, are_different, are_scalars, task_names}
use Rattle.image_map.specs.Kept.{IsMap}
use Rattle.cost_bound.specs.Summaries.{summaries}
use Rattle.cost_bound.specs.Allowance.{CheckedProgram, CheckedTask, is_written}
use Rattle.privatise.specs.war_analysis.PlanValue.{TaskPlanValue}
use Rattle.privatise.specs.war_analysis.Plans.{IsScalarAt, IsPrivateIn, IsTaskPlan}
use Rattle.source_report.specs.SourceReport.{spelled}
use Rattle.memory_map.specs.address_space.Limits.{fram_first, fram_end, program_end}
use Rattle.memory_map.specs.declared.words.RuntimeWord.{RuntimeWord}
use Rattle.memory_map.specs.declared.words.RuntimeWord.TheVariants.{CurrentTask, NextTask, Gate, ListLength, EmitCount, Base, SentBase, Version}
use Rattle.memory_map.specs.declared.place.VariablePlace.{VariablePlace}
use Rattle.memory_map.specs.declared.place.PrivateScalar.{PrivateScalar}
use Rattle.memory_map.specs.MemoryMap.{MemoryMap, TaskPlace, word_place}
use Rattle.memory_map.specs.Places.{end_of, list_entry_room, HasItsPlace, IsLaidOut}
use Rattle.memory_map.proofs.Interface.{parts_in_fram, words_stand}
use Rattle.privatise.specs.Layouts.{IsTaskLayout}
use Rattle.privatise.specs.Routines.{known_functions}
use Rattle.memory_map.specs.event_places.Places.{head_place, tail_place, count_place, sent_place, answer_place, ring_place}
use Rattle.source_maps.specs.Maps.{map_words, map_list, map_buffer, copied_words, map_copies, event_ring, variables_of, private_names, shared_name, tasks_of}
use Rattle.source_maps.specs.Maps.{map_of}
use Rattle.memory_map.specs.declared.runtime.Logging.{Logging}
use Rattle.memory_map.specs.declared.runtime.Logging.TheVariants.{Redo, Undo}
use Rattle.source_maps.specs.Adding.{TakesTasks}
use Rattle.source_maps.specs.Placing.{ArePlacesOf}
use Rattle.source_maps.specs.Laws.{MapsAreOfSources}
use Rattle.source_maps.proofs.Places.{places_by_number, variables_are, variables_count, names_of_variables, of_declarations}
use Rattle.source_maps.proofs.Scalars.{AreFrom, from_pairs, starts_anywhere, scalars_from}
use Rattle.source_maps.proofs.Takes.{takes_variables, all_variables, takes_tasks}

no_plan : TaskPlanValue
no_plan = record { private_scalars = []; versioned_arrays = [] }

map_map : {A B C : Type 0} (f : A → B) (g : B → C) (xs : List A) → map (λ x. g (f x)) xs ≡ map g (map f xs)
map_map f g [] = refl
map_map f g (x ∷ xs) = ap (λ l. g (f x) ∷ l) (map_map f g xs)

fram_word : (a : ℕ) → fram_first ≤ a → a < fram_end → a % 2 ≡ 0 → IsFramWord a
fram_word a low high even = record { low = low; high = high; even = even }

-- the words of the ring are words of the FRAM, with all its slots
pub event_ring_is : IsRing event_ring
event_ring_is = record {
  head = fram_word head_place (omega arith) (omega arith) refl;
  tail = fram_word tail_place (omega arith) (omega arith) refl;
  event_count = fram_word count_place (omega arith) (omega arith) refl;
  sent_tail = fram_word sent_place (omega arith) (omega arith) refl;
  answer = fram_word answer_place (omega arith) (omega arith) refl;
  slots = fram_word ring_place (omega arith) (omega arith) refl;
  fits = refl;
}

ring_is : (events : Bool) → IfSome (cond events (Some event_ring) None) IsRing
ring_is true = event_ring_is
ring_is false = tt

pub runtime_words : (l : MemoryMap) → IsLaidOut l → AreFramWords (map_words l)
runtime_words l h = record {
  current_task = there CurrentTask;
  next_task = there NextTask;
  gate = there Gate;
  list_length = there ListLength;
  emit_count = there EmitCount;
  base = there Base;
  sent_base = there SentBase;
  version = there Version;
}
  where
    there : (w : RuntimeWord) → IsFramWord (word_place l w)
    there w = let is = (words_stand l w h).is_fram in fram_word (word_place l w) is.low is.high is.even

-- where the buffers and the variables stand
pub record ArePlaced (l : MemoryMap) : Type 0 where
  pub list : IsPlace (map_list l)
  pub emits : IsPlace (map_buffer l.emits)
  pub versions : IsPlace (map_buffer l.versions)
  pub copies : IsPlace (map_copies l)
  pub low : fram_first ≤ l.homes.address
  pub high : end_of l.homes ≤ program_end

-- no runtime has more words of copies than the layout
copied_most : (logging : Logging) (n : ℕ) → copied_words logging n ≤ n
copied_most Redo n = omega arith
copied_most Undo n = omega arith

pub are_placed : (l : MemoryMap) → IsLaidOut l → ArePlaced l
are_placed l h =
    let r = parts_in_fram l h in
    let list = r.list.end in let emits = r.emits.end in let versions = r.versions.end in
    let copies = r.copies.end in let copied = copied_most l.runtime.logging l.copies.words in
    let entries : l.list.words ≡ list_entry_room * l.entries = h.list in
    record {
      list = record { address = fram_word l.list.address r.list.from (omega (arith, list)) r.list.even; capacity = omega (arith, list, entries) };
      emits = record { address = fram_word l.emits.address r.emits.from (omega (arith, emits)) r.emits.even; capacity = omega (arith, emits) };
      versions = record {
        address = fram_word l.versions.address r.versions.from (omega (arith, versions)) r.versions.even;
        capacity = omega (arith, versions);
      };
      copies = record { address = fram_word l.copies.address r.copies.from (omega (arith, copies)) r.copies.even; capacity = omega (arith, copies, copied) };
      low = r.homes.from;
      high = r.homes.end;
    }

-- ---- tasks

-- a task's private scalars, by their numbers: ascending, and scalars
record HasScalars (shared : List SharedDeclaration) (t : TaskPlace) : Type 0 where
  pub from : AreFrom 0 (map (λ s. s.number) t.privates)
  pub scalars : All (IsScalarAt shared) (map (λ s. s.number) t.privates)

scalars_of_plan : (p : CheckedProgram) (task : CheckedTask) (plan : TaskPlanValue) (t : TaskPlace) → IsTaskPlan p.functions p.shared task.body plan
    → IsTaskLayout (known_functions p) p.shared task.body plan t → HasScalars p.shared t
scalars_of_plan p task plan t is has = record {
  from = subst (AreFrom 0) (sym has.privates) (from_pairs 0 plan.private_scalars is.private_scalars.ascending (starts_anywhere plan.private_scalars));
  scalars = subst (All (IsScalarAt p.shared)) (sym has.privates)
      (All-weaker (IsPrivateIn p.functions p.shared task.body) (IsScalarAt p.shared) (λ n h. h.scalar) plan.private_scalars is.private_scalars.only);
}

-- the same of each task
abbrev HaveScalars : List SharedDeclaration → List CheckedTask → List TaskPlace → Type 0
HaveScalars shared [] [] = Unit {0}
HaveScalars shared [] (t ∷ ts) = ⊥
HaveScalars shared (task ∷ tasks) [] = ⊥
HaveScalars shared (task ∷ tasks) (t ∷ ts) = HasScalars shared t × HaveScalars shared tasks ts

have_scalars : (shared : List SharedDeclaration) (tasks : List CheckedTask) (ts : List TaskPlace) → length ts ≡ length tasks
    → ((k : ℕ) (task : CheckedTask) (t : TaskPlace) → slice_get tasks k ≡ Some task → slice_get ts k ≡ Some t → HasScalars shared t)
    → HaveScalars shared tasks ts
have_scalars shared [] [] n f = tt
have_scalars shared [] (t ∷ ts) n f = absurd (omega (arith, n))
have_scalars shared (task ∷ tasks) [] n f = absurd (omega (arith, n))
have_scalars shared (task ∷ tasks) (t ∷ ts) n f = (f 0 task t refl refl, have_scalars shared tasks ts (omega (arith, n)) (λ k u v a b. f (suc k) u v a b))

module _ (text : List ℕ) (shared : List SharedDeclaration) (places : List VariablePlace) (are : ArePlacesOf shared places) where
  privates_are : (t : TaskPlace) → HasScalars shared t → are_scalars (private_names text shared t.privates) (variables_of text shared places) ≡ true
  privates_are t h =
      ap (λ ns. are_scalars ns (variables_of text shared places)) (map_map (λ s. s.number) (shared_name text shared) t.privates)
      ∙ scalars_from text shared 0 shared places (map (λ s. s.number) t.privates) are (λ i. ap (slice_get shared) (omega arith)) h.from h.scalars

  all_privates_are : (tasks : List CheckedTask) (ts : List TaskPlace) → HaveScalars shared tasks ts
      → All (λ t. are_scalars t.privates (variables_of text shared places) ≡ true) (tasks_of text shared tasks ts)
  all_privates_are [] [] h = All-nil (λ t. are_scalars t.privates (variables_of text shared places) ≡ true)
  all_privates_are [] (t ∷ ts) h = absurd h
  all_privates_are (task ∷ tasks) [] h = absurd h
  all_privates_are (task ∷ tasks) (t ∷ ts) h =
      All-cons (λ t. are_scalars t.privates (variables_of text shared places) ≡ true) _ (tasks_of text shared tasks ts) (privates_are t h.0)
      (all_privates_are tasks ts h.1)

tasks_count : (text : List ℕ) (shared : List SharedDeclaration) (tasks : List CheckedTask) (ts : List TaskPlace) → length ts ≡ length tasks
    → length (tasks_of text shared tasks ts) ≡ length tasks
tasks_count text shared [] [] n = refl
tasks_count text shared [] (t ∷ ts) n = absurd (omega (arith, n))
tasks_count text shared (task ∷ tasks) [] n = absurd (omega (arith, n))
tasks_count text shared (task ∷ tasks) (t ∷ ts) n = let r = tasks_count text shared tasks ts (omega (arith, n)) in omega (arith, r)

names_of_tasks : (text : List ℕ) (shared : List SharedDeclaration) (tasks : List CheckedTask) (ts : List TaskPlace) → length ts ≡ length tasks
    → task_names (tasks_of text shared tasks ts) ≡ map (λ t. spelled text t.name) tasks
names_of_tasks text shared [] [] n = refl
names_of_tasks text shared [] (t ∷ ts) n = absurd (omega (arith, n))
names_of_tasks text shared (task ∷ tasks) [] n = absurd (omega (arith, n))
names_of_tasks text shared (task ∷ tasks) (t ∷ ts) n = ap (λ l. spelled text task.name ∷ l) (names_of_tasks text shared tasks ts (omega (arith, n)))

-- a private scalar is a variable
declared_there : (n : ℕ) (variables : List VariablePlace) → length variables ≡ n → (s : PrivateScalar) → HasItsPlace variables s → s.number < n
declared_there n variables e s h = let w = slice_get_within variables s.number _ h.place in omega (arith, w, e)

pub maps_are_of_sources : MapsAreOfSources
maps_are_of_sources text p allow plans l h =
    let rules = h.layout.rules in
    let placed = are_placed l rules in
    let places = places_by_number (is_written (summaries p) p.tasks) p.shared l.variables h.layout.variables.count h.layout.variables.each in
    let count = h.layout.tasks.count in
    let m = map_of text p l allow in
    let names = names_of_variables text p.shared l.variables places in
    let tasks = names_of_tasks text p.shared p.tasks l.tasks count in
    let scalars = have_scalars p.shared p.tasks l.tasks count (λ k task t a b.
    let within = slice_get_within p.tasks k task a in
    let planned = h.plan.count in
    let plan = slice_get-get_or plans k no_plan (omega (arith, within, planned)) in
    scalars_of_plan p task (get_or plans k no_plan) t (h.plan.each k task (get_or plans k no_plan) a plan)
    (h.layout.tasks.each k task (get_or plans k no_plan) t a plan b)) in
    let few_shared = h.few_shared in
    let few_tasks = h.few_tasks in
    let bound = h.allowed.within_bound in
    let cycles = h.allowed.cycles in
    let shared_length = variables_count text p.shared l.variables places in
    let task_length = tasks_count text p.shared p.tasks l.tasks count in
    let is_map : IsMap m = record {
      bound = omega (arith, bound, cycles);
      words = runtime_words l rules;
      list = placed.list;
      emits = placed.emits;
      versions = placed.versions;
      copies = placed.copies;
      ring = ring_is l.runtime.events;
      variables = variables_are text l.homes.address (end_of l.homes) p.shared l.variables places rules.homes placed.low placed.high h.names.words;
      few_variables = omega (arith, few_shared, shared_length);
      few_tasks = omega (arith, few_tasks, task_length);
      different = ap (are_different []) (ap₂ (λ a b. a ++ b) names tasks) ∙ h.names.different;
      privates = all_privates_are text p.shared l.variables places p.tasks l.tasks scalars;
    } in
    record {
      is_map = is_map;
      of_source = record { variables = of_declarations text p.shared l.variables places; tasks = tasks };
      takes = record {
        variables = takes_variables m [] m.variables refl is_map;
        tasks = subst (λ x. TakesTasks x m.tasks) (sym (all_variables m [] m.variables)) (takes_tasks m [] m.tasks refl is_map);
      };
      places = places;
      declared = All-weaker (λ t. All (HasItsPlace l.variables) t.privates) (λ t. All (λ s. s.number < length p.shared) t.privates)
          (λ t k. All-weaker (HasItsPlace l.variables) (λ s. s.number < length p.shared)
          (declared_there (length p.shared) l.variables h.layout.variables.count) t.privates k) l.tasks rules.privates;
    }
