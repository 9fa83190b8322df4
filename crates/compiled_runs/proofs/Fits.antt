-- The layout of a source has room for the code of its programs.
use Rattle.std.proofs.Common.{◌≡◌, ◌∙◌, ◌≤◌, ℕ, suc, false, true, List, [], ◌∷◌, length, map, take, Some, slice_get, refl, sym, ap, subst}
use Rattle.std.proofs.Common.{arith}
use Rattle.std.specs.Prelude.{All, slice_index_or}
use Rattle.std.proofs.lemmas.List.{length-take-le}
use Rattle.std.proofs.lemmas.List.Elements.{All-take}
use Rattle.std.proofs.lemmas.Option.{same_Some, slice_get_within, get_or_from_slice_get}
use Rattle.task_ast.specs.declared.SharedDeclaration.{SharedDeclaration}
use Rattle.task_ast.specs.Paths.{CheckedBlock, CheckedFunction, CheckedProgram}
use Rattle.task_ast.proofs.Interface.{answer_of, answers_length}
use Rattle.task_check.specs.Placed.{block_ends}
use Rattle.cost_bound.specs.Summary.{Summary}
use Rattle.cost_bound.specs.Summaries.{function_summary, function_summaries, summaries}
use Rattle.cost_bound.specs.Table.{words_column, block_price}
use Rattle.cost_bound.specs.Allowance.{CheckedTask, scalars_of}
use Rattle.war_analysis.proofs.Interface.{element}
use Rattle.memory_map.specs.declared.place.RoutinePlace.{RoutinePlace}
use Rattle.memory_map.specs.MemoryMap.{MemoryMap, TaskPlace}
use Rattle.memory_map.specs.Places.{end_of}
use Rattle.memory_map.specs.Spots.{Places, private_words, routine_of, routine_places}
use Rattle.privatise.specs.Laws.{RoutinesStand}
use Rattle.privatise.specs.Layouts.{IsTaskLayout}
use Rattle.privatise.specs.Routines.{known_functions}
use Rattle.privatise.proofs.Interface.{routines_stand}
use Rattle.array_versions.specs.Program.{Program, nothing}
use Rattle.array_versions.specs.Cost.{words_of}
use Rattle.lower.specs.Sizes.{BodiesKeep}
use Rattle.lower.specs.Lowered.{body_at, lowered_block, lowered_task, lowered_tasks, routine_body, routine_bodies, task_places}
use Rattle.lower.proofs.Interface.{blocks_keep_to_words, routines_keep, routines_seen, seen_words}
use Rattle.linked_code.specs.Linked.{RoutinesFit}
use Rattle.linked_code.specs.Rooms.{ProgramsKeep, TaskKeeps}
use Rattle.linked_code.proofs.Interface.{layouts_have_room}
use Rattle.compiled_runs.specs.Laws.{SourcesHaveRoom}
use Rattle.compiled_runs.proofs.Words.{block_same}

-- ---- the functions of a task

module _ (p : CheckedProgram) (body : CheckedBlock) (places : Places) (ends : All (λ f. block_ends false f.body ≡ true) p.functions)
    (stand : RoutinesStand p body places.routines) where
  abbrev bodies : List Program
  bodies = routine_bodies places p.functions

  -- the program of a function that the task reaches is the body where it stands, by those of the functions in front
  body_is : (j : ℕ) (r : RoutinePlace) (f : CheckedFunction) → slice_get places.routines j ≡ Some r → slice_get p.functions r.function ≡ Some f
      → slice_index_or bodies r.function nothing ≡ lowered_block (routine_places places r) (routine_bodies places (take r.function p.functions)) f.body
  body_is j r f at is =
      let inside = slice_get_within p.functions r.function f is in
      let front = take r.function p.functions in
      let none = answers_length (routine_body places) [] front in
      let taken : length front ≡ r.function = length-take-le r.function p.functions (omega (arith, inside)) in
      let count : length (routine_bodies places front) ≡ r.function = omega (arith, none, taken) in
      get_or_from_slice_get bodies r.function (routine_body places (routine_bodies places front) f) nothing
      (answer_of (routine_body places) p.functions r.function f is)
      ∙ ap (λ n. body_at places (routine_of places n) (routine_bodies places front) f.body) count
      ∙ ap (λ o. body_at places o (routine_bodies places front) f.body) (stand.own j r at)

  routine_fits : (j : ℕ) (r : RoutinePlace) → slice_get places.routines j ≡ Some r → words_of (slice_index_or bodies r.function nothing) ≤ r.code.words
  routine_fits j r at =
      let is = stand.each j r at in
      let f = is.known.function in
      let front = take r.function p.functions in
      let known = function_summaries front in
      let summary : is.known.summary ≡ function_summary known f =
      same_Some is.known.summary (function_summary known f)
      (sym is.is.summary ∙ answer_of function_summary p.functions r.function f is.is.function) in
      let words : is.known.summary.words ≡ block_price known (words_column 0) f.body = ap (λ s. s.words) summary in
      let room = is.words in
      let cheap : BodiesKeep known (routine_bodies places front) =
      routines_keep places front (All-take (λ g. block_ends false g.body ≡ true) r.function p.functions ends) in
      let end = All-at p.functions r.function f ends is.is.function in
      let short =
      blocks_keep_to_words known (routine_bodies places front) cheap (routine_places places r) (private_words places.privates) f.body (omega arith) in
      let same = block_same known (private_words places.privates) 0 f.body end in
      let program = ap words_of (body_is j r f at is.is.function) in
      omega (arith, short, same, words, room, program)
    where
      All-at : (fs : List CheckedFunction) (k : ℕ) (f : CheckedFunction) → All (λ g. block_ends false g.body ≡ true) fs → slice_get fs k ≡ Some f
          → block_ends false f.body ≡ true
      All-at fs k f h is =
          subst (λ g. block_ends false g.body ≡ true) (get_or_from_slice_get fs k f f is) (h k f (slice_get_within fs k f is))

fit_each : (rs : List RoutinePlace) (g : RoutinePlace → Program) → ((j : ℕ) (r : RoutinePlace) → slice_get rs j ≡ Some r → words_of (g r) ≤ r.code.words)
    → RoutinesFit rs (map g rs)
fit_each [] g h = tt
fit_each (r ∷ rs) g h = (h 0 r refl, fit_each rs g (λ j x e. h (suc j) x e))

-- ---- all tasks

keep_all : (known : List Summary) (fs : List CheckedFunction) (l : MemoryMap) (shared : List SharedDeclaration) (tasks : List CheckedTask)
    (ts : List TaskPlace) → length ts ≡ length tasks
    → ((k : ℕ) (task : CheckedTask) (t : TaskPlace) → slice_get tasks k ≡ Some task → slice_get ts k ≡ Some t
    → TaskKeeps known shared task t (lowered_task fs l t task.body)) → ProgramsKeep known shared tasks ts (lowered_tasks fs l tasks ts)
keep_all known fs l shared [] [] n f = tt
keep_all known fs l shared [] (t ∷ ts) n f = absurd (omega (arith, n))
keep_all known fs l shared (task ∷ tasks) [] n f = absurd (omega (arith, n))
keep_all known fs l shared (task ∷ tasks) (t ∷ ts) n f =
    (f 0 task t refl refl, keep_all known fs l shared tasks ts (omega (arith, n)) (λ k u v a b. f (suc k) u v a b))

pub sources_have_room : SourcesHaveRoom
sources_have_room logging p allow plans l allowed is count privates calls =
    layouts_have_room logging p allow plans l (lowered_tasks p.functions l p.tasks l.tasks) allowed is count privates
    (keep_all (summaries p) p.functions l p.shared p.tasks l.tasks is.tasks.count each)
  where
    each : (k : ℕ) (task : CheckedTask) (t : TaskPlace) → slice_get p.tasks k ≡ Some task → slice_get l.tasks k ≡ Some t
        → TaskKeeps (summaries p) p.shared task t (lowered_task p.functions l t task.body)
    each k task t at there =
        let places = task_places p.functions l t task.body in
        let counted = privates k task t at there in
        let no_more = seen_words l.runtime.logging t in
        let inside = slice_get_within p.tasks k task at in
        let plan = element plans k (omega (arith, inside, count)) in
        let layout : IsTaskLayout (known_functions p) p.shared task.body plan.0 t = is.tasks.each k task plan.0 t at plan.1 there in
        let routines : places.routines ≡ t.routines = routines_seen l.runtime.logging t in
        let stand : RoutinesStand p task.body places.routines =
        subst (RoutinesStand p task.body) (sym (routines ∙ layout.routines)) (routines_stand p task.body (end_of t.code)) in
        let cheap = routines_keep places p.functions is.placed.functions in
        let g : RoutinePlace → Program = λ r. slice_index_or (routine_bodies places p.functions) r.function nothing in
        record {
          own = blocks_keep_to_words (summaries p) (routine_bodies places p.functions) cheap places (scalars_of (summaries p) p.shared task.body) task.body
              (omega (arith, counted, no_more));
          routines = subst (λ rs. RoutinesFit rs (map g places.routines)) routines
              (fit_each places.routines g (routine_fits p task.body places is.placed.functions stand));
          calls = calls k task t at there;
        }
