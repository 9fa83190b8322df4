-- The word programs of an accepted source are whole.
use Rattle.std.proofs.Common.{◌≡◌, ◌%◌, ◌<◌, ◌≤◌, ℕ, suc, length, map, true, List, [], ◌∷◌, Some, refl, sym, ap, subst, ◌∙◌, arith, slice_get, slice_index_or}
use Rattle.std.specs.Prelude.{All}
use Rattle.std.proofs.lemmas.List.Elements.{All-nil, All-cons}
use Rattle.std.proofs.lemmas.Option.{slice_get_within}
use Rattle.task_ast.specs.Calls.{BlockCallsBelow}
use Rattle.task_ast.specs.Paths.{CheckedProgram, CheckedFunction, CheckedTask, CheckedBlock}
use Rattle.cost_bound.specs.declared.allowance.Allow.{Allow}
use Rattle.cost_bound.specs.Allowance.{uses_events}
use Rattle.cost_bound.specs.Frames.{stack_of}
use Rattle.cost_bound.specs.Summaries.{summaries}
use Rattle.function_locals.specs.Locals.{base_of, all_locals}
use Rattle.function_locals.proofs.Interface.{locals_stand}
use Rattle.war_analysis.specs.PlanValue.{TaskPlanValue}
use Rattle.war_analysis.proofs.Interface.{element}
use Rattle.memory_map.specs.declared.place.RoutinePlace.{RoutinePlace}
use Rattle.memory_map.specs.MemoryMap.{MemoryMap, TaskPlace}
use Rattle.memory_map.specs.Places.{end_of, HasItsPlace}
use Rattle.memory_map.proofs.Interface.{even_of}
use Rattle.privatise.specs.Laws.{RoutinesStand}
use Rattle.privatise.specs.Routines.{known_functions, task_routines}
use Rattle.privatise.proofs.Interface.{routines_stand}
use Rattle.array_versions.specs.TaskPrograms.{TaskPrograms}
use Rattle.array_versions.specs.Program.{Program, nothing}
use Rattle.array_versions.specs.Form.{IsWhole, LocalsBelow, OfWords}
use Rattle.array_versions.proofs.Interface.{each_local_as}
use Rattle.memory_map.specs.Spots.{Places}
use Rattle.linked_code.specs.Linked.{CallsAmong}
use Rattle.lower.specs.Seen.{some_path_writes, map_seen, task_seen}
use Rattle.lower.specs.Lowered.{routine_bodies, task_places, lowered_task, lowered_tasks}
use Rattle.lower.proofs.Interface.{privates_seen, seen_all, seen_laid_out, first_seen, routines_seen}
use Rattle.checked_trees.specs.WellFormed.{IsWellFormed}
use Rattle.whole_programs.specs.Laws.{IsLaidOutText, TasksAreWhole, ProgramsAreWhole, CallsAreTheirs, RoutinesAreLow, KeepsToWords, TasksKeepTheirStacks}
use Rattle.whole_programs.proofs.Rooms.{room_of}
use Rattle.whole_programs.proofs.Called.{Task, place_low_locals, task_code, task_program, task_sound, way_of_task}
use Rattle.whole_programs.proofs.Grounds.{below_greatest, Ground, ground}
use Rattle.whole_programs.proofs.Steps.{Sound}
use Rattle.whole_programs.proofs.Among.{task_among}
use Rattle.whole_programs.proofs.Placed.{PlacesOfWords, HasCodeOfWords, places_are_words, routines_of_words}
use Rattle.checked_trees.proofs.Interface.{all_at, task_checked, function_checked}

-- what a layout says of a task's place: its locals are behind the registers of all that it calls, and the functions that it reaches have their places
record IsStanding (program : CheckedProgram) (body : CheckedBlock) (t : TaskPlace) : Type 0 where
  first : t.first ≡ base_of (all_locals program.functions) body
  routines : t.routines ≡ task_routines (known_functions program) body (end_of t.code)

-- a well-formed task's program, where its places are words and the commit stands at an even address
module _ (program : CheckedProgram) (body : CheckedBlock) (p : Places) (task : Task program body p) (ground : Ground program body)
    (formed : IsWellFormed program 0 (length program.functions) true body) (first : p.first ≡ base_of (all_locals program.functions) body)
    (even : p.map.commit.address % 2 ≡ 0) where
  abbrev base : ℕ
  base = base_of (all_locals program.functions) body

  sound : Sound (task_code program body p task ground.locals) (task_program program body p task)
  sound = task_sound program body p task formed first ground.locals ground.below

  abbrev whole : IsWhole (task_program program body p task)
  whole = record {
    locals = ground.locals;
    room = room_of body;
    bounds = (task_code program body p task ground.locals).bounds;
    fits = ground.fits;
    lowest = ground.lowest;
    floor = omega arith;
    registers = (locals_stand program.functions).few_of_task body;
    low_locals =
        each_local_as (λ n. base ≤ n × n < ground.locals) (λ n. n < ground.locals) (λ n h. h.1) (task_program program body p task) sound.0;
    own_locals =
        each_local_as (λ n. base ≤ n × n < ground.locals) (λ n. base ≤ n) (λ n h. h.0) (task_program program body p task) sound.0;
    formed = sound.1;
    ways = way_of_task program body p task formed even;
  }

  keeps_to_words : KeepsToWords (stack_of (summaries program) body) (task_program program body p task)
  keeps_to_words = record { whole = whole; floor = omega arith }

-- what holds of the program of each function holds of all
all_map : (g : RoutinePlace → Program) (rs : List RoutinePlace) → ((j : ℕ) (r : RoutinePlace) → slice_get rs j ≡ Some r → LocalsBelow 1016 (g r))
    → All (LocalsBelow 1016) (map g rs)
all_map g [] h = All-nil (LocalsBelow 1016)
all_map g (r ∷ rs) h = All-cons (LocalsBelow 1016) (g r) (map g rs) (h 0 r refl) (all_map g rs (λ j x e. h (suc j) x e))

-- a task of a laid out text
module _ (text : List ℕ) (program : CheckedProgram) (allow : Allow) (plans : List TaskPlanValue) (l : MemoryMap)
    (laid : IsLaidOutText text program allow plans l) (k : ℕ) (task : CheckedTask) (t : TaskPlace) (e : slice_get program.tasks k ≡ Some task)
    (f : slice_get l.tasks k ≡ Some t) where
  abbrev own : TaskPlace
  own = task_seen l.runtime.logging t

  abbrev p : Places
  p = task_places program.functions l t task.body

  -- by its plan
  stands : IsStanding program task.body t
  stands =
      let inside = slice_get_within program.tasks k task e in
      let count = laid.plan.count in
      let plan = element plans k (omega (arith, inside, count)) in
      let layout = laid.layout.tasks.each k task plan.0 t e plan.1 f in
      record { first = layout.first; routines = layout.routines }

  words_are : PlacesOfWords p
  words_are =
      let rules = laid.layout.rules in
      let seen = seen_laid_out (some_path_writes program.functions task.body) l rules in
      let privates = all_at (λ t. All (HasItsPlace l.variables) t.privates) l.tasks k t rules.privates f in
      places_are_words (map_seen program.functions task.body l) seen own
      (privates_seen (some_path_writes program.functions task.body) l.variables own.privates
      (seen_all (HasItsPlace l.variables) l.runtime.logging t privates))
      (subst HasCodeOfWords (sym (routines_seen l.runtime.logging t)) (routines_of_words l rules k t f))

  routines_are : RoutinesStand program task.body own.routines
  routines_are =
      subst (RoutinesStand program task.body) (sym (routines_seen l.runtime.logging t ∙ stands.routines)) (routines_stand program task.body (end_of t.code))

  is_task : Task program task.body p
  is_task =
      let placed = laid.accepted.checks.checks.named.placed in
      let below = below_greatest (stack_of (summaries program)) program.tasks k task e in
      let within = laid.accepted.allowed.within_stack in
      record {
        formed = function_checked text program laid.accepted.checks;
        calls = placed.calls.functions;
        below = all_at (λ t. BlockCallsBelow (length program.functions) t.body) program.tasks k task placed.calls.tasks e;
        words = words_are;
        routines = routines_are;
        stack = omega (arith, below, within);
      }

  has_ground : Ground program task.body
  has_ground = ground program laid.accepted.allowed.within_stack k task e

  pub task_is_whole : IsWhole (lowered_task program.functions l t task.body).own × OfWords (lowered_task program.functions l t task.body).own
  task_is_whole =
      let formed = task_checked text program laid.accepted.checks k task e in
      let first : own.first ≡ base_of (all_locals program.functions) task.body = first_seen l.runtime.logging t ∙ stands.first in
      let even = (even_of l laid.layout.rules).commit in
      (whole program task.body p is_task has_ground formed first even, (sound program task.body p is_task has_ground formed first even).2)

  pub words_of_task : KeepsToWords (stack_of (summaries program) task.body) (lowered_task program.functions l t task.body).own
  words_of_task =
      let formed = task_checked text program laid.accepted.checks k task e in
      let first : own.first ≡ base_of (all_locals program.functions) task.body = first_seen l.runtime.logging t ∙ stands.first in
      let even = (even_of l laid.layout.rules).commit in
      keeps_to_words program task.body p is_task has_ground formed first even

  pub calls_of_task : CallsAmong t.routines (lowered_task program.functions l t task.body).routines (lowered_task program.functions l t task.body).own
  calls_of_task =
      subst (λ rs. CallsAmong rs (lowered_task program.functions l t task.body).routines (lowered_task program.functions l t task.body).own)
      (routines_seen l.runtime.logging t)
      (task_among program task.body p is_task (task_checked text program laid.accepted.checks k task e))

  pub routines_of_task : All (LocalsBelow 1016) (lowered_task program.functions l t task.body).routines
  routines_of_task =
      all_map (λ r. slice_index_or (routine_bodies p program.functions) r.function nothing) p.routines
      (place_low_locals program task.body p is_task)

pub routines_are_low : RoutinesAreLow
routines_are_low text program allow plans l laid k task t e f = routines_of_task text program allow plans l laid k task t e f

pub calls_are_theirs : CallsAreTheirs
calls_are_theirs text program allow plans l laid k task t e f = calls_of_task text program allow plans l laid k task t e f

pub tasks_are_whole : TasksAreWhole
tasks_are_whole text program allow plans l laid k task t e f = task_is_whole text program allow plans l laid k task t e f

pub tasks_keep_their_stacks : TasksKeepTheirStacks
tasks_keep_their_stacks text program allow plans l laid k task t e f = words_of_task text program allow plans l laid k task t e f

-- what holds of each task's program by number holds of all
all_lowered : (P : TaskPrograms → Type 0) (fs : List CheckedFunction) (l : MemoryMap) (tasks : List CheckedTask) (layouts : List TaskPlace)
    → ((k : ℕ) (task : CheckedTask) (t : TaskPlace) → slice_get tasks k ≡ Some task → slice_get layouts k ≡ Some t
    → P (lowered_task fs l t task.body)) → All P (lowered_tasks fs l tasks layouts)
all_lowered P fs l [] layouts h = All-nil P
all_lowered P fs l (task ∷ tasks) [] h = All-nil P
all_lowered P fs l (task ∷ tasks) (t ∷ layouts) h =
    All-cons P (lowered_task fs l t task.body) (lowered_tasks fs l tasks layouts) (h 0 task t refl refl)
    (all_lowered P fs l tasks layouts (λ k x y e f. h (suc k) x y e f))

pub programs_are_whole : ProgramsAreWhole
programs_are_whole text program allow plans l laid = (
  all_lowered (λ q. IsWhole q.own) program.functions l program.tasks l.tasks
      (λ k task t e f. (task_is_whole text program allow plans l laid k task t e f).0),
  all_lowered (λ q. OfWords q.own) program.functions l program.tasks l.tasks
      (λ k task t e f. (task_is_whole text program allow plans l laid k task t e f).1),
)
