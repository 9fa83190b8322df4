-- The programs of a task of an accepted source, as they are made and with the bodies of what they call: their code can be made, and what their calls cost
-- is computed.
use Rattle.std.proofs.Common.{◌≡◌, ℕ, zero, suc, ◌<◌, ◌≤◌, List, [], ◌∷◌, Some, length, map, refl, sym, ap, ap₂, subst, ◌∙◌, arith}
use Rattle.std.proofs.Common.{get_or}
use Rattle.std.specs.Prelude.{slice_get, All}
use Rattle.std.specs.List.{flat_map}
use Rattle.std.proofs.lemmas.List.{length-map}
use Rattle.std.proofs.lemmas.List.Elements.{All-nil, All-cons, All-head, All-tail}
use Rattle.std.proofs.lemmas.Option.{same_Some, none-some}
use Rattle.task_ast.specs.Paths.{CheckedFunction, CheckedTask}
use Rattle.cost_bound.specs.declared.allowance.Allow.{Allow}
use Rattle.cost_bound.specs.Counts.{reaches_of}
use Rattle.cost_bound.specs.Frames.{stack_of}
use Rattle.cost_bound.specs.Summaries.{summaries}
use Rattle.function_locals.specs.Locals.{all_locals}
use Rattle.source_values.specs.Runs.{CheckedProgram}
use Rattle.war_analysis.specs.PlanValue.{TaskPlanValue}
use Rattle.war_analysis.proofs.Interface.{element}
use Rattle.memory_map.specs.declared.place.RoutinePlace.{RoutinePlace}
use Rattle.memory_map.specs.MemoryMap.{MemoryMap, TaskPlace}
use Rattle.memory_map.specs.Places.{AreInOrder, code_regions, end_of}
use Rattle.memory_map.specs.Spots.{Places, routine_among}
use Rattle.memory_map.proofs.Interface.{in_order_end, in_order_higher, in_order_split, parts_in_fram}
use Rattle.privatise.specs.Layouts.{IsTaskLayout}
use Rattle.privatise.specs.Routines.{known_functions}
use Rattle.privatise.specs.Laws.{RoutinesStand}
use Rattle.privatise.proofs.Interface.{routines_stand}
use Rattle.array_versions.specs.Program.{Program, nothing}
use Rattle.array_versions.specs.TaskPrograms.{TaskPrograms, no_programs}
use Rattle.array_versions.specs.Form.{IsWhole, LocalsBelow}
use Rattle.array_versions.proofs.Interface.{each_local_as, filled_locals, filled_words}
use Rattle.word_code.proofs.Interface.{program_below, program_least}
use Rattle.linked_code.specs.Linked.{RoutinesFit, TaskFits, ProgramsFit}
use Rattle.lower.specs.Lowered.{bare_routine, bare_task, bare_tasks, lowered_task, lowered_tasks, task_places}
use Rattle.lower.proofs.Interface.{program_at, routines_seen}
use Rattle.whole_programs.specs.Laws.{IsLaidOutText}
use Rattle.whole_programs.proofs.Interface.{tasks_are_whole, calls_are_theirs, privates_are_few, routines_are_low}
use Rattle.compiled_model.specs.Parts.{task_program}
use Rattle.compiled_runs.proofs.Interface.{sources_have_room}
use Rattle.dearest_ways.specs.Calls.{CallsCost}
use Rattle.dearest_ways.specs.Ways.{bare}
use Rattle.source_needs.specs.Bodies.{routine_costs, routines_of, own_routines, task_programs, made_programs, task_calls, IsShort, AreBodies}
use Rattle.source_needs.proofs.Ordered.{Ascends, routines_ascend}
use Rattle.source_needs.proofs.Bodies.{bodies, task_bare, task_costs, are_bodies}

-- ---- one of all tasks

made_at : (fs : List CheckedFunction) (l : MemoryMap) (tasks : List CheckedTask) (ts : List TaskPlace) (k : ℕ) (task : CheckedTask) (t : TaskPlace)
    → slice_get tasks k ≡ Some task → slice_get ts k ≡ Some t → get_or (bare_tasks fs l tasks ts) k no_programs ≡ bare_task fs l t task.body
made_at fs l [] ts k task t e f = absurd (none-some task e)
made_at fs l (u ∷ tasks) [] k task t e f = absurd (none-some t f)
made_at fs l (u ∷ tasks) (v ∷ ts) zero task t e f =
    ap₂ (λ (x : TaskPlace) (y : CheckedTask). bare_task fs l x y.body) (same_Some v t f) (same_Some u task e)
made_at fs l (u ∷ tasks) (v ∷ ts) (suc k) task t e f = made_at fs l tasks ts k task t e f

fits_at : (ts : List TaskPlace) (ps : List TaskPrograms) (k : ℕ) (t : TaskPlace) → ProgramsFit ts ps → slice_get ts k ≡ Some t
    → TaskFits t (get_or ps k no_programs)
fits_at [] ps k t h e = absurd (none-some t e)
fits_at (u ∷ ts) [] k t h e = absurd h
fits_at (u ∷ ts) (q ∷ ps) zero t h e = subst (λ x. TaskFits x q) (same_Some u t e) h.0
fits_at (u ∷ ts) (q ∷ ps) (suc k) t h e = fits_at ts ps k t h.1 e

-- where the code of a task stands
code_at : (from : ℕ) (ts : List TaskPlace) (end k : ℕ) (t : TaskPlace) → AreInOrder from (flat_map code_regions ts) end → slice_get ts k ≡ Some t
    → (start : ℕ) × (from ≤ start) × AreInOrder start (code_regions t) end
code_at from [] end k t o e = absurd (none-some t e)
code_at from (u ∷ ts) end zero t o e =
    let parts = in_order_split from (code_regions u) (flat_map code_regions ts) end o in
    let high = in_order_end parts.0 (flat_map code_regions ts) end parts.2 in
    let here = in_order_higher from (code_regions u) parts.0 end high parts.1 in
    (from, omega arith, subst (λ x. AreInOrder from (code_regions x) end) (same_Some u t e) here)
code_at from (u ∷ ts) end (suc k) t o e =
    let parts = in_order_split from (code_regions u) (flat_map code_regions ts) end o in
    let up = in_order_end from (code_regions u) parts.0 parts.1 in
    let later = code_at parts.0 ts end k t parts.2 e in
    let further = later.1 in
    (later.0, omega (arith, up, further), later.2)

-- ---- code can be made of them

-- of functions whose code has its places
routines_short : (from : ℕ) (rs : List RoutinePlace) (ps : List Program) (end : ℕ) → AreInOrder from (map (λ r. r.code) rs) end → end < 0x10000
    → RoutinesFit rs ps → All (LocalsBelow 1016) ps → (length ps ≡ length rs) × All IsShort ps
routines_short from [] [] end o l f low = (refl, All-nil IsShort)
routines_short from [] (p ∷ ps) end o l f low = absurd f
routines_short from (r ∷ rs) [] end o l f low = absurd f
routines_short from (r ∷ rs) (p ∷ ps) end o l f low =
    let rest = routines_short (end_of r.code) rs ps end o.1 l f.1 (All-tail (LocalsBelow 1016) p ps low) in
    let high = in_order_end (end_of r.code) (map (λ r. r.code) rs) end o.1 in
    let w = f.0 in
    let count = rest.0 in
    (omega (arith, count), All-cons IsShort p ps (omega (arith, high, w, l), All-head (LocalsBelow 1016) p ps low) rest.1)

-- a whole program has its locals in registers and in RAM
whole_low : (q : Program) → IsWhole q → LocalsBelow 1016 q
whole_low q w = each_local_as (λ n. n < w.locals) (λ n. n < 1016) (λ n low. let room = w.fits.fits in omega (arith, low, room)) q w.low_locals

-- without what it calls a program is as short
bare_short : (q : Program) → IsShort q → IsShort (bare q)
bare_short q h =
    let words = filled_words (λ entry. nothing) q in
    let few = h.0 in
    (omega (arith, words, few), program_below 1016 (bare q) (subst (λ n. n ≤ 1016) (sym (filled_locals (λ entry. nothing) q)) (program_least 1016 q h.1)))

all_short : (qs ms : List Program) → map bare qs ≡ ms → All IsShort qs → All IsShort ms
all_short qs ms e h = subst (All IsShort) e (each qs h)
  where
    each : (ps : List Program) → All IsShort ps → All IsShort (map bare ps)
    each [] h = All-nil IsShort
    each (p ∷ ps) h = All-cons IsShort (bare p) (map bare ps) (bare_short p (All-head IsShort p ps h)) (each ps (All-tail IsShort p ps h))

-- ---- a task

pub record TaskBodies (p : CheckedProgram) (l : MemoryMap) (k : ℕ) : Type 0 where
  pub own_bare : bare (task_program p l k) ≡ (made_programs p l k).own
  pub own_short : IsShort (made_programs p l k).own
  pub costs : CallsCost (task_calls p l k) (task_program p l k)
  pub count : length (made_programs p l k).routines ≡ length (own_routines l k)
  pub shorts : All IsShort (made_programs p l k).routines
  pub are : AreBodies (own_routines l k) (made_programs p l k).routines (task_programs p l k).routines

-- from its places, with what its programs are
bodies_of : (p : CheckedProgram) (l : MemoryMap) (k : ℕ) (task : CheckedTask) (t : TaskPlace) → slice_get l.tasks k ≡ Some t
    → task_programs p l k ≡ lowered_task p.functions l t task.body → made_programs p l k ≡ bare_task p.functions l t task.body
    → (at : ℕ) → 0 < at → Ascends 0 at t.routines
    → ((j : ℕ) (r : RoutinePlace) → slice_get t.routines j ≡ Some r → routine_among t.routines r.function ≡ Some r)
    → IsShort (lowered_task p.functions l t task.body).own
    → (length (lowered_task p.functions l t task.body).routines ≡ length t.routines) × All IsShort (lowered_task p.functions l t task.body).routines
    → TaskBodies p l k
bodies_of p l k task t placed whole made at high ascend own short shorts = record {
  own_bare = ap (λ (q : TaskPrograms). bare q.own) whole ∙ task_bare its p.functions 0 at up high once task.body ∙ ap (λ (q : TaskPrograms). q.own) (sym made);
  own_short = subst (λ (q : TaskPrograms). IsShort q.own) (sym made)
      (subst IsShort (task_bare its p.functions 0 at up high once task.body) (bare_short (lowered_task p.functions l t task.body).own short));
  costs = subst (λ (q : TaskPrograms). CallsCost (routine_costs (own_routines l k) q.routines) q.own) (sym whole)
      (subst (λ rs. CallsCost (routine_costs rs its_bodies) (lowered_task p.functions l t task.body).own) places
      (task_costs its p.functions 0 at up high once task.body));
  count = ap (λ (q : TaskPrograms). length q.routines) made ∙ length-map its.routines (bare_routine its p.functions) ∙ ap length places;
  shorts = subst (λ (q : TaskPrograms). All IsShort q.routines) (sym made)
      (all_short its_bodies (map (bare_routine its p.functions) its.routines) are.made_of shorts.1);
  are = subst (λ (q : TaskPrograms). AreBodies (own_routines l k) (made_programs p l k).routines q.routines) (sym whole)
      (subst (λ (q : TaskPrograms). AreBodies (own_routines l k) q.routines its_bodies) (sym made)
      (subst (λ rs. AreBodies rs (map (bare_routine its p.functions) its.routines) its_bodies) places are));
}
  where
    its : Places
    its = task_places p.functions l t task.body

    seen : its.routines ≡ t.routines
    seen = routines_seen l.runtime.logging t

    places : its.routines ≡ own_routines l k
    places = seen ∙ ap routines_of (sym placed)

    up : Ascends 0 at its.routines
    up = subst (Ascends 0 at) (sym seen) ascend

    once : (j : ℕ) (r : RoutinePlace) → slice_get its.routines j ≡ Some r → routine_among its.routines r.function ≡ Some r
    once j r e = ap (λ rs. routine_among rs r.function) seen ∙ own j r (ap (λ rs. slice_get rs j) (sym seen) ∙ e)

    its_bodies : List Program
    its_bodies = bodies its p.functions 0 at up high once

    are : AreBodies its.routines (map (bare_routine its p.functions) its.routines) its_bodies
    are = are_bodies its p.functions 0 at up high once

pub task_bodies : (text : List ℕ) (p : CheckedProgram) (allow : Allow) (plans : List TaskPlanValue) (l : MemoryMap) → IsLaidOutText text p allow plans l
    → (k : ℕ) → k < length p.tasks → TaskBodies p l k
task_bodies text p allow plans l laid k inside =
    let t = element p.tasks k inside in
    let count = laid.layout.tasks.count in
    let plans_count = laid.plan.count in
    let place = element l.tasks k (omega (arith, inside, count)) in
    let plan = element plans k (omega (arith, inside, plans_count)) in
    let layout : IsTaskLayout (known_functions p) p.shared t.0.body plan.0 place.0 = laid.layout.tasks.each k t.0 plan.0 place.0 t.1 plan.1 place.1 in
    let whole = program_at p.functions l p.tasks l.tasks k t.0 place.0 t.1 place.1 in
    let made = made_at p.functions l p.tasks l.tasks k t.0 place.0 t.1 place.1 in
    let room = sources_have_room laid.logging p allow plans l laid.accepted.allowed laid.layout plans_count
    (privates_are_few text p allow plans l laid) (calls_are_theirs text p allow plans l laid) in
    let fits = subst (TaskFits place.0) whole (fits_at l.tasks (lowered_tasks p.functions l p.tasks l.tasks) k place.0 room.tasks place.1) in
    let code = code_at l.code.address l.tasks (end_of l.code) k place.0 laid.layout.rules.code place.1 in
    let from = (parts_in_fram l laid.layout.rules).code.from in
    let up = code.1 in
    let start = code.2.0.from in
    let at = end_of place.0.code in
    let end = room.high in
    let high = in_order_end at (map (λ r. r.code) place.0.routines) (end_of l.code) code.2.1 in
    let words = fits.own in
    let stand : RoutinesStand p t.0.body place.0.routines =
    subst (RoutinesStand p t.0.body) (sym layout.routines) (routines_stand p t.0.body at) in
    let ascend : Ascends 0 at place.0.routines = subst (Ascends 0 at) (sym layout.routines)
    (routines_ascend (stack_of (summaries p) t.0.body) (λ n. reaches_of (summaries p) n t.0.body) 0 at (summaries p) (all_locals p.functions)) in
    bodies_of p l k t.0 place.0 place.1 whole made at (omega (arith, from, up, start)) ascend stand.own (
      omega (arith, words, high, end),
      whole_low (lowered_task p.functions l place.0 t.0.body).own
          (tasks_are_whole text p allow plans l laid k t.0 place.0 t.1 place.1).0,
    )
    (routines_short at place.0.routines (lowered_task p.functions l place.0 t.0.body).routines (end_of l.code) code.2.1 (omega (arith, end)) fits.routines
    (routines_are_low text p allow plans l laid k t.0 place.0 t.1 place.1))
