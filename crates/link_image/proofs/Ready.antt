-- A source with its plan and its layout is ready to be linked.
use Rattle.link_image.proofs.Names.{◌∙◌, ℕ, List, ap, sym, arith, get_or, end_of, CheckedProgram, MemoryMap, IsReadyToLink, All}
use Rattle.std.proofs.Common.{◌≡◌, suc, ◌<◌, [], ◌∷◌, Some, refl}
use Rattle.std.proofs.lemmas.List.Elements.{All-nil, All-cons, All-head, All-tail}
use Rattle.task_ast.specs.Paths.{CheckedFunction, CheckedTask}
use Rattle.memory_map.specs.MemoryMap.{TaskPlace}
use Rattle.array_versions.specs.Program.{Program}
use Rattle.array_versions.specs.TaskPrograms.{TaskPrograms}
use Rattle.array_versions.specs.Form.{IsWhole}
use Rattle.array_versions.proofs.Interface.{each_local_as}
use Rattle.cost_bound.specs.declared.allowance.Allow.{Allow}
use Rattle.war_analysis.specs.PlanValue.{TaskPlanValue}
use Rattle.war_analysis.specs.Plans.{IsPlan}
use Rattle.memory_map.specs.declared.runtime.Logging.{Logging}
use Rattle.privatise.specs.Layouts.{IsLayoutFor}
use Rattle.source_values.specs.Running.{IsRunnable}
use Rattle.source_meaning.specs.Acceptance.{IsAcceptedText}
use Rattle.whole_programs.specs.Laws.{IsLaidOutText, ProgramsAreWhole}
use Rattle.whole_programs.proofs.Interface.{privates_are_few, calls_are_theirs, routines_are_low}
use Rattle.source_maps.proofs.Interface.{names_are_names, maps_are_of_sources}
use Rattle.compiled_runs.proofs.Interface.{sources_have_room}
use Rattle.std.specs.Prelude.{slice_get}
use Rattle.std.proofs.lemmas.Option.{slice_get-get_or}
use Rattle.war_analysis.proofs.Interface.{element}
use Rattle.memory_map.specs.Spots.{routine_among}
use Rattle.lower.specs.Lowered.{lowered, lowered_task, lowered_tasks}
use Rattle.privatise.proofs.Interface.{routines_stand}
use Rattle.link_image.specs.Needs.{HasFewLocals, TaskHasFewLocals, HasOwnPlaces}
use Rattle.link_image.proofs.Emitted.{bare_emitted, each_emitted}

-- a task has one place for each function that it reaches
own_places : (logging : Logging) (p : CheckedProgram) (allow : Allow) (plans : List TaskPlanValue) (l : MemoryMap) → IsPlan p plans
    → IsLayoutFor logging p allow plans l → All HasOwnPlaces l.tasks
own_places logging p allow plans l planned laid = λ k none inside.
    let t = get_or l.tasks k none in
    let count = laid.tasks.count in
    let plans_count = planned.count in
    let there = slice_get-get_or l.tasks k none inside in
    let task = element p.tasks k (omega (arith, inside, count)) in
    let plan = element plans k (omega (arith, inside, count, plans_count)) in
    let layout = laid.tasks.each k task.0 plan.0 t task.1 plan.1 there in
    λ j r at. ap (λ rs. routine_among rs r.function) layout.routines
    ∙ (routines_stand p task.0.body (end_of t.code)).own j r (ap (λ rs. slice_get rs j) (sym layout.routines) ∙ at)

-- the locals of a whole program stand in registers and in RAM
whole_low : (q : Program) → IsWhole q → HasFewLocals q
whole_low q w = each_local_as (λ n. n < w.locals) (λ n. n < 1016) (λ n low. let room = w.fits.fits in omega (arith, low, room)) q w.low_locals

-- and so do those of what tasks call
few_locals : (fs : List CheckedFunction) (l : MemoryMap) (tasks : List CheckedTask) (ts : List TaskPlace)
    → All (λ (q : TaskPrograms). IsWhole q.own) (lowered_tasks fs l tasks ts)
    → ((k : ℕ) (task : CheckedTask) (t : TaskPlace) → slice_get tasks k ≡ Some task → slice_get ts k ≡ Some t
    → All HasFewLocals (lowered_task fs l t task.body).routines)
    → All TaskHasFewLocals (lowered_tasks fs l tasks ts)
few_locals fs l [] ts whole low = All-nil TaskHasFewLocals
few_locals fs l (task ∷ tasks) [] whole low = All-nil TaskHasFewLocals
few_locals fs l (task ∷ tasks) (t ∷ ts) whole low =
    let q : TaskPrograms = lowered_task fs l t task.body in
    let more = lowered_tasks fs l tasks ts in
    All-cons TaskHasFewLocals q more
    (record { own = whole_low q.own (All-head (λ (q : TaskPrograms). IsWhole q.own) q more whole); routines = low 0 task t refl refl })
    (few_locals fs l tasks ts (All-tail (λ (q : TaskPrograms). IsWhole q.own) q more whole) (λ k u v a b. low (suc k) u v a b))

pub ready : ProgramsAreWhole → (logging : Logging) (text : List ℕ) (p : CheckedProgram) (allow : Allow) (plans : List TaskPlanValue) (l : MemoryMap)
    → IsAcceptedText text p allow → IsRunnable p → IsPlan p plans → IsLayoutFor logging p allow plans l → IsReadyToLink text p allow l
ready whole logging text p allow plans l accepted runnable planned laid =
    let text_is : IsLaidOutText text p allow plans l = record { accepted = accepted; plan = planned; logging = logging; layout = laid } in
    let programs = whole text p allow plans l text_is in
    let names = names_are_names text p accepted.checks in
    let entry = runnable.entry in
    let fits = sources_have_room logging p allow plans l accepted.allowed laid planned.count (privates_are_few text p allow plans l text_is)
    (calls_are_theirs text p allow plans l text_is) in
    let own = own_places logging p allow plans l planned laid in
    let high = fits.high in
    record {
      fits = fits;
      own = own;
      emitted = bare_emitted p.functions l p.tasks l.tasks own
          (each_emitted l.code.address l.tasks (lowered l p) (end_of l.code) laid.rules.code (omega (arith, high)) fits.tasks
          (few_locals p.functions l p.tasks l.tasks programs.0 (routines_are_low text p allow plans l text_is)));
      of_words = programs.1;
      same_tasks = laid.tasks.count;
      same_variables = laid.variables.count;
      names = names;
      source_map = maps_are_of_sources text p allow plans l (record {
        names = names;
        few_shared = runnable.few_shared;
        few_tasks = runnable.few_tasks;
        allowed = accepted.allowed;
        plan = planned;
        logging = logging;
        layout = laid;
      });
      some_task = omega (arith, entry);
    }
