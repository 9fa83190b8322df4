-- An accepted source with its layout is ready to run.
use Rattle.std.proofs.Common.{◌≡◌, ℕ, ◌<◌, refl, sym, ap, ◌∙◌, ◌≤◌, subst, arith, List, Some, length, slice_get}
use Rattle.std.proofs.lemmas.Option.{same_Some}
use Rattle.cost_bound.specs.declared.allowance.Allow.{Allow}
use Rattle.cost_bound.specs.Allowance.{CheckedTask}
use Rattle.cost_bound.specs.Frames.{stack_of}
use Rattle.cost_bound.specs.Summaries.{summaries}
use Rattle.war_analysis.proofs.Interface.{element}
use Rattle.source_values.specs.Runs.{CheckedProgram}
use Rattle.source_values.specs.Running.{IsRunnable}
use Rattle.source_meaning.proofs.Interface.{accepted_texts_run}
use Rattle.war_analysis.specs.PlanValue.{TaskPlanValue}
use Rattle.array_versions.specs.TaskPrograms.{TaskPrograms}
use Rattle.array_versions.specs.Form.{OfWords}
use Rattle.memory_map.specs.declared.runtime.Logging.{Logging}
use Rattle.memory_map.specs.declared.runtime.Logging.TheVariants.{Redo, Undo}
use Rattle.memory_map.specs.declared.runtime.Runtime.{Runtime}
use Rattle.memory_map.specs.MemoryMap.{MemoryMap}
use Rattle.stands_for.proofs.Interface.{each_weaker}
use Rattle.lower.proofs.Interface.{program_at}
use Rattle.layout_facts.specs.Facts.{HasLayout}
use Rattle.layout_facts.proofs.Interface.{places_are_apart, tasks_have_room, privates_are_theirs, privates_are_logged, tasks_match}
use Rattle.whole_programs.specs.Laws.{IsLaidOutText, KeepsToWords}
use Rattle.whole_programs.proofs.Interface.{tasks_are_whole, tasks_keep_their_stacks, privates_are_few, calls_are_theirs}
use Rattle.war_analysis.proofs.Interface.{each_returns}
use Rattle.task_attempts.proofs.Interface.{compiled_laws, stores_below_code, tasks_leave, tasks_list_few}
use Rattle.compiled_model.specs.Parts.{task_program}
use Rattle.privatise.specs.Layouts.{IsLayoutFor}
use Rattle.linked_code.specs.Rooms.{PrivatesAreCounted}
use Rattle.compiled_bounds.proofs.Interface.{tasks_keep_to_the_bound, logged_tasks_keep_to_the_bound, table_covers_needs}
use Rattle.compiled_runs.specs.Program.{stack_low}
use Rattle.compiled_runs.specs.Laws.{RunsBy, CanRun}
use Rattle.compiled_runs.proofs.Interface.{sources_have_room}
use Rattle.compiled_model.specs.Needs.{StoresBelow}
use Rattle.compiled_laws.specs.Ready.{SourcesAreReady}

module _ (text : List ℕ) (p : CheckedProgram) (allow : Allow) (plans : List TaskPlanValue) (l : MemoryMap) (t : IsLaidOutText text p allow plans l) where
  run : IsRunnable p
  run = accepted_texts_run text p allow t.accepted

  laid : HasLayout p allow plans l
  laid = record {
    allowed = t.accepted.allowed;
    plan = t.plan;
    logging = t.logging;
    layout = t.layout;
    few = privates_are_few text p allow plans l t;
    returning = (let c = t.accepted.checks.checks in each_returns p c.named.placed c.paths.returns);
  }

  -- the program of a task is of words, and keeps to the words of the task's stack
  record IsReadyTask (k : ℕ) : Type 0 where
    task : CheckedTask
    at : slice_get p.tasks k ≡ Some task
    keeps : KeepsToWords (stack_of (summaries p) task.body) (task_program p l k)
    words : OfWords (task_program p l k)

  one_task : (k : ℕ) → k < length p.tasks → IsReadyTask k
  one_task k below =
      let task = element p.tasks k below in
      let count = t.layout.tasks.count in
      let own = element l.tasks k (omega (arith, below, count)) in
      let is = ap (λ (q : TaskPrograms). q.own) (sym (program_at p.functions l p.tasks l.tasks k task.0 own.0 task.1 own.1)) in
      record {
        task = task.0;
        at = task.1;
        keeps = subst (KeepsToWords (stack_of (summaries p) task.0.body)) is
            (tasks_keep_their_stacks text p allow plans l t k task.0 own.0 task.1 own.1);
        words = subst OfWords is (tasks_are_whole text p allow plans l t k task.0 own.0 task.1 own.1).1;
      }

  stack_there : (k : ℕ) (below : k < length p.tasks) (task : CheckedTask) → slice_get p.tasks k ≡ Some task
      → stack_low (summaries p) task ≤ (one_task k below).keeps.whole.bounds.floor
  stack_there k below task at =
      let one = one_task k below in
      subst (λ x. stack_low (summaries p) x ≤ one.keeps.whole.bounds.floor) (same_Some one.task task (sym one.at ∙ at)) one.keeps.floor

  few : PrivatesAreCounted p l
  few = privates_are_few text p allow plans l t

  -- a layout for a runtime is of a map that names this
  named : l.runtime.logging ≡ t.logging
  named = ap (λ (r : Runtime). r.logging) t.layout.runtime

  -- as a layout for the runtime that the map names
  layout_for : (logging : Logging) → l.runtime.logging ≡ logging → IsLayoutFor logging p allow plans l
  layout_for logging is = subst (λ g. IsLayoutFor g p allow plans l) (sym named ∙ is) t.layout

  own : (logging : Logging) → l.runtime.logging ≡ logging → RunsBy logging p l
  own Redo is = record {
    privates = privates_are_theirs p allow plans l laid;
    costs = tasks_keep_to_the_bound p allow plans l t.accepted.allowed few (layout_for Redo is);
  }
  own Undo is = record {
    privates = privates_are_logged p allow plans l laid;
    costs = logged_tasks_keep_to_the_bound p allow plans l t.accepted.allowed few (layout_for Undo is);
  }

  code : CanRun p l
  code = record {
    fits = sources_have_room t.logging p allow plans l t.accepted.allowed t.layout t.plan.count
        (λ k task own at own_at. (tasks_match p allow plans l laid k task own (record { is_task = at; is_layout = own_at })).count)
        (calls_are_theirs text p allow plans l t);
    count = t.layout.tasks.count;
    apart = places_are_apart p allow plans l laid;
    room = tasks_have_room p allow plans l laid;
    programs = record { whole = λ k below. (one_task k below).keeps.whole; of_words = λ k below. (one_task k below).words };
    stacks = stack_there;
    leave = tasks_leave text p allow plans l t run;
    own = own l.runtime.logging refl;
  }

pub sources_are_ready : SourcesAreReady
sources_are_ready text p allow plans l t = record {
  model = compiled_laws text p allow plans l t (run text p allow plans l t);
  code = code text p allow plans l t;
  stores = λ s x inputs words settled. each_weaker _ (StoresBelow l l.boot.address) (λ a w h. h.below) _
      (stores_below_code text p allow plans l t (run text p allow plans l t) s x inputs words settled);
  few = λ logs. tasks_list_few text p allow plans l t (run text p allow plans l t) logs;
  needs = table_covers_needs l.runtime.logging p allow plans l t.accepted.allowed (few text p allow plans l t)
      (layout_for text p allow plans l t l.runtime.logging refl);
}
