-- Each task keeps to its part of the bound.
use Rattle.std.proofs.Common.{◌≡◌, ℕ, ◌+◌, ◌*◌, ◌≤◌, sym, ap, ◌∙◌, subst, arith, Bool, List, [], length, Some, true}
use Rattle.std.proofs.lemmas.Option.{slice_get-map, get_or_from_slice_get}
use Rattle.std.specs.Option.{option_map}
use Rattle.std.specs.Prelude.{slice_get}
use Rattle.machine_effects.specs.Inputs.{Inputs}
use Rattle.cost_bound.specs.Summaries.{summaries}
use Rattle.cost_bound.specs.Table.{cycles_column, block_price}
use Rattle.cost_bound.specs.Counts.{emits_of}
use Rattle.cost_bound.specs.Allowance.{CheckedProgram, CheckedTask, IsAllowed, list_of, scalars_of, task_bound, uses_events, versions_of}
use Rattle.cost_bound.specs.declared.allowance.Allow.{Allow}
use Rattle.war_analysis.proofs.Interface.{element}
use Rattle.source_values.specs.Runs.{body_of, task_body}
use Rattle.war_analysis.specs.PlanValue.{TaskPlanValue}
use Rattle.linked_code.specs.Rooms.{PrivatesAreCounted}
use Rattle.array_versions.specs.Program.{Program}
use Rattle.array_versions.specs.Behaviour.{WordState, End, GoesOn, Jumps, Gives, Short, Strays, Broken, behaviour, started}
use Rattle.array_versions.specs.Cost.{spent}
use Rattle.word_code.specs.Code.{stack_cycles}
use Rattle.privatise.specs.Layouts.{IsLayoutFor}
use Rattle.lower.proofs.Interface.{program_at, blocks_keep_to_cycles, routines_keep}
use Rattle.runtime_effects.proofs.Interface.{scalar_pairs_count}
use Rattle.memory_map.proofs.Interface.{privates_few}
use Rattle.boot_runtime.specs.Entries.{entry_of, task_entries}
use Rattle.boot_runtime.specs.Listing.{privates_in, entry_at, start_cycles}
use Rattle.lower.specs.Seen.{map_seen, task_seen}
use Rattle.lower.proofs.Interface.{seen_count}
use Rattle.lower.specs.Lowered.{lowered_task, routine_bodies, task_places}
use Rattle.lower.specs.Sizes.{entry_cycles}
use Rattle.commit_runtime.specs.Listing.{commit_cycles}
use Rattle.runtime_code.proofs.Interface.{if_any_most, with_events_most}
use Rattle.undo_runtime.specs.Entries.{task_of, logged_tasks}
use Rattle.undo_runtime.specs.Listing.{task_at, recovery_cycles, start_cycles as logged_start, commit_cycles as logged_commit}
use Rattle.undo_runtime.proofs.Interface.{homes_count}
use Rattle.compiled_model.specs.Parts.{task_program, private_homes}
use Rattle.compiled_model.specs.Needs.{boot_cycles, whole_cycles, logged_cycles}
use Rattle.compiled_bounds.specs.Laws.{TasksKeepToTheBound, LoggedTasksKeepToTheBound}
use Rattle.memory_map.specs.declared.runtime.Logging.{Logging}
use Rattle.memory_map.specs.declared.runtime.Logging.TheVariants.{Redo, Undo}
use Rattle.memory_map.specs.MemoryMap.{MemoryMap, TaskPlace, with_events}
use Rattle.memory_map.specs.Spots.{places_of, private_words}
use Rattle.compiled_bounds.proofs.Bounds.{bound_is_the_sources}
use Rattle.compiled_bounds.proofs.Commits.{commit_within_bound, logged_commit_within_bound}

-- what the entries cost at most
entries_cost : (l : MemoryMap) (layout : TaskPlace) (e : End) → entry_cycles (places_of l layout) e ≤ 26 * length layout.privates
entries_cost l layout (GoesOn s) = omega arith
entries_cost l layout (Jumps to s) = omega arith
entries_cost l layout (Gives v s) = omega arith
entries_cost l layout Short = omega arith
entries_cost l layout Strays = omega arith
entries_cost l layout Broken = omega arith

-- a boot, a start with the clearing of versions and the copies of private words, the place of the stack, the body, the entries, and the commit
all_within : (events : Bool) (v1 v2 privates scalars body price list emits : ℕ) → v1 ≡ v2 → privates ≤ scalars → body ≤ price + 26 * privates
    → with_events events 3 + 9 + start_cycles events true v1 privates + (stack_cycles + body) + commit_cycles events list list emits
    ≤ 400 + 12 * v2 + 72 * scalars + price + 40 * list + 40 * emits
all_within events v1 v2 privates scalars body price list emits v e b =
    let boot = with_events_most events 3 in let start = with_events_most events 4 in let commit = with_events_most events 6 in
    let clears = if_any_most v1 2 in let copies = if_any_most privates 3 in let lists = if_any_most list 2 in let sends = if_any_most emits 2 in
    omega (arith, v, e, b, clears, copies, lists, sends, boot, start, commit)

-- under undo a boot that puts back a list, a start with the clearing that lists private words, the place of the stack, the body, and the commit
all_logged : (events : Bool) (v1 v2 privates scalars body price list emits : ℕ) → v1 ≡ v2 → privates ≤ scalars → body ≤ price + 26 * privates
    → with_events events 3 + 6 + recovery_cycles list + logged_start events true v1 privates + (stack_cycles + body) + logged_commit events emits
    ≤ 400 + 12 * v2 + 72 * scalars + price + 40 * list + 40 * emits
all_logged events v1 v2 privates scalars body price list emits v e b =
    let boot = with_events_most events 3 in let start = with_events_most events 4 in let commit = with_events_most events 6 in
    let clears = if_any_most v1 2 in let logs = if_any_most privates 3 in let lists = if_any_most list 2 in let sends = if_any_most emits 2 in
    omega (arith, v, e, b, clears, logs, lists, sends, boot, start, commit)

module _ (logging : Logging) (p : CheckedProgram) (allow : Allow) (plans : List TaskPlanValue) (l : MemoryMap) (allowed : IsAllowed p allow)
    (few : PrivatesAreCounted p l) (layout : IsLayoutFor logging p allow plans l) (t : ℕ) (fram : ℕ → ℕ) (inputs : Inputs) (task : CheckedTask)
    (own : TaskPlace)
    (at_task : slice_get p.tasks t ≡ Some task) (at_own : slice_get l.tasks t ≡ Some own) where
  body_is : task_body p t ≡ task.body
  body_is = ap body_of at_task

  program_is : task_program p l t ≡ (lowered_task p.functions l own task.body).own
  program_is = ap (λ q. q.own) (program_at p.functions l p.tasks l.tasks t task own at_task at_own)

  mine : entry_at (task_entries l) t ≡ entry_of own
  mine =
      get_or_from_slice_get (task_entries l) t (entry_of own) (record { privates = []; code = 0 })
      (slice_get-map entry_of l.tasks t ∙ ap (option_map entry_of) at_own)

  own_privates : length (privates_in (task_entries l) t) ≡ private_words own.privates
  own_privates = ap (λ e. length e.privates) mine ∙ scalar_pairs_count own.privates

  privates_are : length (privates_in (task_entries l) t) ≤ scalars_of (summaries p) p.shared (task_body p t)
  privates_are =
      let counted = few t task own at_task at_own in
      let mine = own_privates in
      let same = ap (scalars_of (summaries p) p.shared) body_is in
      omega (arith, counted, mine, same)

  body_costs : spent (task_program p l t) (started fram inputs)
      ≤ block_price (summaries p) cycles_column (task_body p t) + 26 * length (privates_in (task_entries l) t)
  body_costs =
      let w : WordState = started fram inputs in
      let q : Program = (lowered_task p.functions l own task.body).own in
      let seen = task_seen l.runtime.logging own in
      let places = task_places p.functions l own task.body in
      let cheap = routines_keep places p.functions layout.placed.functions in
      let a = blocks_keep_to_cycles (summaries p) (routine_bodies places p.functions) cheap places task.body w in
      let b = entries_cost (map_seen p.functions task.body l) seen (behaviour q w).end in
      let no_more = seen_count l.runtime.logging own in
      let c : spent (task_program p l t) w ≡ spent q w = ap (λ y. spent y w) program_is in
      let d : block_price (summaries p) cycles_column (task_body p t) ≡ block_price (summaries p) cycles_column task.body =
      ap (block_price (summaries p) cycles_column) body_is in
      let e : length (privates_in (task_entries l) t) ≡ private_words own.privates = own_privates in
      let f = privates_few own.privates in
      omega (arith, a, b, no_more, c, d, e, f)

  within : whole_cycles p l t fram inputs ≤ task_bound (summaries p) (uses_events p) (versions_of p) p.shared (task_body p t)
  within =
      let most = all_within l.runtime.events l.versions.words (versions_of p) (length (privates_in (task_entries l) t))
      (scalars_of (summaries p) p.shared (task_body p t))
      (spent (task_program p l t) (started fram inputs)) (block_price (summaries p) cycles_column (task_body p t))
      (list_of (summaries p) p.shared (task_body p t)) (emits_of (summaries p) (task_body p t)) (layout.versions ∙ allowed.versions) privates_are body_costs in
      omega (arith, most)

  -- as many words are listed as private scalars have
  logged_mine : task_at (logged_tasks l) t ≡ task_of own
  logged_mine =
      get_or_from_slice_get (logged_tasks l) t (task_of own) (record { privates = []; code = 0 })
      (slice_get-map task_of l.tasks t ∙ ap (option_map task_of) at_own)

  same_privates : length (private_homes l t) ≡ length (privates_in (task_entries l) t)
  same_privates = ap (λ e. length e.privates) logged_mine ∙ homes_count own.privates ∙ sym own_privates

  logged_within : logged_cycles p l t fram inputs ≤ task_bound (summaries p) (uses_events p) (versions_of p) p.shared (task_body p t)
  logged_within =
      let same = same_privates in let few = privates_are in let body = body_costs in
      let most = all_logged l.runtime.events l.versions.words (versions_of p) (length (private_homes l t)) (scalars_of (summaries p) p.shared (task_body p t))
      (spent (task_program p l t) (started fram inputs)) (block_price (summaries p) cycles_column (task_body p t))
      (list_of (summaries p) p.shared (task_body p t)) (emits_of (summaries p) (task_body p t)) (layout.versions ∙ allowed.versions) (omega (arith, same, few))
      (omega (arith, same, body)) in
      omega (arith, most)

pub logged_tasks_keep_to_the_bound : LoggedTasksKeepToTheBound
logged_tasks_keep_to_the_bound p allow plans l allowed few layout = record {
  within = λ t fram inputs below words are_words.
      let task = element p.tasks t below in
      let count = layout.tasks.count in
      let own = element l.tasks t (omega (arith, below, count)) in
      logged_within Undo p allow plans l allowed few layout t fram inputs task.0 own.0 task.1 own.1;
  commits = λ t below. subst (λ n. boot_cycles l + logged_commit l.runtime.events l.emits.words ≤ n) (sym (bound_is_the_sources p l))
      (logged_commit_within_bound p l.runtime.events l.emits.words (omega (arith, below)) (layout.emits ∙ allowed.emits));
}

pub tasks_keep_to_the_bound : TasksKeepToTheBound
tasks_keep_to_the_bound p allow plans l allowed few layout = record {
  within = λ t fram inputs below words are_words.
      let task = element p.tasks t below in
      let count = layout.tasks.count in
      let own = element l.tasks t (omega (arith, below, count)) in
      within Redo p allow plans l allowed few layout t fram inputs task.0 own.0 task.1 own.1;
  commits = λ t below. subst (λ n. boot_cycles l + commit_cycles l.runtime.events l.entries l.entries l.emits.words ≤ n) (sym (bound_is_the_sources p l))
      (commit_within_bound p l.runtime.events l.entries l.emits.words (omega (arith, below)) (layout.list ∙ allowed.list)
      (layout.emits ∙ allowed.emits));
}
