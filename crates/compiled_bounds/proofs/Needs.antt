-- The table of allowances has the cycles of what each task needs beside its code.
use Rattle.std.proofs.Common.{◌≡◌, ℕ, zero, suc, ◌+◌, ◌≤◌, ◌<◌, max, sym, ap, subst, ⊎_elim, arith, true, List, length, Some, slice_get}
use Rattle.std.proofs.lemmas.Bool.{cases_lt}
use Rattle.std.proofs.lemmas.List.Elements.{All-nil}
use Rattle.machine_effects.specs.Inputs.{Look, Inputs, InputsAreWords, no_inputs}
use Rattle.cost_bound.specs.Summaries.{summaries}
use Rattle.cost_bound.specs.Counts.{emits_of}
use Rattle.crash_rules.specs.Model.{bound, greatest}
use Rattle.crash_rules.proofs.Interface.{below_greatest}
use Rattle.cost_bound.specs.Allowance.{CheckedProgram, CheckedTask, IsAllowed, bound_of, list_of, scalars_of, task_bound, uses_events, versions_of}
use Rattle.cost_bound.specs.declared.allowance.Allow.{Allow}
use Rattle.war_analysis.proofs.Interface.{element}
use Rattle.war_analysis.specs.PlanValue.{TaskPlanValue}
use Rattle.source_values.specs.Runs.{body_of, task_body}
use Rattle.privatise.specs.Layouts.{IsLayout}
use Rattle.linked_code.specs.Rooms.{PrivatesAreCounted}
use Rattle.memory_map.specs.declared.runtime.Logging.{Logging}
use Rattle.memory_map.specs.declared.runtime.Logging.TheVariants.{Redo, Undo}
use Rattle.memory_map.specs.MemoryMap.{MemoryMap, TaskPlace}
use Rattle.memory_map.specs.Spots.{private_words}
use Rattle.memory_map.proofs.Interface.{privates_few}
use Rattle.lower.proofs.Interface.{runs_are_few}
use Rattle.boot_runtime.specs.Entries.{task_entries}
use Rattle.boot_runtime.specs.Listing.{privates_in, start_cycles}
use Rattle.commit_runtime.specs.Listing.{commit_cycles}
use Rattle.commit_runtime.proofs.Interface.{commit_grows}
use Rattle.stands_for.specs.StandsFor.{HoldsWords}
use Rattle.array_versions.specs.Behaviour.{started}
use Rattle.word_code.specs.Code.{code_spent}
use Rattle.undo_runtime.specs.Listing.{start_cycles as logged_start}
use Rattle.compiled_model.specs.Parts.{program_parts, task_program, private_homes, compiled_model}
use Rattle.compiled_model.specs.Needs.{LoggedCostsAreWithin, whole_cycles, logged_cycles}
use Rattle.task_needs.specs.Needs.{privates_of, own_privates, own_entries, own_words, beside_parts, beside_path, need_of}
use Rattle.task_needs.specs.Lists.{pending_under, pending_need, with_needs}
use Rattle.task_needs.proofs.Interface.{privates_count, listed_count, own_cost, pending_cost}
use Rattle.compiled_bounds.specs.Laws.{CostsFor, NeedsKeepToTheBound, TableCoversNeeds}
use Rattle.compiled_bounds.proofs.Bounds.{greater, bound_is_the_sources}
use Rattle.compiled_bounds.proofs.Costs.{tasks_keep_to_the_bound, logged_tasks_keep_to_the_bound}

module _ (p : CheckedProgram) (allow : Allow) (plans : List TaskPlanValue) (l : MemoryMap) (allowed : IsAllowed p allow) (few : PrivatesAreCounted p l)
    (layout : IsLayout p allow plans l) (t : ℕ) (below : t < length p.tasks) where
  -- as many words as the allowance counts
  counted_at : (task : CheckedTask) (own : TaskPlace) → slice_get p.tasks t ≡ Some task → slice_get l.tasks t ≡ Some own
      → private_words (own_privates l t) ≤ scalars_of (summaries p) p.shared (task_body p t)
  counted_at task own at_task at_own =
      let counted = few t task own at_task at_own in
      let body = ap (λ o. scalars_of (summaries p) p.shared (body_of o)) at_task in
      let words = ap (λ o. private_words (privates_of o)) at_own in
      omega (arith, counted, body, words)

  counted : private_words (own_privates l t) ≤ scalars_of (summaries p) p.shared (task_body p t)
  counted =
      let task = element p.tasks t below in
      let count = layout.tasks.count in
      let own = element l.tasks t (omega (arith, below, count)) in
      counted_at task.0 own.0 task.1 own.1

  entries_fit : own_entries p l t ≤ list_of (summaries p) p.shared (task_body p t)
  entries_fit =
      let runs = runs_are_few (own_privates l t) in
      let scalars = privates_few (own_privates l t) in
      let words = counted in
      omega (arith, runs, scalars, words)

  words_fit : own_words p l t ≤ list_of (summaries p) p.shared (task_body p t)
  words_fit = let words = counted in omega (arith, words)

  covered : (fram : ℕ → ℕ) (inputs : Inputs) → HoldsWords fram → InputsAreWords inputs
      → beside_path Redo p l t + code_spent (task_program p l t) (started fram inputs) ≤ (program_parts p l).cost t
  covered fram inputs words are_words =
      let whole : whole_cycles p l t fram inputs ≤ task_bound (summaries p) (uses_events p) (versions_of p) p.shared (task_body p t) =
      (tasks_keep_to_the_bound p allow plans l allowed few layout).within t fram inputs below words are_words in
      let start : (beside_parts Redo p l t).start
      ≡ start_cycles l.runtime.events true l.versions.words (length (privates_in (task_entries l) t)) =
      ap (λ n. start_cycles l.runtime.events true l.versions.words n) (sym (privates_count l t)) in
      let commit : (beside_parts Redo p l t).commit
      ≤ commit_cycles l.runtime.events (list_of (summaries p) p.shared (task_body p t)) (list_of (summaries p) p.shared (task_body p t))
      (emits_of (summaries p) (task_body p t)) =
      commit_grows l.runtime.events (own_entries p l t) (list_of (summaries p) p.shared (task_body p t)) (own_words p l t)
      (list_of (summaries p) p.shared (task_body p t))
      (emits_of (summaries p) (task_body p t)) (emits_of (summaries p) (task_body p t)) entries_fit words_fit (omega arith) in
      omega (arith, whole, start, commit)

-- under undo the same parts are those that the table is known to cover
logged_covered : (p : CheckedProgram) (l : MemoryMap) → LoggedCostsAreWithin p l → (t : ℕ) → t < length p.tasks → (fram : ℕ → ℕ) (inputs : Inputs)
    → HoldsWords fram → InputsAreWords inputs
    → beside_path Undo p l t + code_spent (task_program p l t) (started fram inputs) ≤ (program_parts p l).cost t
logged_covered p l costs t below fram inputs words are_words =
    let whole : logged_cycles p l t fram inputs ≤ task_bound (summaries p) (uses_events p) (versions_of p) p.shared (task_body p t) =
    costs.within t fram inputs below words are_words in
    let start : (beside_parts Undo p l t).start ≡ logged_start l.runtime.events true l.versions.words (length (private_homes l t)) =
    ap (λ n. logged_start l.runtime.events true l.versions.words n) (sym (listed_count l t)) in
    omega (arith, whole, start)

pub table_covers_needs : TableCoversNeeds
table_covers_needs Redo p allow plans l allowed few layout = record {
  within = λ t fram inputs below words are_words. covered p allow plans l allowed few layout t below fram inputs words are_words;
}
table_covers_needs Undo p allow plans l allowed few layout = record {
  within = λ t fram inputs below words are_words.
      logged_covered p l (logged_tasks_keep_to_the_bound p allow plans l allowed few layout) t below fram inputs words are_words;
}

-- ---- their greatest

all_within : (cost : ℕ → ℕ) (most n : ℕ) → ((k : ℕ) → k < n → cost k ≤ most) → greatest cost n ≤ most
all_within cost most zero h = omega arith
all_within cost most (suc n) h =
    let rest = all_within cost most n (λ k below. h k (omega (arith, below))) in
    let last = h n (omega arith) in
    let is : greatest cost (suc n) ≡ max (greatest cost n) (cost n) = greater (greatest cost n) (cost n) in
    omega (arith, rest, last, is)

-- a commit that was pending at the start
pending_within : (logging : Logging) (p : CheckedProgram) (l : MemoryMap) → 0 < length p.tasks → CostsFor logging p l
    → pending_under logging l ≤ bound (compiled_model p l)
pending_within Redo p l some costs = costs.commits 0 some
pending_within Undo p l some costs = costs.commits 0 some

pub needs_keep_to_the_bound : NeedsKeepToTheBound
needs_keep_to_the_bound p l some costs needs =
    let n = with_needs p l (compiled_model p l) in
    let most = bound (compiled_model p l) in
    let is : most ≡ bound_of p = bound_is_the_sources p l in
    let pending : pending_need l ≤ most = pending_within l.runtime.logging p l some costs in
    let need : (t : ℕ) → t < length p.tasks → need_of p l t ≤ most = λ t below.
    let beside = needs.within t (λ a. 0) no_inputs below (λ a. omega arith) (record {
      readings = All-nil (λ w. w < 0x10000);
      looks = All-nil (λ (look : Look). (n : ℕ) → look n < 0x10000);
    }) in
    let own = below_greatest (program_parts p l).cost (length p.tasks) t below in
    omega (arith, beside, own) in
    let each : (t : ℕ) → t < suc (length p.tasks) → n.task_cost t ≤ most = λ t below.
    ⊎_elim {C = n.task_cost t ≤ most}
    (λ task. subst (λ c. c ≤ most) (own_cost p l (compiled_model p l) t task) (need t task))
    (λ none. subst (λ c. c ≤ most) (pending_cost p l (compiled_model p l) t none) pending)
    (cases_lt t (length p.tasks)) in
    let all = all_within n.task_cost most (suc (length p.tasks)) each in
    omega (arith, all, is)
