-- What one task of an accepted source needs, from what its table and its layout say.
use Rattle.std.proofs.Common.{◌≡◌, ◌∙◌, ℕ, zero, suc, ◌+◌, ◌-◌, ◌^◌, ◌<◌, ◌≤◌}
use Rattle.std.proofs.Common.{◌++◌, ◌∷◌, [], min, List, length, map, drop, get_or, add-one}
use Rattle.std.proofs.Common.{Some, append_assoc, append-nil, refl, sym, ap, subst, arith}
use Rattle.std.proofs.lemmas.List.{drop_all}
use Rattle.std.proofs.Math.ListN.{get_or-map}
use Rattle.std.specs.Prelude.{slice_get}
use Rattle.std.proofs.lemmas.Option.{get_or_from_slice_get}
use Rattle.task_ast.specs.declared.TaskDeclaration.{TaskDeclaration}
use Rattle.task_ast.specs.declared.names.VariableName.{VariableName}
use Rattle.task_ast.specs.declared.names.FunctionName.{FunctionName}
use Rattle.task_ast.specs.declared.names.TaskName.{TaskName}
use Rattle.task_ast.specs.View.{block_view, task_of}
use Rattle.task_ast.specs.Paths.{CheckedFunction}
use Rattle.cost_bound.specs.Summaries.{summaries}
use Rattle.cost_bound.specs.declared.allowance.Allow.{Allow}
use Rattle.cost_bound.specs.Allowance.{CheckedTask, scalars_of, task_bound, task_words, uses_events, versions_of}
use Rattle.code_paths.specs.Paths.{capped}
use Rattle.source_values.specs.Runs.{CheckedProgram}
use Rattle.war_analysis.specs.PlanValue.{TaskPlanValue}
use Rattle.war_analysis.specs.Plans.{IsPlan}
use Rattle.war_analysis.specs.Laws.{OnePlan}
use Rattle.privatise.specs.Layouts.{IsLayoutFor, IsLayout}
use Rattle.privatise.specs.Laws.{OneLayoutFor, OneLayout, LayoutsAreLogged}
use Rattle.memory_map.specs.declared.runtime.Logging.TheVariants.{Undo}
use Rattle.war_analysis.proofs.Interface.{element}
use Rattle.memory_map.specs.MemoryMap.{MemoryMap, TaskPlace, logged_map}
use Rattle.memory_map.specs.Spots.{private_words}
use Rattle.lower.specs.Lowered.{bare_tasks, lowered_block, routine_bodies, task_places}
use Rattle.lower.proofs.Interface.{seen_words, blocks_keep_to_words, routines_keep}
use Rattle.whole_programs.specs.Laws.{IsLaidOutText}
use Rattle.whole_programs.proofs.Interface.{privates_are_few}
use Rattle.dearest_ways.proofs.Interface.{program_few}
use Rattle.condition_lines.specs.Conditions.{block_conditions, block_ifs}
use Rattle.need_lines.specs.Rows.{NeedRow}
use Rattle.need_lines.specs.declared.needs.UndoNeed.{UndoNeed}
use Rattle.source_needs.specs.Needs.{AreNeedsOf, AreUndoNeeds, need_row, need_rows, rows_from, ways_gone}
use Rattle.source_needs.proofs.Conditions.{block_few}
use Rattle.source_needs.proofs.Tables.{at_most_greatest, at_most_total}

-- what holds of a task of a source with its layout
pub record TaskHolds (text : List ℕ) (p : CheckedProgram) (allow : Allow) (l : MemoryMap) (k : ℕ) : Type 0 where
  pub task : CheckedTask
  pub place : TaskPlace
  pub there : slice_get p.tasks k ≡ Some task
  pub placed : slice_get l.tasks k ≡ Some place
  pub events : l.runtime.events ≡ uses_events p
  pub versions : allow.versions ≡ versions_of p
  pub cleared : l.versions.words ≡ allow.versions
  pub bound : task_bound (summaries p) (uses_events p) (versions_of p) p.shared task.body < 2 ^ 32
  pub words : task_words (summaries p) p.shared task.body ≤ 22000
  pub privates : private_words place.privates ≤ scalars_of (summaries p) p.shared task.body
  pub conditions : block_conditions task.body < 2 ^ 32

pub task_holds : (text : List ℕ) (p : CheckedProgram) (allow : Allow) (plans : List TaskPlanValue) (l : MemoryMap) → IsLaidOutText text p allow plans l
    → (k : ℕ) → k < length p.tasks → TaskHolds text p allow l k
task_holds text p allow plans l laid k inside =
    let t = element p.tasks k inside in
    let count = laid.layout.tasks.count in
    let place = element l.tasks k (omega (arith, inside, count)) in
    let privates = privates_are_few text p allow plans l laid k t.0 place.0 t.1 place.1 in
    let allowed = laid.accepted.allowed in
    let bound = at_most_greatest (task_bound (summaries p) (uses_events p) (versions_of p) p.shared) p.tasks k t.0 t.1 in
    let words = at_most_total (task_words (summaries p) p.shared) p.tasks k t.0 t.1 in
    let no_more = seen_words l.runtime.logging place.0 in
    let places = task_places p.functions l place.0 t.0.body in
    let bodies = routine_bodies places p.functions in
    let code = blocks_keep_to_words (summaries p) bodies (routines_keep places p.functions laid.layout.placed.functions) places
    (scalars_of (summaries p) p.shared t.0.body) t.0.body (omega (arith, privates, no_more)) in
    let small : task_words (summaries p) p.shared t.0.body ≤ 22000 = omega (arith, words, allowed.within_size) in
    let conditions = block_few places bodies t.0.body in
    let choices = program_few (lowered_block places bodies t.0.body) in
    record {
      task = t.0;
      place = place.0;
      there = t.1;
      placed = place.1;
      events = ap (λ r. r.events) laid.layout.runtime;
      versions = allowed.versions;
      cleared = laid.layout.versions;
      bound = omega (arith, bound, allowed.within_bound);
      words = small;
      privates = privates;
      conditions = omega (arith, conditions, choices, code, small);
    }

-- ways that are cut at 2^64 - 1 are cut by a bound of 32 bits
pub path_cut : (most m bound beside : ℕ) → bound < 2 ^ 32 → most ≡ capped m → min most (bound - beside) ≡ min m (bound - beside)
path_cut most m bound beside small e = omega (arith, small, e)

-- the row of one task more
pub row_more : (text : List ℕ) (p : CheckedProgram) (l : MemoryMap) (lines left : List ℕ) (i : ℕ) (task : CheckedTask) (rows next : List NeedRow)
    → slice_get p.tasks i ≡ Some task → left ≡ drop (length (block_ifs 0 task.body)) lines
    → next ≡ rows ++ need_row text p l i (ways_gone lines p l i task) task ∷ []
    → next ++ rows_from text p l left (i + 1) (drop (i + 1) p.tasks) ≡ rows ++ rows_from text p l lines i (drop i p.tasks)
row_more text p l lines left i task rows next there behind e =
    let row = need_row text p l i (ways_gone lines p l i task) task in
    ap (λ x. x ++ rows_from text p l left (i + 1) (drop (i + 1) p.tasks)) e
    ∙ append_assoc rows (row ∷ []) (rows_from text p l left (i + 1) (drop (i + 1) p.tasks))
    ∙ ap (λ j. rows ++ row ∷ rows_from text p l left j (drop j p.tasks)) (add-one i)
    ∙ ap (λ ls. rows ++ row ∷ rows_from text p l ls (suc i) (drop (suc i) p.tasks)) behind
    ∙ ap (λ ts. rows ++ rows_from text p l lines i ts) (sym (drop_there p.tasks i task there))
  where
    drop_there : (ts : List CheckedTask) (k : ℕ) (t : CheckedTask) → slice_get ts k ≡ Some t → drop k ts ≡ t ∷ drop (suc k) ts
    drop_there [] k t e = cc
    drop_there (u ∷ ts) zero t e = let same : u ≡ t = cc in ap (λ x. x ∷ ts) same
    drop_there (u ∷ ts) (suc k) t e = drop_there ts k t e

-- and behind the last one
pub rows_end : (text : List ℕ) (p : CheckedProgram) (l : MemoryMap) (lines : List ℕ) (i : ℕ) (rows : List NeedRow) → length p.tasks ≤ i
    → rows ++ rows_from text p l lines i (drop i p.tasks) ≡ rows
rows_end text p l lines i rows h = ap (λ ts. rows ++ rows_from text p l lines i ts) (drop_all i p.tasks h) ∙ append-nil rows

-- as many programs as tasks
pub as_many : (fs : List CheckedFunction) (l : MemoryMap) (tasks : List CheckedTask) (ts : List TaskPlace) → length ts ≡ length tasks
    → length (bare_tasks fs l tasks ts) ≡ length tasks
as_many fs l [] ts e = refl
as_many fs l (task ∷ tasks) [] e = absurd (omega (arith, e))
as_many fs l (task ∷ tasks) (t ∷ ts) e = ap suc (as_many fs l tasks ts (omega (arith, e)))

-- a task as it is declared, where it stands
pub task_at : (ts : List (TaskDeclaration VariableName TaskName FunctionName)) (k : ℕ) (t : TaskDeclaration VariableName TaskName FunctionName)
    (task : CheckedTask)
    → slice_get (map task_of ts) k ≡ Some task
    → t ≡ get_or ts k t → (t.name ≡ task.name) × (block_view t.body.items ≡ task.body)
task_at ts k t task there is =
    let a : task_of t ≡ task = ap task_of is ∙ sym (get_or-map task_of ts k t) ∙ get_or_from_slice_get (map task_of ts) k task (task_of t) there in
    (ap (λ u. u.name) a, ap (λ u. u.body) a)

-- the needs of a source by one layout are its needs, since it has no other, nor one in place with other places
pub needs_are : (text : List ℕ) (p : CheckedProgram) (allow : Allow) (plans : List TaskPlanValue) (l : MemoryMap) (rows : List NeedRow) → OnePlan p
    → OneLayout p allow → OneLayoutFor Undo p allow → LayoutsAreLogged → IsPlan p plans → IsLayout p allow plans l → rows ≡ need_rows text p l
    → AreNeedsOf text p allow rows
needs_are text p allow plans l rows one_plan one_layout one_logged logged planned laid is = record {
  plans = plans;
  layout = l;
  is_plan = planned;
  is_layout = laid;
  only = λ others m is_plan is_layout.
      let P : List TaskPlanValue → Type 0 = λ ps. IsLayout p allow ps m in
      one_layout plans m l planned (subst P (one_plan others plans is_plan planned) is_layout) laid;
  only_in_place = λ others m is_plan is_layout.
      let P : List TaskPlanValue → Type 0 = λ ps. IsLayoutFor Undo p allow ps m in
      one_logged plans m (logged_map l) planned (subst P (one_plan others plans is_plan planned) is_layout) (logged p allow plans l laid);
  rows_are = is;
}

-- ---- in place

-- what is needed in place by one layout is by the other
pub needs_by_layout : (p : CheckedProgram) (allow : Allow) (plans : List TaskPlanValue) (l : MemoryMap) (needs : List UndoNeed) → OneLayout p allow
    → IsPlan p plans → IsLayout p allow plans l → AreUndoNeeds p (logged_map l) needs
    → (m : MemoryMap) → IsLayout p allow plans m → AreUndoNeeds p (logged_map m) needs
needs_by_layout p allow plans l needs one planned laid are m is =
    subst (λ k. AreUndoNeeds p (logged_map k) needs) (one plans l m planned laid is) are
