-- The task that an attempt runs, and what it leaves of the readings.
use Rattle.std.proofs.Common.{◌≡◌, ◌<◌, ◌≤◌, ◌+◌, ◌-◌, ◌++◌, ℕ, List, [], map, length, drop, get_or, sym, ap, ◌∙◌, subst, arith, Some, None, All, length-append}
use Rattle.std.specs.Option.{option_map}
use Rattle.std.proofs.lemmas.Option.{slice_get-map, slice_get-get_or}
use Rattle.std.proofs.lemmas.List.{length-map}
use Rattle.std.proofs.lemmas.List.Elements.{All-get_or}
use Rattle.std.proofs.Math.ListN.{get_or-map}
use Rattle.std.proofs.Math.Seq.{drop-append_seam}
use Rattle.task_ast.specs.Paths.{CheckedBlock, CheckedTask}
use Rattle.task_ast.specs.View.{block_view, task_of, program_of}
use Rattle.task_ast.specs.declared.names.VariableName.{VariableName}
use Rattle.task_ast.specs.declared.names.TaskName.{TaskName}
use Rattle.task_ast.specs.declared.names.FunctionName.{FunctionName}
use Rattle.task_ast.specs.declared.Stmt.{Stmt}
use Rattle.task_ast.specs.declared.TaskDeclaration.{TaskDeclaration}
use Rattle.task_ast.specs.declared.Source.{Source}
use Rattle.source_values.specs.declared.scratch.Scratch.{Scratch}
use Rattle.source_values.specs.declared.statements.End.{End}
use Rattle.source_values.specs.declared.statements.End.TheVariants.{GoesOn, ToTask, Returns}
use Rattle.source_values.specs.Values.{Meaning}
use Rattle.source_values.specs.Statements.{Attempt, Outcome, to_task, run_block, meanings, block_emits}
use Rattle.source_values.specs.Runs.{body_of, task_body, without_answers, fresh_attempt, new_locals, Completion, EndsWell, TransitionComes, EmitsFit}
use Rattle.source_values.specs.Running.{IsRunnable}
use Rattle.source_values.specs.View.{FunctionsInFront, meanings_of, counts_of, variables_of, attempt_in, ended, task_of_end}
use Rattle.source_values.proofs.Takes.{KnownTake}
use Rattle.source_values.proofs.Uses.{block_uses}

-- what holds of each task holds of the one that the code reached
pub task_holds : (P : CheckedTask → Type 0) (tasks : List (TaskDeclaration VariableName TaskName FunctionName)) (i : ℕ)
    (t : TaskDeclaration VariableName TaskName FunctionName)
    → i < length tasks → t ≡ get_or tasks i t → All P (map task_of tasks) → P (task_of t)
task_holds P tasks i t h is all =
    let inside : i < length (map task_of tasks) = omega (arith, length-map tasks task_of) in
    subst P (get_or-map task_of tasks i t ∙ ap task_of (sym is)) (All-get_or P (map task_of tasks) i (task_of t) inside all)

-- the code reached the functions of a source and the body of a task
pub record ReachesTask (source : Source VariableName TaskName FunctionName) (functions : FunctionsInFront) (i : ℕ)
    (t : TaskDeclaration VariableName TaskName FunctionName) (body : List (Stmt VariableName TaskName FunctionName)) : Type 0 where
  pub functions_are : functions ≡ source.functions.items
  pub inside : i < length (program_of source).tasks
  pub is : t ≡ get_or source.tasks.items i t
  pub of_task : body ≡ t.body.items

module _ (source : Source VariableName TaskName FunctionName) (functions : FunctionsInFront) (i : ℕ)
    (t : TaskDeclaration VariableName TaskName FunctionName) (body : List (Stmt VariableName TaskName FunctionName))
    (reached : ReachesTask source functions i t body) where
  inside : i < length source.tasks.items
  inside = omega (arith, reached.inside, length-map source.tasks.items task_of)

  -- as the task is run
  pub task_runs : (s : Attempt)
      → run_block (meanings (program_of source)) (task_body (program_of source) i) s ≡ run_block (meanings_of functions) (block_view body) s
  task_runs s =
      let found : task_body (program_of source) i ≡ block_view body =
      ap body_of (slice_get-map task_of source.tasks.items i ∙ ap (option_map task_of) (slice_get-get_or source.tasks.items i t inside))
      ∙ ap (λ t. block_view t.body.items) (sym reached.is) ∙ ap block_view (sym reached.of_task) in
      ap (λ b. run_block (meanings (program_of source)) b s) found ∙ ap (λ fs. run_block (meanings_of fs) (block_view body) s) (sym reached.functions_are)

  -- its words have room
  pub task_emits : IsRunnable (program_of source) → block_emits (counts_of functions) (block_view body) ≤ 256
  task_emits r =
      let fits = task_holds (EmitsFit (program_of source)) source.tasks.items i t inside reached.is r.emits_fit in
      let same = ap (λ b. block_emits (counts_of functions) (block_view b)) reached.of_task in
      let counts = ap (λ fs. block_emits (counts_of fs) (block_view t.body.items)) reached.functions_are in
      omega (arith, fits, same, counts)

  -- it comes to a transition, or is short
  pub task_ends : IsRunnable (program_of source) → (s : Attempt) (o : Outcome) → run_block (meanings_of functions) (block_view body) s ≡ o
      → EndsWell (length (program_of source).tasks) o
  task_ends r s o e =
      let P : Outcome → Type 0 = EndsWell (length (program_of source).tasks) in
      subst P (ap (λ b. run_block (meanings (program_of source)) (block_view b) s) (sym reached.of_task)
      ∙ ap (λ fs. run_block (meanings_of fs) (block_view body) s) (sym reached.functions_are) ∙ e)
      (task_holds (TransitionComes (program_of source)) source.tasks.items i t inside reached.is r.transition_comes s)

-- statements that end well end at a transition
pub not_without_task : (tasks : ℕ) (end : End) (s : Attempt) → EndsWell tasks (ended end s) → None ≡ task_of_end end → ⊥
not_without_task tasks GoesOn s h e = h
not_without_task tasks (ToTask t) s h e = cc
not_without_task tasks (Returns w) s h e = h

pub task_inside : (tasks next : ℕ) (end : End) (s : Attempt) → EndsWell tasks (ended end s) → Some next ≡ task_of_end end → next < tasks
task_inside tasks next GoesOn s h e = absurd h
task_inside tasks next (ToTask t) s h e =
    let same : t ≡ next = cc in
    subst (λ n. n < tasks) same h
task_inside tasks next (Returns w) s h e = absurd h

pub ends_at_task : (next : ℕ) (end : End) (s : Attempt) → Some next ≡ task_of_end end → ended end s ≡ to_task next s
ends_at_task next GoesOn s e = absurd (cc)
ends_at_task next (ToTask t) s e =
    let same : t ≡ next = cc in
    ap (λ n. to_task n s) same
ends_at_task next (Returns w) s e = absurd (cc)

-- words that no statement has changed
pub record IsFresh (s : Scratch) (shared : List (List ℕ)) : Type 0 where
  pub rows : s.shared.rows ≡ shared
  pub locals : s.locals ≡ new_locals
  pub emitted : s.emitted.items ≡ []

-- the attempt that the code makes of them
pub attempt_is : (s : Scratch) (shared : List (List ℕ)) (readings : List ℕ) → IsFresh s shared
    → fresh_attempt shared (without_answers readings) ≡ attempt_in s readings
attempt_is s shared readings begins =
    ap (λ r. fresh_attempt r (without_answers readings)) (sym begins.rows)
    ∙ ap (λ l. record { variables = record { shared = s.shared.rows; locals = l }; emitted = []; left = readings; answers = [] }) (sym begins.locals)
    ∙ ap (λ e. record { variables = variables_of s; emitted = e; left = readings; answers = [] }) (sym begins.emitted)

-- a task leaves the end of its readings
pub record Leaves (readings left : List ℕ) : Type 0 where
  pub fewer : length left ≤ length readings
  pub rest : drop (length readings - length left) readings ≡ left

leaves_end : (readings used left : List ℕ) → readings ≡ used ++ left → Leaves readings left
leaves_end readings used left e =
    let len : length readings ≡ length used + length left = ap length e ∙ length-append used left in
    let count : length readings - length left ≡ length used = omega (arith, len) in
    record { fewer = omega (arith, len); rest = ap (λ n. drop n readings) count ∙ ap (drop (length used)) e ∙ drop-append_seam used left }

pub task_leaves : (known : List Meaning) → KnownTake known → (b : CheckedBlock) (s : Attempt) (t : ℕ) (end : Attempt)
    → run_block known b s ≡ to_task t end → Leaves s.left end.left
task_leaves known k b s t end e =
    let uses = block_uses known k b s (to_task t end) e tt in
    leaves_end s.left uses.used end.left uses.front

pub same_completion : (next : ℕ) {rows rows' : List (List ℕ)} {words words' left left' : List ℕ} → rows ≡ rows' → words ≡ words' → left ≡ left'
    → (let before : Completion = record { next = next; shared = rows; emitted = words; left = left; answers = [] } in Some before)
    ≡ Some (record { next = next; shared = rows'; emitted = words'; left = left'; answers = [] })
same_completion next e f h = cc
