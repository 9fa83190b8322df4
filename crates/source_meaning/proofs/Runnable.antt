-- An accepted source can be run.
use Rattle.std.proofs.Common.{◌≡◌, ◌+◌, ℕ, zero, suc, true, false, nat_lt, List, [], ◌∷◌, length, map, take, refl, sym, subst}
use Rattle.std.proofs.Common.{inl, inr, Some, All, ltb-true, arith, slice_get}
use Rattle.std.proofs.lemmas.Option.{slice_get_within}
use Rattle.std.proofs.lemmas.Bool.{and_parts}
use Rattle.std.proofs.lemmas.List.Elements.{All-nil, All-cons, All-head, All-tail}
use Rattle.source_values.specs.alp_text.declared.lines.Span.{Span}
use Rattle.task_ast.specs.Calls.{BlockCallsBelow, FunctionsCallBelow}
use Rattle.task_ast.specs.Paths.{CheckedProgram, CheckedTask, CheckedFunction, CheckedBlock, Access, BlockPath}
use Rattle.task_ast.specs.Paths as path
use Rattle.cost_bound.specs.path_sums.Reaches.{at_once, ReachesEnd}
use Rattle.cost_bound.specs.path_checks.Firsts.{SomeFunction, SomeTask}
use Rattle.cost_bound.specs.path_checks.Ends.{OpenAt}
use Rattle.task_check.specs.LookedUp.{task_targets}
use Rattle.task_check.specs.Placed.{block_ends}
use Rattle.task_check.proofs.Interface.{few_shared, few_functions, few_tasks, targets_numbered}
use Rattle.cost_bound.specs.Summaries.{summaries}
use Rattle.cost_bound.specs.Allowance.{FewEmits}
use Rattle.source_values.specs.Statements.{Outcome, goes_on, to_task, returns, short, run_block, meanings}
use Rattle.source_values.specs.Runs.{EndsWell, TransitionComes, EndsReturning, ReturnComes, EmitsFit}
use Rattle.source_values.specs.Running.{IsRunnable}
use Rattle.source_meaning.specs.Acceptance.{Checks}
use Rattle.source_meaning.specs.Laws.{AcceptedTextsRun}
use Rattle.source_meaning.proofs.Emits.{few_emits}
use Rattle.source_meaning.proofs.Paths.{OnPath, block_path}
use Rattle.source_meaning.proofs.Ends.{EndsAs, block_ends_so}
use Rattle.source_meaning.proofs.Targets.{below, IsTaskTarget, TaskMay, NoTarget, FunctionMay, block_in_task, block_in_function, functions_rest}

-- ---- tasks

ends_well : (k : ℕ) (paths : List Access → Type 0) → ((xs : List Access) → paths xs → ⊥) → (o : Outcome) → OnPath paths o → EndsAs (IsTaskTarget k) ⊥ o
    → EndsWell k o
ends_well k paths none (goes_on s) p h = none p.0 p.1
ends_well k paths none (to_task t s) p h = h
ends_well k paths none (returns w s) p h = h
ends_well k paths none short p h = tt

-- the tasks, and what stands behind them
record Comes (program : CheckedProgram) (tasks : List CheckedTask) (more : List ℕ) : Type 0 where
  comes : All (TransitionComes program) tasks
  rest : below (length program.tasks) more ≡ true

module _ (program : CheckedProgram) where
  -- no path of a body reaches its end
  abbrev IsClosed : CheckedBlock → Type 0
  IsClosed b = ReachesEnd program.functions b → ⊥

  -- how a task's body ends
  body_ends_well : (task : CheckedTask) → IsClosed task.body → BlockCallsBelow (length program.functions) task.body
      → TaskMay (length program.tasks) task.body → TransitionComes program task
  body_ends_well task none calls may s =
      let k = length program.tasks in
      ends_well k (λ xs. BlockPath (map at_once program.functions) task.body xs path.goes_on) (λ xs p. none (xs, p))
      (run_block (meanings program) task.body s)
      (block_path program.functions (length program.functions) (omega arith) (meanings program) task.body calls s)
      (block_ends_so (meanings program) (IsTaskTarget k) ⊥ task.body may s)

  tasks_come : (tasks : List CheckedTask) (more : List ℕ)
      → ((s : Span) → SomeTask tasks (λ task. OpenAt program.functions task.name task.body s) → ⊥)
      → All (λ task. BlockCallsBelow (length program.functions) task.body) tasks → All (λ task. block_ends true task.body ≡ true) tasks
      → below (length program.tasks) (task_targets tasks more) ≡ true → Comes program tasks more
  tasks_come [] more none calls ends h = record { comes = All-nil (TransitionComes program); rest = h }
  tasks_come (task ∷ others) more none calls ends h =
      let Calls : CheckedTask → Type 0 = λ task. BlockCallsBelow (length program.functions) task.body in
      let Ends : CheckedTask → Type 0 = λ task. block_ends true task.body ≡ true in
      let closed : IsClosed task.body = λ reaches. none task.name (inl (refl, reaches)) in
      let here = block_in_task (length program.tasks) task.body (task_targets others more) (All-head Ends task others ends) h in
      let behind =
      tasks_come others more (λ s o. none s (inr o)) (All-tail Calls task others calls) (All-tail Ends task others ends) here.rest in
      record {
        comes = All-cons (TransitionComes program) task others (body_ends_well task closed (All-head Calls task others calls) here.may) behind.comes;
        rest = behind.rest;
      }

  emits_fit : (tasks : List CheckedTask) → All (FewEmits (summaries program)) tasks → All (EmitsFit program) tasks
  emits_fit [] h = All-nil (EmitsFit program)
  emits_fit (task ∷ others) h =
      All-cons (EmitsFit program) task others (few_emits program task.body (All-head (FewEmits (summaries program)) task others h))
      (emits_fit others (All-tail (FewEmits (summaries program)) task others h))

-- ---- functions

ends_returning : (paths : List Access → Type 0) → ((xs : List Access) → paths xs → ⊥) → (o : Outcome) → OnPath paths o → EndsAs NoTarget (Unit {0}) o
    → EndsReturning o
ends_returning paths none (goes_on s) p h = none p.0 p.1
ends_returning paths none (to_task t s) p h = h
ends_returning paths none (returns w s) p h = tt
ends_returning paths none short p h = tt

-- what holds of each holds of the one with a number
at : {A : Type 0} (P : A → Type 0) (xs : List A) (k : ℕ) (x : A) → All P xs → slice_get xs k ≡ Some x → P x
at P [] k x h e = absurd (cc)
at P (y ∷ xs) zero x h e = let same : y ≡ x = cc in subst P same (All-head P y xs h)
at P (y ∷ xs) (suc k) x h e = at P xs k x (All-tail P y xs h) e

some_at : (P : CheckedFunction → Type 0) (fs : List CheckedFunction) (k : ℕ) (f : CheckedFunction) → slice_get fs k ≡ Some f → P f → SomeFunction fs P
some_at P [] k f e p = absurd (cc)
some_at P (x ∷ fs) zero f e p = let same : x ≡ f = cc in inl (subst P (sym same) p)
some_at P (x ∷ fs) (suc k) f e p = inr (some_at P fs k f e p)

-- a function calls those in front of it
calls_at : (n : ℕ) (fs : List CheckedFunction) (k m : ℕ) (f : CheckedFunction) → FunctionsCallBelow n fs → slice_get fs k ≡ Some f → m ≡ n + k
    → BlockCallsBelow m f.body
calls_at n [] k m f calls e is = absurd (cc)
calls_at n (x ∷ fs) zero m f calls e is =
    let same : x ≡ f = cc in
    let here : m ≡ n = omega (arith, is) in
    subst (λ (g : CheckedFunction). BlockCallsBelow m g.body) same (subst (λ i. BlockCallsBelow i x.body) (sym here) calls.0)
calls_at n (x ∷ fs) (suc k) m f calls e is = calls_at (n + 1) fs k m f calls.1 e (omega (arith, is))

-- how a function's body ends
return_comes : (text : List ℕ) (program : CheckedProgram) → Checks text program → (k : ℕ) → ReturnComes program k
return_comes text program checks k f e s =
    let functions = program.functions in
    let placed = checks.checks.named.placed in
    let within = slice_get_within functions k f e in
    let calls = calls_at 0 functions k k f placed.calls.functions e (omega arith) in
    let known = take k (meanings program) in
    let may : FunctionMay f.body = block_in_function f.body (at (λ g. block_ends false g.body ≡ true) functions k f placed.functions e) in
    let closed : (xs : List Access) → BlockPath (map at_once functions) f.body xs path.goes_on → ⊥ =
    λ xs p. checks.checks.paths.returns f.name (some_at (λ g. OpenAt functions g.name g.body f.name) functions k f e (refl, (xs, p))) in
    ends_returning (λ xs. BlockPath (map at_once functions) f.body xs path.goes_on) closed (run_block known f.body s)
    (block_path functions k (omega (arith, within)) known f.body calls s) (block_ends_so known NoTarget (Unit {0}) f.body may s)

-- what no check refuses can be run where it emits few words
pub checked_runnable : (text : List ℕ) (program : CheckedProgram) → Checks text program → All (FewEmits (summaries program)) program.tasks
    → IsRunnable program
checked_runnable text program checks emits =
    let clean = checks.checks in
    let names = clean.named.looked_up in
    let k = length program.tasks in
    let targets = functions_rest k program.functions (task_targets program.tasks (program.entry.task ∷ []))
    (targets_numbered text checks.tree program names clean.limits) in
    let come = tasks_come program program.tasks (program.entry.task ∷ []) clean.paths.transitions clean.named.placed.calls.tasks
    clean.named.placed.tasks targets in
    let entry = and_parts (nat_lt program.entry.task k) (below k []) come.rest in
    record {
      few_shared = few_shared text checks.tree program names clean.limits;
      few_functions = few_functions text checks.tree program names clean.limits;
      few_tasks = few_tasks text checks.tree program names clean.limits;
      entry = ltb-true program.entry.task k entry.0;
      emits_fit = emits_fit program program.tasks emits;
      return_comes = return_comes text program checks;
      transition_comes = come.comes;
    }

-- and so can what a text is accepted as
pub accepted_texts_run : AcceptedTextsRun
accepted_texts_run text program allow accepted = checked_runnable text program accepted.checks accepted.allowed.few_emits
