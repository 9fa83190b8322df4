-- What the checks of a source give of each of its tasks and its functions.
use Rattle.std.proofs.Common.{◌≡◌, ◌+◌, ℕ, zero, suc, true, false, List, [], ◌∷◌, length, Some, refl, sym, subst, inl, inr, slice_get, arith}
use Rattle.std.specs.Prelude.{All}
use Rattle.std.proofs.lemmas.List.Elements.{All-nil, All-cons, All-head, All-tail}
use Rattle.task_ast.specs.Calls.{BlockCallsBelow}
use Rattle.task_ast.specs.Paths.{CheckedProgram, CheckedFunction, CheckedTask}
use Rattle.path_checks.specs.Firsts.{SomeOf}
use Rattle.path_checks.specs.Unassigned.{ReadsUnassigned}
use Rattle.path_checks.specs.Ends.{OpenAt}
use Rattle.task_check.specs.Placed.{block_ends}
use Rattle.war_analysis.proofs.Interface.{calls_at}
use Rattle.source_meaning.specs.Acceptance.{Checks}
use Rattle.cost_bound.specs.Frames.{block_locals}
use Rattle.checked_trees.specs.WellFormed.{BlockNames, IsWellFormedTask, IsWellFormedFunction}
use Rattle.checked_trees.specs.Laws.{SourcesAreWellFormed}
use Rattle.checked_trees.proofs.Bodies.{TaskFormed, FunctionFormed, bodies_are_formed}

-- what holds of each holds of the one with a number
pub all_at : {A : Type 0} (P : A → Type 0) (xs : List A) (k : ℕ) (x : A) → All P xs → slice_get xs k ≡ Some x → P x
all_at P [] k x h e = absurd (cc)
all_at P (y ∷ xs) zero x h e = let same : y ≡ x = cc in subst P same (All-head P y xs h)
all_at P (y ∷ xs) (suc k) x h e = all_at P xs k x (All-tail P y xs h) e

some_at : {A : Type 0} (P : A → Type 0) (xs : List A) (k : ℕ) (x : A) → slice_get xs k ≡ Some x → P x → SomeOf xs P
some_at P [] k x e p = absurd (cc)
some_at P (y ∷ xs) zero x e p = let same : y ≡ x = cc in inl (subst P (sym same) p)
some_at P (y ∷ xs) (suc k) x e p = inr (some_at P xs k x e p)

-- each task of a checked source is well-formed
pub task_checked : (text : List ℕ) (program : CheckedProgram) → Checks text program → (k : ℕ) (task : CheckedTask)
    → slice_get program.tasks k ≡ Some task → IsWellFormedTask program task
task_checked text program checks k task e =
    let functions = program.functions in
    let placed = checks.checks.named.placed in
    let paths = checks.checks.paths in
    let tasks = program.tasks in
    let body = all_at (TaskFormed program.shared functions) tasks k task (bodies_are_formed text program checks).tasks e in
    record {
      statements = body.formed;
      counts = body.counts;
      locals = subst (λ n. BlockNames n task.body) (let e : block_locals task.body ≡ 0 + block_locals task.body = omega arith in e) body.names;
      calls = all_at (λ t. BlockCallsBelow (length functions) t.body) tasks k task placed.calls.tasks e;
      assigned = λ s bad. paths.assigned s (inr (some_at (λ t. ReadsUnassigned functions 0 t.body s) tasks k task e bad));
      leaves = all_at (λ t. block_ends true t.body ≡ true) tasks k task placed.tasks e;
      ends = λ reached. paths.transitions task.name (some_at (λ t. OpenAt functions t.name t.body task.name) tasks k task e (refl, reached));
    }

-- so is each function
pub function_checked : (text : List ℕ) (program : CheckedProgram) → Checks text program → (k : ℕ) (f : CheckedFunction)
    → slice_get program.functions k ≡ Some f → IsWellFormedFunction program k f
function_checked text program checks k f e =
    let functions = program.functions in
    let placed = checks.checks.named.placed in
    let paths = checks.checks.paths in
    let body = all_at (FunctionFormed program.shared functions) functions k f (bodies_are_formed text program checks).functions e in
    let in_front : 0 + k ≡ k = omega arith in
    record {
      statements = body.formed;
      counts = body.counts;
      locals = body.names;
      calls = subst (λ m. BlockCallsBelow m f.body) in_front (calls_at 0 k functions f placed.calls.functions e);
      assigned = λ s bad. paths.assigned s (inl (some_at (λ g. ReadsUnassigned functions (length g.parameters) g.body s) functions k f e bad));
      leaves = all_at (λ g. block_ends false g.body ≡ true) functions k f placed.functions e;
      ends = λ reached. paths.returns f.name (some_at (λ g. OpenAt functions g.name g.body f.name) functions k f e (refl, reached));
    }

-- what holds of each by its number holds of all
pub all_of : {A : Type 0} (P : A → Type 0) (xs : List A) → ((k : ℕ) (x : A) → slice_get xs k ≡ Some x → P x) → All P xs
all_of P [] h = All-nil P
all_of P (x ∷ xs) h = All-cons P x xs (h 0 x refl) (all_of P xs (λ k y e. h (suc k) y e))

pub sources_are_well_formed : SourcesAreWellFormed
sources_are_well_formed text program checks = record {
  tasks = all_of (IsWellFormedTask program) program.tasks (task_checked text program checks);
  functions = function_checked text program checks;
}
