-- A layout doesn't look at what 64 bits don't keep of functions.
use Rattle.std.proofs.Common.{◌≡◌, ℕ, zero, suc, ◌+◌, ◌*◌, ◌≤◌, List, [], ◌∷◌, length, get_or, refl, ap, ◌∙◌, map, subst, arith, Some, None}
use Rattle.std.specs.Prelude.{slice_get, All}
use Rattle.std.proofs.lemmas.Option.{same_Some}
use Rattle.std.proofs.lemmas.List.Elements.{All-nil, All-cons, All-head, All-tail}
use Rattle.std.specs.List.{flat_map}
use Rattle.task_ast.specs.declared.SharedDeclaration.{SharedDeclaration}
use Rattle.cost_bound.specs.Table.{capped}
use Rattle.cost_bound.specs.Summary.{Summary}
use Rattle.cost_bound.specs.Counts.{CheckedBlock}
use Rattle.cost_bound.specs.Frames.{stack_of}
use Rattle.cost_bound.specs.Machine.{known_of, AreSame}
use Rattle.cost_bound.specs.Summaries.{function_summary, summaries}
use Rattle.cost_bound.specs.Allowance.{CheckedProgram, CheckedTask, greatest, stack_words, total}
use Rattle.cost_bound.proofs.Interface.{known_length, own_same, routines_same, scalars_same, stack_same, total_same}
use Rattle.function_locals.specs.declared.locals.FunctionLocals.{FunctionLocals}
use Rattle.function_locals.specs.Locals.{function_locals, all_locals}
use Rattle.task_ast.proofs.Interface.{answers_length}
use Rattle.task_ast.specs.View.{task_of}
use Rattle.task_ast.specs.declared.TaskDeclaration.{TaskDeclaration}
use Rattle.task_ast.specs.declared.names.VariableName.{VariableName}
use Rattle.task_ast.specs.declared.names.TaskName.{TaskName}
use Rattle.task_ast.specs.declared.names.FunctionName.{FunctionName}
use Rattle.memory_map.specs.address_space.Limits.{program_end}
use Rattle.privatise.specs.View.{functions_in}
use Rattle.privatise.specs.declared.routines.Functions.{Functions}
use Rattle.war_analysis.specs.PlanValue.{TaskPlanValue}
use Rattle.memory_map.specs.declared.place.VariablePlace.{VariablePlace}
use Rattle.memory_map.specs.MemoryMap.{TaskPlace}
use Rattle.memory_map.specs.Places.{AreInOrder, code_regions, end_of}
use Rattle.privatise.specs.Sizes.{body_words, boot_words, entry_words, own_boot_words}
use Rattle.privatise.specs.Routines.{KnownFunctions, known_functions}
use Rattle.privatise.specs.Layouts.{IsTaskLayout}
use Rattle.privatise.specs.Placing.{ArePlacedTasks}
use Rattle.privatise.proofs.RoutinesPlaced.{task_same}

-- ---- a task's part in all of them

total_at : (f : CheckedBlock → ℕ) (ts : List CheckedTask) (k : ℕ) (task : CheckedTask) → slice_get ts k ≡ Some task → f task.body ≤ total f ts
total_at f [] k task at = let no : None ≡ Some task = at in cc
total_at f (t ∷ ts) zero task at = let same = ap (λ (x : CheckedTask). f x.body) (same_Some t task at) in omega (arith, same)
total_at f (t ∷ ts) (suc k) task at = let rest = total_at f ts k task at in omega (arith, rest)

pub greatest_all : (f : CheckedBlock → ℕ) (most : ℕ) (ts : List CheckedTask) → greatest f ts ≤ most → All (λ (t : CheckedTask). f t.body ≤ most) ts
greatest_all f most [] h = All-nil (λ (t : CheckedTask). f t.body ≤ most)
greatest_all f most (t ∷ ts) h =
    All-cons (λ (t : CheckedTask). f t.body ≤ most) t ts (omega (arith, h)) (greatest_all f most ts (omega (arith, h)))

all_at : (P : CheckedTask → Type 0) (ts : List CheckedTask) (k : ℕ) (task : CheckedTask) → All P ts → slice_get ts k ≡ Some task → P task
all_at P [] k task h at = let no : None ≡ Some task = at in cc
all_at P (t ∷ ts) zero task h at = subst P (same_Some t task at) (All-head P t ts h)
all_at P (t ∷ ts) (suc k) task h at = all_at P ts k task (All-tail P t ts h) at

-- ---- two lists of summaries that 64 bits keep as the same

module _ (as' bs : List Summary) (ls : List FunctionLocals) (few : length as' ≤ 64) (same : AreSame as' bs) (shared : List SharedDeclaration)
    (low : length shared ≤ 256) where
  abbrev here : KnownFunctions
  here = record { summaries = as'; locals = ls }

  abbrev there : KnownFunctions
  there = record { summaries = bs; locals = ls }

  body_same : (b : CheckedBlock) → capped (body_words as' shared b) ≡ capped (body_words bs shared b)
  body_same b = let o = own_same as' bs few same shared low b in let r = routines_same as' bs few same b in omega (arith, o, r)

  pub total_small : (ts : List CheckedTask) → total (body_words bs shared) ts ≤ 22000 → total (body_words as' shared) ts ≤ 22000
  total_small ts h = let e = total_same (body_words as' shared) (body_words bs shared) body_same ts in omega (arith, e, h)

  pub total_exact : (ts : List CheckedTask) → total (body_words bs shared) ts ≤ 22000 → total (body_words as' shared) ts ≡ total (body_words bs shared) ts
  total_exact ts h = let e = total_same (body_words as' shared) (body_words bs shared) body_same ts in omega (arith, e, h)

  entries_same : (ts : List CheckedTask) → total (entry_words as' shared) ts ≡ total (entry_words bs shared) ts
  entries_same [] = refl
  entries_same (t ∷ ts) =
      let here = scalars_same as' bs few same shared low t.body in let rest = entries_same ts in omega (arith, here, rest)

  pub boot_same : (ts : List CheckedTask) → boot_words as' shared ts ≡ boot_words bs shared ts
  boot_same ts = ap (λ n. own_boot_words + n) (entries_same ts)

  pub stacks_low : (ts : List CheckedTask) → All (λ (t : CheckedTask). stack_of bs t.body ≤ 1000) ts
      → All (λ (t : CheckedTask). stack_of as' t.body ≤ 1000) ts
  stacks_low ts h = λ k d l. let s = h k d l in let e = stack_same as' bs few same (get_or ts k d).body in omega (arith, s, e)

  layout_same : (code : CheckedBlock) (plan : TaskPlanValue) (t : TaskPlace) → body_words as' shared code ≤ 22000 → stack_of as' code ≤ 1000
      → IsTaskLayout here shared code plan t → IsTaskLayout there shared code plan t
  layout_same code plan t small stack h = record {
    privates = h.privates;
    words = (let e = own_same as' bs few same shared low code in let w = h.words in omega (arith, e, w, small));
    first = h.first;
    routines = h.routines ∙ task_same as' bs ls code (end_of t.code) few same stack (omega (arith, small));
  }

  pub placed_same : (places : List VariablePlace) (ts : List CheckedTask) (plans : List TaskPlanValue) (address : ℕ) (layouts : List TaskPlace)
      → total (body_words bs shared) ts ≤ 22000 → All (λ (t : CheckedTask). stack_of bs t.body ≤ 1000) ts
      → ArePlacedTasks here shared places ts plans address layouts → ArePlacedTasks there shared places ts plans address layouts
  placed_same places ts plans address layouts small stacks h = record {
    count = h.count;
    each = λ k task plan t f g p.
        let words = total_at (body_words as' shared) ts k task f in
        let all = total_small ts small in
        let stack = all_at (λ (t : CheckedTask). stack_of as' t.body ≤ 1000) ts k task (stacks_low ts stacks) f in
        layout_same task.body plan t (omega (arith, words, all)) stack (h.each k task plan t f g p);
    privates = h.privates;
    code = subst (λ n. AreInOrder address (flat_map code_regions layouts) (address + 2 * n)) (total_exact ts small) h.code;
  }

  pub total_room : (ts : List CheckedTask) (at : ℕ) → total (body_words bs shared) ts ≤ 22000 → at + 2 * total (body_words bs shared) ts ≤ program_end
      → at + 2 * total (body_words as' shared) ts ≤ program_end
  total_room ts at small room = let e = total_exact ts small in omega (arith, e, room)

-- ---- of a source

-- what the layouts of tasks are made of
pub record TaskSources : Type 0 where
  pub shared : List SharedDeclaration
  pub places : List VariablePlace
  pub tasks : List (TaskDeclaration VariableName TaskName FunctionName)
  pub plans : List TaskPlanValue

module _ (fs : Functions) (p : CheckedProgram) (few : length (known_of fs.summaries.now) ≤ 64) (same : AreSame (known_of fs.summaries.now) (summaries p))
    (locals : fs.locals.now ≡ all_locals p.functions) (low : length p.shared ≤ 256) (small : total (body_words (summaries p) p.shared) p.tasks ≤ 22000)
    (stack : stack_words p ≤ 1000) where
  -- tasks that are placed by what is kept of functions are placed by what is known of the source's
  pub moved_tasks : (a b : TaskSources) (address : ℕ) (layouts : List TaskPlace) → a ≡ b → b.shared ≡ p.shared → map task_of b.tasks ≡ p.tasks
      → ArePlacedTasks (functions_in fs) a.shared a.places (map task_of a.tasks) a.plans address layouts
      → ArePlacedTasks (known_functions p) p.shared b.places p.tasks b.plans address layouts
  moved_tasks a b address layouts e shared tasks h =
      let there = subst (λ (x : TaskSources). ArePlacedTasks (functions_in fs) x.shared x.places (map task_of x.tasks) x.plans address layouts) e h in
      let here = subst (λ ts. ArePlacedTasks (functions_in fs) p.shared b.places ts b.plans address layouts) tasks
      (subst (λ ds. ArePlacedTasks (functions_in fs) ds b.places (map task_of b.tasks) b.plans address layouts) shared there) in
      subst (λ ls. ArePlacedTasks (record { summaries = summaries p; locals = ls }) p.shared b.places p.tasks b.plans address layouts) locals
      (placed_same (known_of fs.summaries.now) (summaries p) fs.locals.now few same p.shared low b.places p.tasks b.plans address layouts small
      (greatest_all (stack_of (summaries p)) 1000 p.tasks stack) here)

-- as many functions have locals as are kept
pub locals_count : (p : CheckedProgram) (fs : Functions) → AreSame (known_of fs.summaries.now) (summaries p) → fs.locals.now ≡ all_locals p.functions
    → length fs.locals.now ≡ length fs.summaries.now
locals_count p fs same locals =
    let n = answers_length function_locals [] p.functions in
    let m = answers_length function_summary [] p.functions in
    let kept = known_length fs.summaries.now in
    let count = same.count in
    let many = ap length locals in
    omega (arith, n, m, kept, count, many)
