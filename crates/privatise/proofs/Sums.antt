-- The words of a source, by their kinds.
use Rattle.std.proofs.Common.{◌≡◌, ℕ, zero, suc, ◌+◌, ◌*◌, ◌<◌, ◌≤◌, Bool, true, false, List, [], ◌∷◌, length, drop, map, get_or, refl, sym, ◌∙◌, ap, arith}
use Rattle.std.proofs.Common.{drop-cons, add-one}
use Rattle.task_ast.specs.View.{task_of}
use Rattle.task_ast.specs.declared.Extent.{Extent}
use Rattle.task_ast.specs.declared.Extent.TheVariants.{Scalar, Long, Array}
use Rattle.task_ast.specs.declared.SharedDeclaration.{SharedDeclaration}
use Rattle.task_ast.specs.declared.TaskDeclaration.{TaskDeclaration}
use Rattle.task_ast.specs.declared.names.VariableName.{VariableName}
use Rattle.task_ast.specs.declared.names.TaskName.{TaskName}
use Rattle.task_ast.specs.declared.names.FunctionName.{FunctionName}
use Rattle.cost_bound.specs.Counts.{CheckedBlock, emits_of}
use Rattle.cost_bound.specs.Summary.{Summary}
use Rattle.cost_bound.specs.Summaries.{summaries}
use Rattle.cost_bound.specs.Allowance.{CheckedTask, CheckedProgram, shared_sum_from, version_part, place_part, is_written, total, greatest, task_words}
use Rattle.cost_bound.specs.Allowance.{list_of, scalars_of, own_words, plain_words_of, words_of, versions_of}
use Rattle.cost_bound.specs.Counts.{routine_words}
use Rattle.memory_map.specs.Words.{row_words}
use Rattle.privatise.specs.Sizes.{home_part, home_words, copy_part, copy_words, body_words, entry_words, boot_words, commit_words, own_boot_words}

part_split : (written : Bool) (e : Extent) → place_part written e ≡ home_part e + copy_part written e + version_part written e
part_split written (Scalar _) = refl
part_split written (Long _) = refl
part_split true (Array n) = omega arith
part_split false (Array n) = omega arith

places_split : (written : ℕ → Bool) (i : ℕ) (ds : List SharedDeclaration) → shared_sum_from (λ k e. place_part (written k) e) i ds
    ≡ shared_sum_from (λ k e. home_part e) i ds + shared_sum_from (λ k e. copy_part (written k) e) i ds + shared_sum_from (λ k e. version_part (written k) e)
    i ds
places_split written i [] = refl
places_split written i (d ∷ ds) =
    let here : place_part (written i) d.extent ≡ home_part d.extent + copy_part (written i) d.extent + version_part (written i) d.extent =
    part_split (written i) d.extent in
    let rest : shared_sum_from (λ k e. place_part (written k) e) (i + 1) ds
    ≡ shared_sum_from (λ k e. home_part e) (i + 1) ds + shared_sum_from (λ k e. copy_part (written k) e) (i + 1) ds + shared_sum_from
    (λ k e. version_part (written k) e) (i + 1) ds
    = places_split written (i + 1) ds in
    omega (arith, here, rest)

total_split : (f g h : CheckedBlock → ℕ) (ts : List CheckedTask) → ((c : CheckedBlock) → f c ≡ g c + h c) → total f ts ≡ total g ts + total h ts
total_split f g h [] e = refl
total_split f g h (t ∷ ts) e =
    let here : f t.body ≡ g t.body + h t.body = e t.body in
    let rest : total f ts ≡ total g ts + total h ts = total_split f g h ts e in
    omega (arith, here, rest)

together : (t e b p h c v l m : ℕ) → t ≡ e + b → p ≡ h + c + v
    → row_words + commit_words + 3 * l + m + v + h + c + (own_boot_words + e) + b + 1 ≡ 600 + t + p + 3 * l + m
together t e b p h c v l m x y = omega (arith, x, y)

regrouped : (a s o r : ℕ) → a + s + o + r ≡ (a + s) + (o + r)
regrouped a s o r = omega arith

task_split : (known : List Summary) (shared : List SharedDeclaration) (c : CheckedBlock)
    → task_words known shared c ≡ entry_words known shared c + body_words known shared c
task_split known shared c = regrouped 200 (16 * scalars_of known shared c) (own_words known shared c) (routine_words known c)

-- a word for the vector, those of the runtime, the buffers, the variables, and the code of boot, commit and tasks
pub words_split : (p : CheckedProgram) → row_words + commit_words + 3 * greatest
    (list_of (summaries p) p.shared) p.tasks + greatest (emits_of (summaries p)) p.tasks + versions_of p + home_words p.shared + copy_words p
    + boot_words (summaries p) p.shared p.tasks + total (body_words (summaries p) p.shared) p.tasks + 1
    ≡ plain_words_of p
words_split p =
    let known = summaries p in
    together (total (task_words known p.shared) p.tasks) (total (entry_words known p.shared) p.tasks) (total (body_words known p.shared) p.tasks) _
    (home_words p.shared) (copy_words p) (versions_of p) (greatest (list_of known p.shared) p.tasks) (greatest (emits_of known) p.tasks)
    (total_split (task_words known p.shared) (entry_words known p.shared) (body_words known p.shared) p.tasks (task_split known p.shared))
    (places_split (is_written known p.tasks) 0 p.shared)

part_small : (rest t w : ℕ) → rest + t + 1 ≡ w → w ≤ 22000 → t ≤ 22000
part_small rest t w e h = omega (arith, e, h)

-- what is there without events is among what is there with them
pub plain_small : (p : CheckedProgram) → words_of p ≤ 22000 → plain_words_of p ≤ 22000
plain_small p h = omega (arith, h)

-- the words of all tasks' code are among those of the source
pub bodies_small : (p : CheckedProgram) → plain_words_of p ≤ 22000 → total (body_words (summaries p) p.shared) p.tasks ≤ 22000
bodies_small p h = part_small _ (total (body_words (summaries p) p.shared) p.tasks) (plain_words_of p) (words_split p) h

-- the first of the variables that are left, and those behind it
pub sum_step : (part : ℕ → Extent → ℕ) (shared : List SharedDeclaration) (i : ℕ) (extent : Extent) → i < length shared
    → ((d : SharedDeclaration) → extent ≡ (get_or shared i d).extent)
    → shared_sum_from part i (drop i shared) ≡ part i extent + shared_sum_from part (i + 1) (drop (i + 1) shared)
sum_step part [] i extent l at = absurd (omega arith)
sum_step part (x ∷ xs) i extent l at =
    ap (λ ds. shared_sum_from part i ds) (drop-cons (x ∷ xs) i x l) ∙ ap (λ e. part i e + shared_sum_from part (i + 1) (drop (suc i) (x ∷ xs))) (sym (at x))
    ∙ ap (λ k. part i extent + shared_sum_from part (i + 1) (drop k (x ∷ xs))) (sym (add-one i))

-- a task of those that are left, and those behind it
pub total_step : (f : CheckedBlock → ℕ) (tasks : List (TaskDeclaration VariableName TaskName FunctionName)) (i : ℕ)
    (task : TaskDeclaration VariableName TaskName FunctionName)
    → i < length tasks → task ≡ get_or tasks i task
    → total f (map task_of (drop i tasks)) ≡ f (task_of task).body + total f (map task_of (drop (i + 1) tasks))
total_step f tasks i task l at =
    ap (λ ds. total f (map task_of ds)) (drop-cons tasks i task l) ∙ ap (λ t. f (task_of t).body + total f (map task_of (drop (suc i) tasks))) (sym at)
    ∙ ap (λ k. f (task_of task).body + total f (map task_of (drop k tasks))) (sym (add-one i))

-- no more than all of them
pub total_left : (f : CheckedBlock → ℕ) (tasks : List (TaskDeclaration VariableName TaskName FunctionName)) (i : ℕ)
    → total f (map task_of (drop i tasks)) ≤ total f (map task_of tasks)
total_left f tasks zero = omega arith
total_left f [] (suc i) = omega arith
total_left f (t ∷ ts) (suc i) = let rest = total_left f ts i in omega (arith, rest)

pub total_part : (f : CheckedBlock → ℕ) (tasks : List (TaskDeclaration VariableName TaskName FunctionName)) (i : ℕ)
    (task : TaskDeclaration VariableName TaskName FunctionName)
    → i < length tasks → task ≡ get_or tasks i task
    → f (task_of task).body ≤ total f (map task_of tasks)
total_part f tasks i task l at = let a = total_step f tasks i task l at in let b = total_left f tasks i in omega (arith, a, b)
