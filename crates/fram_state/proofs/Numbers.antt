-- Names found by their numbers.
use Rattle.std.proofs.Common.{◌≡◌, ◌<◌, ◌≤◌, ◌+◌, ◌∙◌, ℕ, suc, Bool, true, false, cond, List, [], ◌∷◌, length, get_or, drop, map, Option, Some, None, refl}
use Rattle.std.proofs.Common.{sym, ap, add-one, arith}
use Rattle.std.specs.List.{position_from}
use Rattle.std.specs.Str.{bytes_eq}
use Rattle.std.proofs.Math.Seq.{drop-cons}
use Rattle.std.specs.Prelude.{◌-◌}
use Rattle.std.proofs.lemmas.List.{drop_all, get_or_default, length-map}
use Rattle.task_ast.specs.declared.SharedDeclaration.{SharedDeclaration}
use Rattle.task_ast.specs.declared.TaskDeclaration.{TaskDeclaration}
use Rattle.task_ast.specs.declared.names.VariableName.{VariableName}
use Rattle.task_ast.specs.declared.names.FunctionName.{FunctionName}
use Rattle.task_ast.specs.declared.names.TaskName.{TaskName}
use Rattle.task_ast.specs.View.{task_of}
use Rattle.source_report.specs.SourceReport.{spelled}
use Rattle.fram_state.specs.Kept.{shared_names}
use Rattle.fram_state.proofs.Declared.{mapped_at, under}

-- the first of the names from one on
abbrev from : List (List ℕ) → ℕ → List ℕ → Option ℕ
from ns i q = position_from (λ m. bytes_eq m q) i (drop i ns)

named_step : (ns : List (List ℕ)) (i : ℕ) (q n : List ℕ) → i < length ns → n ≡ get_or ns i n
    → from ns i q ≡ cond (bytes_eq n q) (Some i) (from ns (i + 1) q)
named_step ns i q n h at =
    ap (position_from (λ m. bytes_eq m q) i) (drop-cons ns i n h)
    ∙ ap (λ m. cond (bytes_eq m q) (Some i) (position_from (λ m. bytes_eq m q) (i + 1) (drop (suc i) ns))) (sym at)
    ∙ ap (λ k. cond (bytes_eq n q) (Some i) (position_from (λ m. bytes_eq m q) (i + 1) (drop k ns))) (sym (add-one i))

named_end : (ns : List (List ℕ)) (i : ℕ) (q : List ℕ) → length ns ≤ i → from ns i q ≡ None
named_end ns i q h = ap (position_from (λ m. bytes_eq m q) i) (drop_all i ns h)

-- ---- shared variables

pub shared_step : (text : List ℕ) (ds : List SharedDeclaration) (i : ℕ) (d : SharedDeclaration) (q : List ℕ) → i < length ds → d ≡ get_or ds i d
    → from (shared_names text ds) i q ≡ cond (bytes_eq (spelled text d.name) q) (Some i) (from (shared_names text ds) (i + 1) q)
shared_step text ds i d q h at =
    let named = λ (d : SharedDeclaration). spelled text d.name in
    named_step (shared_names text ds) i q (spelled text d.name) (under named ds i h) (mapped_at named ds i d h at)

-- one name more in front
pub numbered : (text : List ℕ) (ds : List SharedDeclaration) (i : ℕ) (e : SharedDeclaration) (q : List ℕ) (old : Option ℕ) → 0 < i → i ≤ length ds
    → old ≡ from (shared_names text ds) i q
    → cond (bytes_eq (spelled text (get_or ds (i - 1) e).name) q) (Some (i - 1)) old ≡ from (shared_names text ds) (i - 1) q
numbered text ds i e q old some all is =
    let back : (i - 1) + 1 ≡ i = omega arith in
    let inside : i - 1 < length ds = omega arith in
    ap (cond (bytes_eq (spelled text (get_or ds (i - 1) e).name) q) (Some (i - 1))) (is ∙ ap (λ j. from (shared_names text ds) j q) (sym back))
    ∙ sym (shared_step text ds (i - 1) (get_or ds (i - 1) e) q inside (get_or_default ds (i - 1) e (get_or ds (i - 1) e) inside))

pub shared_end : (text : List ℕ) (ds : List SharedDeclaration) (i : ℕ) (q : List ℕ) → length ds ≤ i → None ≡ from (shared_names text ds) i q
shared_end text ds i q h =
    let e : length (shared_names text ds) ≡ length ds = length-map ds (λ d. spelled text d.name) in
    sym (named_end (shared_names text ds) i q (omega arith))

-- ---- tasks

-- the names of tasks
abbrev pub names_of : List ℕ → List (TaskDeclaration VariableName TaskName FunctionName) → List (List ℕ)
names_of text ts = map (λ t. spelled text t.name) (map task_of ts)

task_step : (text : List ℕ) (ts : List (TaskDeclaration VariableName TaskName FunctionName)) (i : ℕ) (t : TaskDeclaration VariableName TaskName FunctionName)
    (q : List ℕ)
    → i < length ts → t ≡ get_or ts i t → from (names_of text ts) i q ≡ cond (bytes_eq (spelled text t.name) q) (Some i) (from (names_of text ts) (i + 1) q)
task_step text ts i t q h at =
    named_step (names_of text ts) i q (spelled text t.name) (under (λ t. spelled text t.name) (map task_of ts) i (under task_of ts i h))
    (mapped_at (λ t. spelled text t.name) (map task_of ts) i (task_of t) (under task_of ts i h) (mapped_at task_of ts i t h at))

pub task_passed : (text : List ℕ) (ts : List (TaskDeclaration VariableName TaskName FunctionName)) (i : ℕ)
    (t : TaskDeclaration VariableName TaskName FunctionName) (q : List ℕ)
    → i < length ts → t ≡ get_or ts i t → bytes_eq (spelled text t.name) q ≡ false → from (names_of text ts) i q ≡ from (names_of text ts) (i + 1) q
task_passed text ts i t q h at e = task_step text ts i t q h at ∙ ap (λ b. cond b (Some i) (from (names_of text ts) (i + 1) q)) e

pub task_found : (text : List ℕ) (ts : List (TaskDeclaration VariableName TaskName FunctionName)) (i : ℕ)
    (t : TaskDeclaration VariableName TaskName FunctionName) (q : List ℕ)
    → i < length ts → t ≡ get_or ts i t → bytes_eq (spelled text t.name) q ≡ true → from (names_of text ts) i q ≡ Some i
task_found text ts i t q h at e = task_step text ts i t q h at ∙ ap (λ b. cond b (Some i) (from (names_of text ts) (i + 1) q)) e

pub no_task : (text : List ℕ) (ts : List (TaskDeclaration VariableName TaskName FunctionName)) (i : ℕ) (q : List ℕ) → length ts ≤ i
    → from (names_of text ts) i q ≡ None
no_task text ts i q h =
    let e : length (names_of text ts) ≡ length (map task_of ts) = length-map (map task_of ts) (λ t. spelled text t.name) in
    let f : length (map task_of ts) ≡ length ts = length-map ts task_of in
    named_end (names_of text ts) i q (omega arith)
