-- The lines of a map and those that a source gives, one by one.
use Rattle.std.proofs.Common.{◌≡◌, ◌<◌, ◌≤◌, ◌+◌, ◌∙◌, ℕ, zero, suc, List, [], ◌∷◌, length, get_or, take, map, refl, sym, ap, arith}
use Rattle.std.proofs.lemmas.List.{get_or-map, get_or_default, length-map, take_all}
use Rattle.image_text.specs.image_map.declared.parts.Variable.{Variable}
use Rattle.image_text.specs.image_map.MapValue.{TaskValue}
use Rattle.task_ast.specs.declared.SharedDeclaration.{SharedDeclaration}
use Rattle.task_ast.specs.declared.TaskDeclaration.{TaskDeclaration}
use Rattle.task_ast.specs.declared.names.VariableName.{VariableName}
use Rattle.task_ast.specs.declared.names.FunctionName.{FunctionName}
use Rattle.task_ast.specs.declared.names.TaskName.{TaskName}
use Rattle.task_ast.specs.View.{task_of}
use Rattle.task_check.specs.path_checks.Firsts.{CheckedTask}
use Rattle.war_analysis.specs.PlanValue.{TaskPlanValue}
use Rattle.source_maps.specs.Maps.{shared_name}
use Rattle.fram_state.specs.Suits.{line_of, declared_line, planned_task, planned_tasks}
use Rattle.fram_state.proofs.Items.{same_more, same_item}

-- an item of a list, under a function
pub mapped_at : {X Y : Type 0} (f : X → Y) (xs : List X) (i : ℕ) (x : X) → i < length xs → x ≡ get_or xs i x → f x ≡ get_or (map f xs) i (f x)
mapped_at f xs i x h at = ap f at ∙ sym (get_or-map f xs i x (f x) h)

pub under : {X Y : Type 0} (f : X → Y) (xs : List X) (i : ℕ) → i < length xs → i < length (map f xs)
under f xs i h = let e : length (map f xs) ≡ length xs = length-map xs f in omega arith

-- an item that is read at a place
read_at : {X : Type 0} (xs : List X) (i : ℕ) (d : X) → i < length xs → get_or xs i d ≡ get_or xs i (get_or xs i d)
read_at xs i d h = get_or_default xs i d (get_or xs i d) h

-- ---- variables

pub line_more : (text : List ℕ) (ds : List SharedDeclaration) (vs : List Variable) (i : ℕ) (e : SharedDeclaration) (v : Variable)
    → i < length ds → i < length vs → v ≡ get_or vs i v → line_of v ≡ declared_line text (get_or ds i e)
    → take i (map line_of vs) ≡ take i (map (declared_line text) ds) → take (i + 1) (map line_of vs) ≡ take (i + 1) (map (declared_line text) ds)
line_more text ds vs i e v h k at same before =
    same_more (map line_of vs) (map (declared_line text) ds) i (line_of v) (declared_line text (get_or ds i e)) (under line_of vs i k)
    (under (declared_line text) ds i h) (mapped_at line_of vs i v k at) (mapped_at (declared_line text) ds i (get_or ds i e) h (read_at ds i e h)) same before

pub same_line : (text : List ℕ) (ds : List SharedDeclaration) (vs : List Variable) (i : ℕ) (e : SharedDeclaration) (v : Variable)
    → i < length ds → i < length vs → v ≡ get_or vs i v → map line_of vs ≡ map (declared_line text) ds → line_of v ≡ declared_line text (get_or ds i e)
same_line text ds vs i e v h k at same =
    same_item (map line_of vs) (map (declared_line text) ds) i (line_of v) (declared_line text (get_or ds i e)) (under line_of vs i k)
    (mapped_at line_of vs i v k at) (mapped_at (declared_line text) ds i (get_or ds i e) h (read_at ds i e h)) same

pub same_count : {X Y Z : Type 0} (f : X → Z) (g : Y → Z) (xs : List X) (ys : List Y) → map f xs ≡ map g ys → length xs ≡ length ys
same_count f g xs ys e = sym (length-map xs f) ∙ ap length e ∙ length-map ys g

-- ---- names of private scalars

pub name_more : (text : List ℕ) (ds : List SharedDeclaration) (numbers : List ℕ) (names : List (List ℕ)) (i e : ℕ) (n : List ℕ)
    → i < length numbers → i < length names → n ≡ get_or names i n → n ≡ shared_name text ds (get_or numbers i e)
    → take i names ≡ take i (map (shared_name text ds) numbers) → take (i + 1) names ≡ take (i + 1) (map (shared_name text ds) numbers)
name_more text ds numbers names i e n h k at same before =
    same_more names (map (shared_name text ds) numbers) i n (shared_name text ds (get_or numbers i e)) k (under (shared_name text ds) numbers i h) at
    (mapped_at (shared_name text ds) numbers i (get_or numbers i e) h (read_at numbers i e h)) same before

pub same_name : (text : List ℕ) (ds : List SharedDeclaration) (numbers : List ℕ) (names : List (List ℕ)) (i e : ℕ) (n : List ℕ)
    → i < length numbers → i < length names → n ≡ get_or names i n → names ≡ map (shared_name text ds) numbers
    → n ≡ shared_name text ds (get_or numbers i e)
same_name text ds numbers names i e n h k at same =
    same_item names (map (shared_name text ds) numbers) i n (shared_name text ds (get_or numbers i e)) k at
    (mapped_at (shared_name text ds) numbers i (get_or numbers i e) h (read_at numbers i e h)) same

-- ---- tasks

pub planned_count : (text : List ℕ) (ds : List SharedDeclaration) (ts : List CheckedTask) (ps : List TaskPlanValue) → length ps ≡ length ts
    → length (planned_tasks text ds ts ps) ≡ length ts
planned_count text ds [] [] e = refl
planned_count text ds [] (p ∷ ps) e = refl
planned_count text ds (t ∷ ts) [] e = absurd (omega arith)
planned_count text ds (t ∷ ts) (p ∷ ps) e = ap suc (planned_count text ds ts ps (omega arith))

planned_at : (text : List ℕ) (ds : List SharedDeclaration) (ts : List (TaskDeclaration VariableName TaskName FunctionName)) (ps : List TaskPlanValue) (i : ℕ)
    (t : TaskDeclaration VariableName TaskName FunctionName) (p : TaskPlanValue) → i < length ts → i < length ps → t ≡ get_or ts i t → p ≡ get_or ps i p
    → planned_task text ds (task_of t) p ≡ get_or (planned_tasks text ds (map task_of ts) ps) i (planned_task text ds (task_of t) p)
planned_at text ds [] ps i t p h k at bt = absurd (omega arith)
planned_at text ds (u ∷ ts) [] i t p h k at bt = absurd (omega arith)
planned_at text ds (u ∷ ts) (q ∷ ps) zero t p h k at bt = ap (λ t. planned_task text ds (task_of t) p) at ∙ ap (planned_task text ds (task_of u)) bt
planned_at text ds (u ∷ ts) (q ∷ ps) (suc i) t p h k at bt = planned_at text ds ts ps i t p (omega arith) (omega arith) at bt

-- so many tasks as are declared
planned_long : (text : List ℕ) (ds : List SharedDeclaration) (ts : List (TaskDeclaration VariableName TaskName FunctionName)) (ps : List TaskPlanValue)
    → length ps ≡ length ts → length (planned_tasks text ds (map task_of ts) ps) ≡ length ts
planned_long text ds ts ps e =
    let count : length (map task_of ts) ≡ length ts = length-map ts task_of in
    planned_count text ds (map task_of ts) ps (omega arith) ∙ count

pub task_more : (text : List ℕ) (ds : List SharedDeclaration) (ts : List (TaskDeclaration VariableName TaskName FunctionName)) (ps : List TaskPlanValue)
    (vs : List TaskValue) (i : ℕ) (t : TaskDeclaration VariableName TaskName FunctionName) (p : TaskPlanValue) (v : TaskValue) → length ps ≡ length ts
    → i < length ts → i < length vs → t ≡ get_or ts i t → p ≡ get_or ps i p → v ≡ get_or vs i v → v ≡ planned_task text ds (task_of t) p
    → take i vs ≡ take i (planned_tasks text ds (map task_of ts) ps) → take (i + 1) vs ≡ take (i + 1) (planned_tasks text ds (map task_of ts) ps)
task_more text ds ts ps vs i t p v e h k at bt ct same before =
    let count = planned_long text ds ts ps e in
    same_more vs (planned_tasks text ds (map task_of ts) ps) i v (planned_task text ds (task_of t) p) k (omega arith) ct
    (planned_at text ds ts ps i t p h (omega arith) at bt) same before

pub same_task : (text : List ℕ) (ds : List SharedDeclaration) (ts : List (TaskDeclaration VariableName TaskName FunctionName)) (ps : List TaskPlanValue)
    (vs : List TaskValue) (i : ℕ) (t : TaskDeclaration VariableName TaskName FunctionName) (p : TaskPlanValue) (v : TaskValue) → length ps ≡ length ts
    → i < length ts → i < length vs → t ≡ get_or ts i t → p ≡ get_or ps i p → v ≡ get_or vs i v
    → vs ≡ planned_tasks text ds (map task_of ts) ps → v ≡ planned_task text ds (task_of t) p
same_task text ds ts ps vs i t p v e h k at bt ct same =
    same_item vs (planned_tasks text ds (map task_of ts) ps) i v (planned_task text ds (task_of t) p) k ct
    (planned_at text ds ts ps i t p h (omega arith) at bt) same

pub same_tasks : (text : List ℕ) (ds : List SharedDeclaration) (ts : List (TaskDeclaration VariableName TaskName FunctionName)) (ps : List TaskPlanValue)
    (vs : List TaskValue) → length ps ≡ length ts → vs ≡ planned_tasks text ds (map task_of ts) ps → length vs ≡ length ts
same_tasks text ds ts ps vs e same = ap length same ∙ planned_long text ds ts ps e

pub all_tasks : (text : List ℕ) (ds : List SharedDeclaration) (ts : List (TaskDeclaration VariableName TaskName FunctionName)) (ps : List TaskPlanValue)
    (vs : List TaskValue) (i : ℕ) → length ps ≡ length ts → length vs ≡ length ts → length ts ≤ i
    → take i vs ≡ take i (planned_tasks text ds (map task_of ts) ps) → vs ≡ planned_tasks text ds (map task_of ts) ps
all_tasks text ds ts ps vs i e f h same =
    let count = planned_long text ds ts ps e in
    sym (take_all i vs (omega arith)) ∙ same ∙ take_all i (planned_tasks text ds (map task_of ts) ps) (omega arith)

-- tasks one behind another
pub ruleset tasks_in_order = (task_more, same_task, same_tasks, all_tasks)
