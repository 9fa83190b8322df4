-- The rules of a map let its variables, its tasks and their private scalars be added one behind another.
use Rattle.std.proofs.Common.{◌≡◌, ◌∙◌, ℕ, suc, ◌+◌, ◌%◌, ◌==◌, ◌||◌, Bool, true, false, not, nat_lt, nat_le, List, [], ◌∷◌, ◌++◌, length, refl, sym, ap, subst}
use Rattle.std.proofs.Common.{arith, append_assoc, length-append, Some, append-nil}
use Rattle.std.specs.Prelude.{All, if◌then◌else◌}
use Rattle.std.specs.Str.{bytes_eq}
use Rattle.std.proofs.lemmas.Bool.Decides.{nat_tests}
use Rattle.std.proofs.lemmas.Bool.{and_parts}
use Rattle.std.proofs.lemmas.List.{map-append}
use Rattle.address_space.specs.Limits.{fram_first}
use Rattle.image_map.specs.declared.parts.Variable.{Variable}
use Rattle.image_map.specs.MapValue.{MapValue, TaskValue, IsFramWord, IsVariable, is_fram_word, is_among, variable_names, task_names, are_different}
use Rattle.image_map.specs.Kept.{IsMap}
use Rattle.image_map.specs.MapValue.{are_scalars, is_scalar_of, last_privates, follow, onto_last, takes_variable, takes_task, takes_private}

neither : (a b : Bool) → not (a || b) ≡ true → (not a ≡ true) × (not b ≡ true)
neither true b h = cc
neither false b h = (refl, h)

not_or : (a b : Bool) → not a ≡ true → not b ≡ true → not (a || b) ≡ true
not_or true b h k = cc
not_or false b h k = k

pub fram_test : (a : ℕ) → IsFramWord a → is_fram_word a ≡ true
fram_test a h =
    let l = h.low in
    let e = h.even in
    let low : nat_le fram_first a ≡ true = grind (arith, nat_tests) in
    let even : (a % 2 == 0) ≡ true = grind (arith, nat_tests) in
    rw (low, even) refl

among_split : (name : List ℕ) (ns ms : List (List ℕ)) → not (is_among name (ns ++ ms)) ≡ true
    → (not (is_among name ns) ≡ true) × (not (is_among name ms) ≡ true)
among_split name [] ms h = (refl, h)
among_split name (n ∷ ns) ms h =
    let p = neither (bytes_eq n name) (is_among name (ns ++ ms)) h in
    let q = among_split name ns ms p.1 in
    (not_or (bytes_eq n name) (is_among name ns) p.0 q.0, q.1)

-- a name in the middle differs from all before it
different_there : (before ns : List (List ℕ)) (n : List ℕ) (more : List (List ℕ)) → are_different before (ns ++ n ∷ more) ≡ true
    → not (is_among n (before ++ ns)) ≡ true
different_there before [] n more h = ap (λ b. not (is_among n b)) (append-nil before)
    ∙ (and_parts (not (is_among n before)) (are_different (before ++ n ∷ []) more) h).0
different_there before (x ∷ ns) n more h =
    ap (λ b. not (is_among n b)) (sym (append_assoc before (x ∷ []) ns))
    ∙ different_there (before ++ x ∷ []) ns n more (and_parts (not (is_among x before)) (are_different (before ++ x ∷ []) (ns ++ n ∷ more)) h).1

-- a map with these variables alone
abbrev pub variables_alone : MapValue → List Variable → MapValue
variables_alone m vs = record m { variables = vs; tasks = [] }

-- what holds of all of a list holds of the one in its middle
pub middle : {A : Type 0} (P : A → Type 0) (done rest : List A) (x : A) → All P (done ++ x ∷ rest) → P x
middle P [] rest x h = h 0 x (omega arith)
middle P (d ∷ done) rest x h = middle P done rest x (λ i e l. h (suc i) e (omega (arith, l)))

-- it takes the next variable line
pub takes_next_variable : (m : MapValue) (done rest : List Variable) (v : Variable) → m.variables ≡ done ++ v ∷ rest → IsMap m
    → takes_variable (variables_alone m done) v ≡ true
unfolding takes_variable
takes_next_variable m done rest v e h =
    let P : List Variable → Type 0 = λ vs. All IsVariable vs in
    let is = middle IsVariable done rest v (subst P e h.variables) in
    let len : length m.variables ≡ length done + suc (length rest) = ap length e ∙ length-append done (v ∷ rest) in
    let few = h.few_variables in
    let room : nat_lt (length done) 256 ≡ true = grind (arith, nat_tests) in
    let names : variable_names m.variables ++ task_names m.tasks ≡ variable_names done ++ v.name ∷ (variable_names rest ++ task_names m.tasks) =
    ap (λ vs. variable_names vs ++ task_names m.tasks) e ∙ ap (λ ns. ns ++ task_names m.tasks) (map-append (λ v. v.name) done (v ∷ rest))
    ∙ append_assoc (variable_names done) (v.name ∷ variable_names rest) (task_names m.tasks) in
    let fresh = different_there [] (variable_names done) v.name (variable_names rest ++ task_names m.tasks) (sym (ap (are_different []) names) ∙ h.different) in
    rw (room, fram_test v.address is.address, is.fits, is.kind) (not_or (is_among v.name (variable_names done)) false fresh refl)

-- a map with these tasks alone
abbrev pub tasks_alone : MapValue → List TaskValue → MapValue
tasks_alone m ts = record m { tasks = ts }

-- it takes the next task line
pub takes_next_task : (m : MapValue) (done rest : List TaskValue) (t : TaskValue) → m.tasks ≡ done ++ t ∷ rest → IsMap m
    → takes_task (tasks_alone m done) t.name ≡ true
unfolding takes_task
takes_next_task m done rest t e h =
    let len : length m.tasks ≡ length done + suc (length rest) = ap length e ∙ length-append done (t ∷ rest) in
    let few = h.few_tasks in
    let room : nat_lt (length done) 64 ≡ true = grind (arith, nat_tests) in
    let vs : List (List ℕ) = variable_names m.variables in
    let names : vs ++ task_names m.tasks ≡ (vs ++ task_names done) ++ t.name ∷ task_names rest =
    ap (λ ts. vs ++ task_names ts) e ∙ ap (λ r. vs ++ r) (map-append (λ t. t.name) done (t ∷ rest))
    ∙ sym (append_assoc vs (task_names done) (t.name ∷ task_names rest)) in
    let fresh = different_there [] (vs ++ task_names done) t.name (task_names rest) (sym (ap (are_different []) names) ∙ h.different) in
    let p = among_split t.name vs (task_names done) fresh in
    rw room (not_or (is_among t.name vs) (is_among t.name (task_names done)) p.0 p.1)

-- the first names are scalars in order where all are
scalars_by : (t : Bool) (vs : List Variable) (n : List ℕ) (ns more : List (List ℕ)) → (are_scalars (ns ++ more) vs ≡ true → are_scalars ns vs ≡ true)
    → (are_scalars (n ∷ (ns ++ more)) vs ≡ true → are_scalars (n ∷ ns) vs ≡ true)
    → are_scalars (if t then ns ++ more else n ∷ (ns ++ more)) vs ≡ true → are_scalars (if t then ns else n ∷ ns) vs ≡ true
scalars_by true vs n ns more f g h = f h
scalars_by false vs n ns more f g h = g h

scalars_front : (vs : List Variable) (ns more : List (List ℕ)) → are_scalars (ns ++ more) vs ≡ true → are_scalars ns vs ≡ true
scalars_front vs [] more h = refl
scalars_front [] (n ∷ ns) more h = h
scalars_front (v ∷ vs) (n ∷ ns) more h = scalars_by (is_scalar_of n v) vs n ns more (scalars_front vs ns more) (scalars_front vs (n ∷ ns) more) h

pub last_of : (done : List TaskValue) (t : TaskValue) → last_privates (done ++ t ∷ []) ≡ Some t.privates
last_of [] t = refl
last_of (d ∷ []) t = refl
last_of (d ∷ e ∷ done) t = last_of (e ∷ done) t

-- a private scalar that is taken goes to the last task
pub onto_of : (done : List TaskValue) (t : TaskValue) (n : List ℕ) → onto_last n (done ++ t ∷ []) ≡ done ++ record t { privates = t.privates ++ n ∷ [] } ∷ []
onto_of [] t n = refl
onto_of (d ∷ []) t n = refl
onto_of (d ∷ e ∷ done) t n = ap (λ r. d ∷ r) (onto_of (e ∷ done) t n)

-- a task of this name with these private scalars
abbrev pub task_with : List ℕ → List (List ℕ) → TaskValue
task_with name ns = record { name = name; privates = ns }

-- a map that keeps its rules takes the next private line of its own text
pub takes_next_private : (m : MapValue) (done : List TaskValue) (name : List ℕ) (ns rest : List (List ℕ)) (n : List ℕ)
    → are_scalars (ns ++ n ∷ rest) m.variables ≡ true
    → takes_private (tasks_alone m (done ++ task_with name ns ∷ [])) n ≡ true
unfolding takes_private
takes_next_private m done name ns rest n h =
    ap (λ o. follow o n m.variables) (last_of done (task_with name ns))
    ∙ scalars_front m.variables (ns ++ n ∷ []) rest (ap (λ ns. are_scalars ns m.variables) (append_assoc ns (n ∷ []) rest) ∙ h)
