-- The last task of a map.
use Rattle.std.proofs.Common.{◌≡◌, ◌≤◌, ℕ, suc, zero, ◌-◌, List, [], ◌∷◌, ◌++◌, length, get_or, slice_set, arith, refl, ap, sym, subst, ◌∙◌, true, false}
use Rattle.std.proofs.Common.{Some, drop}
use Rattle.std.proofs.Math.ListN.{drop_of_length-le}
use Rattle.image_map.specs.declared.parts.Variable.{Variable}
use Rattle.image_map.specs.MapValue.{MapValue, TaskValue, are_scalars, takes_private, last_privates, follow, onto_last}
use Rattle.image_map.specs.Kept.{IsMap}
use Rattle.image_map.proofs.Rules.{private_more}

pub no_scalars : (ns : List (List ℕ)) (name : List ℕ) → are_scalars (ns ++ name ∷ []) [] ≡ false
no_scalars [] name = refl
no_scalars (n ∷ ns) name = refl

pub end_scalars : (ns : List (List ℕ)) (name : List ℕ) (vs : List Variable) (i : ℕ) → length vs ≤ i → are_scalars (ns ++ name ∷ []) (drop i vs) ≡ false
end_scalars ns name vs i h = ap (are_scalars (ns ++ name ∷ [])) (drop_of_length-le vs h) ∙ no_scalars ns name

last_at : (ts : List TaskValue) (t : TaskValue) (k : ℕ) → length ts ≡ suc k → t ≡ get_or ts k t → last_privates ts ≡ Some t.privates
last_at [] t k h e = absurd (omega arith)
last_at (u ∷ []) t zero h e = ap (λ (t : TaskValue). Some t.privates) (sym e)
last_at (u ∷ []) t (suc k) h e = absurd (omega arith)
last_at (u ∷ v ∷ ts) t zero h e = absurd (omega arith)
last_at (u ∷ v ∷ ts) t (suc k) h e = last_at (v ∷ ts) t k (omega arith) e

pub last_is : (m n : MapValue) (ts : List TaskValue) (t : TaskValue) (name : List ℕ) → 1 ≤ length ts → t ≡ get_or ts (length ts - 1) t → ts ≡ m.tasks → m ≡ n
    → are_scalars (t.privates ++ name ∷ []) m.variables ≡ takes_private n name
unfolding takes_private
last_is m n ts t name h e is same =
    let some : length ts ≡ suc (length ts - 1) = omega arith in
    sym (ap (λ o. follow o name m.variables) (ap last_privates (sym is) ∙ last_at ts t (length ts - 1) some e)) ∙ ap (λ m. takes_private m name) same

pub one_task : (ts : List TaskValue) (name : List ℕ) (vs : List Variable) → follow (last_privates ts) name vs ≡ true → 1 ≤ length ts
one_task [] name vs h = cc
one_task (t ∷ ts) name vs h = omega arith

set_at : (ts : List TaskValue) (t : TaskValue) (name : List ℕ) (k : ℕ) → length ts ≡ suc k → t ≡ get_or ts k t
    → slice_set ts k (record t { privates = t.privates ++ name ∷ [] }) ≡ onto_last name ts
set_at [] t name k h e = absurd (omega arith)
set_at (u ∷ []) t name zero h e = let P : TaskValue → List TaskValue = λ t. record t { privates = t.privates ++ name ∷ [] } ∷ [] in ap P e
set_at (u ∷ []) t name (suc k) h e = absurd (omega arith)
set_at (u ∷ v ∷ ts) t name zero h e = absurd (omega arith)
set_at (u ∷ v ∷ ts) t name (suc k) h e = ap (λ r. u ∷ r) (set_at (v ∷ ts) t name k (omega arith) e)

pub some_task : (m n : MapValue) (name : List ℕ) → m ≡ n → takes_private n name ≡ true → 1 ≤ length m.tasks
unfolding takes_private
some_task m n name e h = one_task m.tasks name m.variables (ap (λ m. takes_private m name) e ∙ h)

-- the tasks where the last of them gained a name
pub tasks_set : (ts : List TaskValue) (t w : TaskValue) (name : List ℕ) (i : ℕ) → i ≡ length ts → 1 ≤ length ts → t ≡ get_or ts (i - 1) t
    → w ≡ record t { privates = t.privates ++ name ∷ [] }
    → slice_set ts (i - 1) w ≡ onto_last name ts
tasks_set ts t w name i len h e is =
    let some : length ts ≡ suc (i - 1) = omega arith in
    ap (slice_set ts (i - 1)) is ∙ set_at ts t name (i - 1) some e

pub private_set : (m n : MapValue) (ts : List TaskValue) (name : List ℕ) → ts ≡ onto_last name m.tasks → m ≡ n → takes_private n name ≡ true → IsMap m
    → IsMap (record m { tasks = ts })
private_set m n ts name e is h k =
    let P : List TaskValue → Type 0 = λ ts. IsMap (record m { tasks = ts }) in
    subst P (sym e) (private_more m name k (ap (λ m. takes_private m name) is ∙ h))
