-- One variable, one task or one private scalar more keeps the rules of a map.
use Rattle.std.proofs.Common.{◌≡◌, ◌<◌, ℕ, suc, ◌%◌, ◌==◌, ◌&&◌, ◌||◌, List, [], ◌∷◌, ◌++◌, length, map, arith, refl, ap, sym, subst, ◌∙◌, nat_lt, nat_le, not}
use Rattle.std.proofs.Common.{Bool, true, false, append_assoc, length-append, All, append-nil}
use Rattle.std.proofs.lemmas.Bool.Decides.{nat_tests}
use Rattle.std.proofs.lemmas.List.Elements.{All-nil, All-cons, All-push}
use Rattle.std.specs.Str.{bytes_eq}
use Rattle.std.proofs.lemmas.Bool.{and_parts, and_from}
use Rattle.address_space.specs.Limits.{fram_first}
use Rattle.image_map.specs.declared.parts.Variable.{Variable}
use Rattle.image_map.specs.MapValue.{MapValue, TaskValue, IsFramWord, IsVariable, are_different, are_scalars, is_among, is_used}
use Rattle.image_map.specs.MapValue.{is_fram_word, word_count, fits, is_kind}
use Rattle.image_map.specs.Kept.{IsMap}
use Rattle.image_map.specs.MapValue.{variable_names, task_names, takes_variable, with_variable, takes_task, with_task, takes_private, with_private}
use Rattle.image_map.specs.MapValue.{last_privates, follow, onto_last}

neither : (a b : Bool) → not (a || b) ≡ true → (not a ≡ true) × (not b ≡ true)
neither true b h = cc
neither false b h = (refl, h)

among_append : (name : List ℕ) (ns ms : List (List ℕ)) → not (is_among name ns) ≡ true → not (is_among name ms) ≡ true → not (is_among name (ns ++ ms)) ≡ true
among_append name [] ms h k = k
among_append name (n ∷ ns) ms h k =
    let p = neither (bytes_eq n name) (is_among name ns) h in
    not_or (bytes_eq n name) (is_among name (ns ++ ms)) p.0 (among_append name ns ms p.1 k)
  where
    not_or : (a b : Bool) → not a ≡ true → not b ≡ true → not (a || b) ≡ true
    not_or true b h k = cc
    not_or false b h k = k

different_more : (before ns : List (List ℕ)) (n : List ℕ) → are_different before ns ≡ true → not (is_among n (before ++ ns)) ≡ true
    → are_different before (ns ++ n ∷ []) ≡ true
different_more before [] n h k = and_from (not (is_among n before)) true (ap (λ b. not (is_among n b)) (sym (append-nil before)) ∙ k) refl
different_more before (x ∷ ns) n h k =
    let p = and_parts (not (is_among x before)) (are_different (before ++ x ∷ []) ns) h in
    and_from (not (is_among x before)) (are_different (before ++ x ∷ []) (ns ++ n ∷ [])) p.0
    (different_more (before ++ x ∷ []) ns n p.1 (ap (λ b. not (is_among n b)) (append_assoc before (x ∷ []) ns) ∙ k))

map_more : {A B : Type 0} (f : A → B) (xs : List A) (x : A) → map f (xs ++ x ∷ []) ≡ map f xs ++ f x ∷ []
map_more f [] x = refl
map_more f (y ∷ xs) x = ap (λ r. f y ∷ r) (map_more f xs x)

is_fram : (a : ℕ) → a < 65536 → is_fram_word a ≡ true → IsFramWord a
is_fram a l h =
    let p = and_parts (nat_le fram_first a) (a % 2 == 0) h in
    let low : nat_le fram_first a ≡ true = p.0 in
    let even : (a % 2 == 0) ≡ true = p.1 in
    record { low = grind (arith, nat_tests, low); high = l; even = grind (arith, nat_tests, even) }

no_tasks : {A : Type 0} (xs : List A) → nat_le (length xs) 0 ≡ true → xs ≡ []
no_tasks [] h = refl
no_tasks (x ∷ xs) h = absurd (grind (arith, nat_tests))

-- one more variable keeps the rules
pub variable_more : (m : MapValue) (v : Variable) → v.address < 65536 → IsMap m → takes_variable m v ≡ true → IsMap (with_variable m v)
unfolding takes_variable
variable_more m v l h t =
    let fresh : Bool = not (is_used m v.name) in
    let all : Bool = fits v.address (word_count v.value_type v.length) in
    let kind : Bool = is_kind v.value_type v.length in
    let p = and_parts (nat_le (length m.tasks) 0) (nat_lt (length m.variables) 256 && (is_fram_word v.address && (all && (kind && fresh)))) t in
    let q = and_parts (nat_lt (length m.variables) 256) (is_fram_word v.address && (all && (kind && fresh))) p.1 in
    let r = and_parts (is_fram_word v.address) (all && (kind && fresh)) q.1 in
    let s = and_parts all (kind && fresh) r.1 in
    let k = and_parts kind fresh s.1 in
    let few : nat_lt (length m.variables) 256 ≡ true = q.0 in
    let small : length m.variables < 256 = grind (arith, nat_tests, few) in
    let none : m.tasks ≡ [] = no_tasks m.tasks p.0 in
    let no_names : task_names m.tasks ≡ [] = ap task_names none in
    let old : are_different [] (variable_names m.variables) ≡ true =
    ap (are_different []) (sym (append-nil (variable_names m.variables)) ∙ ap (λ r. variable_names m.variables ++ r) (sym no_names)) ∙ h.different in
    let new = neither (is_among v.name (variable_names m.variables)) (is_among v.name (task_names m.tasks)) k.1 in
    let P : List TaskValue → Type 0 = All (λ t. are_scalars t.privates (m.variables ++ v ∷ []) ≡ true) in
    record {
      bound = h.bound;
      words = h.words;
      list = h.list;
      emits = h.emits;
      versions = h.versions;
      copies = h.copies;
      ring = h.ring;
      variables = All-push IsVariable m.variables v h.variables (record { address = is_fram v.address l r.0; fits = s.0; kind = k.0 });
      few_variables = omega (arith, length-append m.variables (v ∷ []));
      few_tasks = h.few_tasks;
      different = ap (are_different []) (ap (λ r. variable_names (m.variables ++ v ∷ []) ++ r) no_names ∙ append-nil _ ∙ map_more (λ v. v.name) m.variables v)
          ∙ different_more [] (variable_names m.variables) v.name old new.0;
      privates = subst P (sym none) (All-nil (λ t. are_scalars t.privates (m.variables ++ v ∷ []) ≡ true));
    }

-- one more task keeps the rules
pub task_more : (m : MapValue) (name : List ℕ) → IsMap m → takes_task m name ≡ true → IsMap (with_task m name)
unfolding takes_task
task_more m name h t =
    let p = and_parts (nat_lt (length m.tasks) 64) (not (is_used m name)) t in
    let few : nat_lt (length m.tasks) 64 ≡ true = p.0 in
    let small : length m.tasks < 64 = grind (arith, nat_tests, few) in
    let new = neither (is_among name (variable_names m.variables)) (is_among name (task_names m.tasks)) p.1 in
    let t : TaskValue = record { name = name; privates = [] } in
    record {
      bound = h.bound;
      words = h.words;
      list = h.list;
      emits = h.emits;
      versions = h.versions;
      copies = h.copies;
      ring = h.ring;
      variables = h.variables;
      few_variables = h.few_variables;
      few_tasks = omega (arith, length-append m.tasks (t ∷ []));
      different = ap (λ r. are_different [] (variable_names m.variables ++ r)) (map_more (λ t. t.name) m.tasks t)
          ∙ ap (are_different []) (sym (append_assoc (variable_names m.variables) (task_names m.tasks) (name ∷ [])))
          ∙ different_more [] (variable_names m.variables ++ task_names m.tasks) name h.different
          (among_append name (variable_names m.variables) (task_names m.tasks) new.0 new.1);
      privates = All-push (λ t. are_scalars t.privates m.variables ≡ true) m.tasks t h.privates refl;
    }

privates_kept : (ts : List TaskValue) (name : List ℕ) (vs : List Variable) → All (λ t. are_scalars t.privates vs ≡ true) ts
    → follow (last_privates ts) name vs ≡ true
    → All (λ t. are_scalars t.privates vs ≡ true) (onto_last name ts)
privates_kept [] name vs h k = cc
privates_kept (t ∷ []) name vs h k =
    All-push (λ t. are_scalars t.privates vs ≡ true) [] (record t { privates = t.privates ++ name ∷ [] }) (All-nil (λ t. are_scalars t.privates vs ≡ true)) k
privates_kept (t ∷ u ∷ ts) name vs h k = All-cons (λ t. are_scalars t.privates vs ≡ true) t (onto_last name (u ∷ ts)) (h 0 t (omega arith))
    (privates_kept (u ∷ ts) name vs (λ i d l. h (suc i) d (omega arith)) k)

names_kept : (ts : List TaskValue) (name : List ℕ) → task_names (onto_last name ts) ≡ task_names ts
names_kept [] name = refl
names_kept (t ∷ []) name = refl
names_kept (t ∷ u ∷ ts) name = ap (λ r. t.name ∷ r) (names_kept (u ∷ ts) name)

length_kept : (ts : List TaskValue) (name : List ℕ) → length (onto_last name ts) ≡ length ts
length_kept [] name = refl
length_kept (t ∷ []) name = refl
length_kept (t ∷ u ∷ ts) name = ap suc (length_kept (u ∷ ts) name)

-- one more private scalar keeps the rules
pub private_more : (m : MapValue) (name : List ℕ) → IsMap m → takes_private m name ≡ true → IsMap (with_private m name)
unfolding takes_private
private_more m name h t = record {
  bound = h.bound;
  words = h.words;
  list = h.list;
  emits = h.emits;
  versions = h.versions;
  copies = h.copies;
  ring = h.ring;
  variables = h.variables;
  few_variables = h.few_variables;
  few_tasks = rw (length_kept m.tasks name) h.few_tasks;
  different = ap (λ r. are_different [] (variable_names m.variables ++ r)) (names_kept m.tasks name) ∙ h.different;
  privates = privates_kept m.tasks name m.variables h.privates t;
}

-- the rules of a map whose variables are known by another list
pub variable_pushed : (m : MapValue) (vs : List Variable) (v : Variable) → v.address < 65536 → vs ≡ m.variables ++ v ∷ [] → IsMap m → takes_variable m v ≡ true
    → IsMap (record m { variables = vs })
variable_pushed m vs v l e h t = let P : List Variable → Type 0 = λ vs. IsMap (record m { variables = vs }) in subst P (sym e) (variable_more m v l h t)

-- the same of tasks
pub task_pushed : (m : MapValue) (ts : List TaskValue) (t : TaskValue) (name : List ℕ) → t ≡ record { name = name; privates = [] } → ts ≡ m.tasks ++ t ∷ []
    → IsMap m → takes_task m name ≡ true → IsMap (record m { tasks = ts })
task_pushed m ts t name d e h k = let P : List TaskValue → Type 0 = λ ts. IsMap (record m { tasks = ts }) in
    subst P (sym (e ∙ ap (λ t. m.tasks ++ t ∷ []) d)) (task_more m name h k)
