-- The names in front of a place.
use Rattle.std.proofs.Common.{◌≡◌, ℕ, zero, suc, ◌+◌, ◌-◌, ◌<◌, ◌≤◌, ◌^◌, List, [], ◌∷◌, length, get_or, drop, Option, Some, None, ◌⊎◌, inl, inr, refl, sym}
use Rattle.std.proofs.Common.{subst, ap, ◌∙◌, arith}
use Rattle.std.proofs.Math.Seq.{drop-length}
use Rattle.std.proofs.lemmas.List.{length-drop}
use denote.Ref.{Bor}
use Rattle.std.specs.BTreeMap.{BTreeMap}
use Rattle.std.specs.Option.{option_or}
use Rattle.task_ast.proofs.Interface.{drop_back}
use Rattle.task_check.specs.declared.occurrence.Occurrence.{Occurrence}
use Rattle.task_check.specs.declared.occurrence.Role.{Role}
use Rattle.task_check.specs.declared.symbol.Global.{Global}
use Rattle.task_check.specs.declared.symbol.Counts.{Counts}
use Rattle.task_check.specs.declared.walk.Walk.{Walk}
use Rattle.task_check.specs.declared.fault.CheckFault.{CheckFault}
use Rattle.std.specs.Str.{bytes_eq}
use Rattle.task_check.specs.Scope.{text_of, global_in, global_with, if_named, shared_in, functions_in, tasks_in, locals_in, locals_after, one_shared}
use Rattle.task_check.specs.Scope.{one_function, one_task}
use Rattle.task_check.specs.LookedUp.{behind}
use Rattle.task_check.specs.Faults.{first_fault, name_fault}
use Rattle.task_check.specs.Tables.{found}
use Rattle.task_check.specs.Walks.{HasGlobals, IsWalked, counts_in, symbol_of, name_fault_of, IsOneOn}
use Rattle.task_check.proofs.Walks.{walked_on, same_name_fault, counts_same}
use Rattle.task_check.specs.declared.occurrence.Role.TheVariants as role
use Rattle.task_check.specs.declared.fault.CheckFault.TheVariants as fault

-- a fault that is found in front stays the first
pub first_stays : (f : Occurrence → List Occurrence → Option CheckFault) (xs : List Occurrence) (i : ℕ) (e : CheckFault) → first_fault f (drop i xs) ≡ Some e
    → first_fault f xs ≡ Some e
first_stays f xs zero e h = h
first_stays f [] (suc i) e h = h
first_stays f (x ∷ xs) (suc i) e h = ap (λ r. option_or r (f x xs)) (first_stays f xs i e h)

one_shared_le : (r : Role) → one_shared r ≤ 1
one_shared_le (role.Shared of e) = omega arith
one_shared_le (role.Function of count) = omega arith
one_shared_le role.Task = omega arith
one_shared_le (role.Local of begin end extra) = omega arith
one_shared_le role.Scalar = omega arith
one_shared_le role.Element = omega arith
one_shared_le role.Counter = omega arith
one_shared_le (role.Call count) = omega arith
one_shared_le role.Target = omega arith
one_shared_le (role.Operand refused kept) = omega arith

one_function_le : (r : Role) → one_function r ≤ 1
one_function_le (role.Shared of e) = omega arith
one_function_le (role.Function of count) = omega arith
one_function_le role.Task = omega arith
one_function_le (role.Local of begin end extra) = omega arith
one_function_le role.Scalar = omega arith
one_function_le role.Element = omega arith
one_function_le role.Counter = omega arith
one_function_le (role.Call count) = omega arith
one_function_le role.Target = omega arith
one_function_le (role.Operand refused kept) = omega arith

one_task_le : (r : Role) → one_task r ≤ 1
one_task_le (role.Shared of e) = omega arith
one_task_le (role.Function of count) = omega arith
one_task_le role.Task = omega arith
one_task_le (role.Local of begin end extra) = omega arith
one_task_le role.Scalar = omega arith
one_task_le role.Element = omega arith
one_task_le role.Counter = omega arith
one_task_le (role.Call count) = omega arith
one_task_le role.Target = omega arith
one_task_le (role.Operand refused kept) = omega arith

locals_after_le : (n : ℕ) (r : Role) → locals_after n r ≤ n + 1
locals_after_le n (role.Shared of e) = omega arith
locals_after_le n (role.Function of count) = omega arith
locals_after_le n role.Task = omega arith
locals_after_le n (role.Local of begin end extra) = omega arith
locals_after_le n role.Scalar = omega arith
locals_after_le n role.Element = omega arith
locals_after_le n role.Counter = omega arith
locals_after_le n (role.Call count) = omega arith
locals_after_le n role.Target = omega arith
locals_after_le n (role.Operand refused kept) = omega arith

shared_in_le : (xs : List Occurrence) → shared_in xs ≤ length xs
shared_in_le [] = omega arith
shared_in_le (x ∷ xs) = let h = shared_in_le xs in let k = one_shared_le x.role in omega arith

functions_in_le : (xs : List Occurrence) → functions_in xs ≤ length xs
functions_in_le [] = omega arith
functions_in_le (x ∷ xs) = let h = functions_in_le xs in let k = one_function_le x.role in omega arith

tasks_in_le : (xs : List Occurrence) → tasks_in xs ≤ length xs
tasks_in_le [] = omega arith
tasks_in_le (x ∷ xs) = let h = tasks_in_le xs in let k = one_task_le x.role in omega arith

locals_in_le : (xs : List Occurrence) → locals_in xs ≤ length xs
locals_in_le [] = omega arith
locals_in_le (x ∷ xs) = let h = locals_in_le xs in let k = locals_after_le (locals_in xs) x.role in omega arith

-- the counts stay in range
pub few_counts : (c : Counts) (names : List Occurrence) (i : ℕ) → c ≡ counts_in (drop i names) → length names < 2 ^ 32 - 1
    → (c.shared < 2 ^ 32 - 1) × (c.functions < 2 ^ 32 - 1) × (c.tasks < 2 ^ 32 - 1) × (c.locals < 2 ^ 32 - 1)
few_counts c names i e few =
    subst (λ c. (c.shared < 2 ^ 32 - 1) × (c.functions < 2 ^ 32 - 1) × (c.tasks < 2 ^ 32 - 1) × (c.locals < 2 ^ 32 - 1)) (sym e)
    (shared, functions, tasks, locals)
  where
    shared : shared_in (drop i names) < 2 ^ 32 - 1
    shared = let h = shared_in_le (drop i names) in let k = length-drop i names in omega arith

    functions : functions_in (drop i names) < 2 ^ 32 - 1
    functions = let h = functions_in_le (drop i names) in let k = length-drop i names in omega arith

    tasks : tasks_in (drop i names) < 2 ^ 32 - 1
    tasks = let h = tasks_in_le (drop i names) in let k = length-drop i names in omega arith

    locals : locals_in (drop i names) < 2 ^ 32 - 1
    locals = let h = locals_in_le (drop i names) in let k = length-drop i names in omega arith

-- before the first name
pub walked_none : (source : List ℕ) (all : List Occurrence) (w : Walk) → ((q : List ℕ) → found w.locals q ≡ None) → w.counts ≡ counts_in []
    → w.variables.items ≡ [] → w.calls.items ≡ [] → w.targets.items ≡ [] → w.wrong_use ≡ None → w.too_many ≡ None
    → IsWalked source all [] w
walked_none source all w l c v f t u m = record { locals = l; counts = c; variables = v; calls = f; targets = t; wrong_use = u; too_many = m; names = refl }

behind_is : (names : List Occurrence) (i b : ℕ) → 0 < i → i ≤ length names → b ≡ i - 1 → b ≡ behind names (drop i names)
behind_is names i b pos within bs = let k = length-drop i names in omega arith

front_is : (names : List Occurrence) (i n : ℕ) → 0 < i → i ≤ length names → n ≡ length names - 1 - (i - 1) → n ≡ length (drop i names)
front_is names i n pos within ns = let k = length-drop i names in omega arith

module _ (source : List ℕ) (names : List Occurrence) (globals : BTreeMap (Bor (List ℕ)) Global) (has : HasGlobals source names globals)
    (i : ℕ) (o : Occurrence) (w : Walk) (pos : 0 < i) (within : i ≤ length names) (at : o ≡ get_or names (i - 1) o)
    (walked : IsWalked source names (drop i names) w) (n b : ℕ) where
  pub walked_back : (v : Walk) → IsOneOn source o (symbol_of source globals w o b) w v → name_fault_of source globals w o n b ≡ None
      → n ≡ length names - 1 - (i - 1) → b ≡ i - 1
      → IsWalked source names (drop (i - 1) names) v
  walked_back v on fine ns bs = subst (λ xs. IsWalked source names xs v) (sym (drop_back names i o pos within at))
      (walked_on source names (drop i names) o globals w b n has walked (behind_is names i b pos within bs) (front_is names i n pos within ns) v on fine)

  pub refused_back : (e : CheckFault) → (e ≡ fault.Memory) ⊎ (name_fault_of source globals w o n b ≡ Some e) → n ≡ length names - 1 - (i - 1) → b ≡ i - 1
      → (e ≡ fault.Memory) ⊎ (first_fault (name_fault source names) names ≡ Some e)
  refused_back e (inl m) ns bs = inl m
  refused_back e (inr f) ns bs = inr (first_stays (name_fault source names) names (i - 1) e
      (subst (λ xs. first_fault (name_fault source names) xs ≡ Some e) (sym (drop_back names i o pos within at))
      (ap (λ r. option_or r (name_fault source names o (drop i names))) walked.names
      ∙ (sym (same_name_fault source names (drop i names) o globals w b n has walked (behind_is names i b pos within bs) (front_is names i n pos within ns))
      ∙ f))))

-- ---- the table of shared variables and tasks

pub globals_none : (source : List ℕ) (names : List Occurrence) (table : BTreeMap (Bor (List ℕ)) Global) → ((q : List ℕ) → found table q ≡ None)
    → HasGlobals source (drop (length names) names) table
    × (record { shared = 0; functions = 0; tasks = 0; locals = 0 } ≡ counts_in (drop (length names) names))
globals_none source names table none =
    subst (λ xs. HasGlobals source xs table × (record { shared = 0; functions = 0; tasks = 0; locals = 0 } ≡ counts_in xs)) (sym (drop-length names))
    (none, refl)

counts_next : (c k : Counts) (o : Occurrence) (front : List Occurrence) → c ≡ counts_in front → k.shared ≡ c.shared + one_shared o.role
    → k.functions ≡ c.functions + one_function o.role → k.tasks ≡ c.tasks + one_task o.role → k.locals ≡ locals_after c.locals o.role
    → k ≡ counts_in (o ∷ front)
counts_next c k o front is e d f g =
    counts_same k _ _ _ _ (e ∙ ap (λ c. c.shared + one_shared o.role) is) (d ∙ ap (λ c. c.functions + one_function o.role) is)
    (f ∙ ap (λ c. c.tasks + one_task o.role) is) (g ∙ ap (λ c. locals_after c.locals o.role) is)

pub globals_back : (source : List ℕ) (names : List Occurrence) (i : ℕ) (o : Occurrence) → 0 < i → i ≤ length names → o ≡ get_or names (i - 1) o → (n : ℕ)
    → (table new : BTreeMap (Bor (List ℕ)) Global) (c k : Counts) → HasGlobals source (drop i names) table → c ≡ counts_in (drop i names)
    → (g : Option Global) → g ≡ global_with o.role n c.shared c.functions c.tasks → (t : List ℕ) → t ≡ text_of source o.span
    → ((q : List ℕ) → found new q ≡ option_or (found table q) (if_named (bytes_eq t q) g))
    → k.shared ≡ c.shared + one_shared o.role → k.functions ≡ c.functions + one_function o.role → k.tasks ≡ c.tasks + one_task o.role
    → k.locals ≡ locals_after c.locals o.role → n ≡ length names - 1 - (i - 1)
    → HasGlobals source (drop (i - 1) names) new × (k ≡ counts_in (drop (i - 1) names))
globals_back source names i o pos within at n table new c k has is g gs t ts put e d f h ns =
    subst (λ xs. HasGlobals source xs new × (k ≡ counts_in xs)) (sym (drop_back names i o pos within at))
    (has_next, counts_next c k o (drop i names) is e d f h)
  where
    g_is : g ≡ global_with o.role (length (drop i names)) (shared_in (drop i names)) (functions_in (drop i names)) (tasks_in (drop i names))
    g_is = gs ∙ (ap (λ n. global_with o.role n c.shared c.functions c.tasks) (front_is names i n pos within ns)
        ∙ ap (λ c. global_with o.role (length (drop i names)) c.shared c.functions c.tasks) is)

    has_next : HasGlobals source (o ∷ drop i names) new
    has_next q = put q ∙ (ap (λ r. option_or r (if_named (bytes_eq t q) g)) (has q)
        ∙ (ap (λ t. option_or (global_in source q (drop i names)) (if_named (bytes_eq t q) g)) ts
        ∙ ap (λ g. option_or (global_in source q (drop i names)) (if_named (bytes_eq (text_of source o.span) q) g)) g_is))
