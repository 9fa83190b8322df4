-- Numbers are in range where no name is one too many.
use Rattle.std.proofs.Common.{◌≡◌, ℕ, ◌+◌, ◌<◌, ◌≤◌, Bool, true, false, List, [], ◌∷◌, ◌++◌, length, Option, Some, None, refl, sym, subst, ap, ◌∙◌, arith}
use Rattle.std.specs.Prelude.{cond, ◌&&◌, ◌||◌, ◌==◌, nat_lt, nat_le}
use Rattle.std.proofs.lemmas.Bool.Decides.{nat_tests}
use Rattle.std.proofs.lemmas.Bool.{lt-ltb}
use Rattle.std.proofs.lemmas.List.{length-append, length-map}
use Rattle.std.proofs.lemmas.List.Folds.{list_all-append}
use Rattle.std.specs.List.{list_all}
use Rattle.std.specs.Option.{option_or}
use Rattle.std.specs.Str.{bytes_eq}
use Rattle.alp_text.specs.declared.lines.Span.{Span}
use Rattle.task_ast.specs.declared.names.FunctionName.{FunctionName}
use Rattle.task_ast.specs.Paths.{CheckedProgram}
use Rattle.task_ast.specs.declared.Extent.TheVariants as extent
use Rattle.task_ast.specs.declared.names.VariableName.{VariableName}
use Rattle.task_ast.specs.declared.names.TaskName.{TaskName}
use Rattle.task_ast.specs.declared.Source.{Source}
use Rattle.task_ast.specs.Tree.{Program}
use Rattle.task_ast.specs.View.{program_of, function_of, task_of}
use Rattle.task_check.specs.declared.occurrence.Role.{Role}
use Rattle.task_check.specs.declared.occurrence.Role.TheVariants as role
use Rattle.task_check.specs.declared.occurrence.Occurrence.{Occurrence}
use Rattle.task_check.specs.declared.symbol.Symbol.{Symbol}
use Rattle.task_check.specs.declared.symbol.Symbol.TheVariants as symbol
use Rattle.task_check.specs.declared.symbol.Global.{Global}
use Rattle.task_check.specs.declared.symbol.Local.{Local}
use Rattle.task_check.specs.declared.symbol.TypedVariable.{TypedVariable}
use Rattle.task_check.specs.declared.fault.CheckFault.{CheckFault}
use Rattle.task_check.specs.Occurrences.{program_names}
use Rattle.task_check.specs.Scope.{text_of, one_shared, one_function, one_task, shared_in, functions_in, tasks_in, locals_in, locals_after, local_in}
use Rattle.task_check.specs.Scope.{local_with, global_in, global_with, known_functions, known_symbol}
use Rattle.task_check.specs.Scope.{if_named, or_global, meaning}
use Rattle.task_check.specs.LookedUp.{program_back, function_back, task_back, program_variables, program_targets, symbol_by, symbol_at, behind, variable_of}
use Rattle.task_check.specs.LookedUp.{target_of, variable_by}
use Rattle.task_check.specs.LookedUp.{target_by, variables_in, targets_in}
use Rattle.task_check.specs.Faults.{first_fault, name_fault, name_fault_if, use_fault, use_fault_by, limit_fault, fault_if, is_unknown, is_too_many}
use Rattle.task_check.specs.Limits.{is_numbered, are_numbered}
use Rattle.task_check.specs.Answers.{IsLookedUp, limits_fault}
use Rattle.task_check.proofs.Counted.{shared_of_program, functions_of_program, tasks_of_program}

-- no fault at a name nor in front of it
pub both_none : {A : Type 0} (a b : Option A) → option_or a b ≡ None → (a ≡ None) × (b ≡ None)
both_none None b h = (refl, h)
both_none (Some x) b h = absurd (cc)

-- ---- limits

-- the numbers of declarations in front are in range
record AreFew (front : List Occurrence) : Type 0 where
  shared : shared_in front ≤ 256
  functions : functions_in front ≤ 64
  tasks : tasks_in front ≤ 64
  locals : locals_in front ≤ 256

-- one more of this role is none too many
abbrev IsOneOf : Role → List Occurrence → Type 0
IsOneOf (role.Shared of e) front = shared_in front < 256
IsOneOf (role.Function of count) front = functions_in front < 64
IsOneOf role.Task front = tasks_in front < 64
IsOneOf (role.Local of b e extra) front = locals_in front < 256
IsOneOf _ front = Unit {0}

-- no fault where the test fails
pub no_fault : (b : Bool) (e : CheckFault) → fault_if b e ≡ None → b ≡ false
no_fault true e h = absurd (cc)
no_fault false e h = refl

below : (n m : ℕ) → n ≤ m → (n == m) ≡ false → n < m
below n m le h = grind (arith, nat_tests)

neither : (a b : Bool) → (a || b) ≡ false → b ≡ false
neither true b h = absurd (cc)
neither false b h = h

one_of : (source : List ℕ) (o : Occurrence) (r : Role) (front : List Occurrence) → AreFew front
    → is_too_many r (shared_in front) (functions_in front) (tasks_in front) (locals_in front) ≡ false → IsOneOf r front
one_of source o (role.Shared of e) front few h = below (shared_in front) 256 few.shared h
one_of source o (role.Function of count) front few h = below (functions_in front) 64 few.functions h
one_of source o role.Task front few h = below (tasks_in front) 64 few.tasks h
one_of source o (role.Local of b e extra) front few h = below (locals_in front) 256 few.locals (neither extra (locals_in front == 256) h)
one_of source o role.Scalar front few h = tt
one_of source o role.Element front few h = tt
one_of source o role.Counter front few h = tt
one_of source o (role.Call count) front few h = tt
one_of source o role.Target front few h = tt
one_of source o (role.Operand refused kept) front few h = tt

-- the numbers after one more of this role are in range
abbrev AreWithin : Role → List Occurrence → Type 0
AreWithin r front = (shared_in front + one_shared r ≤ 256) × (functions_in front + one_function r ≤ 64) × (tasks_in front + one_task r ≤ 64)
    × (locals_after (locals_in front) r ≤ 256)

-- one more
few_more : (o : Occurrence) (r : Role) (front : List Occurrence) → r ≡ o.role → AreFew front → IsOneOf r front → AreFew (o ∷ front)
few_more o r front is few one =
    subst (λ r. AreWithin r front → AreFew (o ∷ front)) (sym is) (λ h. record { shared = h.0; functions = h.1; tasks = h.2; locals = h.3 }) (bounds r one)
  where
    bounds : (r : Role) → IsOneOf r front → AreWithin r front
    bounds (role.Shared of e) one =
        let a = few.shared in let b = few.functions in let c = few.tasks in let d = few.locals in (omega arith, omega arith, omega arith, omega arith)
    bounds (role.Function of count) one =
        let a = few.shared in let b = few.functions in let c = few.tasks in let d = few.locals in (omega arith, omega arith, omega arith, omega arith)
    bounds role.Task one =
        let a = few.shared in let b = few.functions in let c = few.tasks in let d = few.locals in (omega arith, omega arith, omega arith, omega arith)
    bounds (role.Local of b e extra) one =
        let a = few.shared in let b = few.functions in let c = few.tasks in let d = few.locals in (omega arith, omega arith, omega arith, omega arith)
    bounds role.Scalar one =
        let a = few.shared in let b = few.functions in let c = few.tasks in let d = few.locals in (omega arith, omega arith, omega arith, omega arith)
    bounds role.Element one =
        let a = few.shared in let b = few.functions in let c = few.tasks in let d = few.locals in (omega arith, omega arith, omega arith, omega arith)
    bounds role.Counter one =
        let a = few.shared in let b = few.functions in let c = few.tasks in let d = few.locals in (omega arith, omega arith, omega arith, omega arith)
    bounds (role.Call count) one =
        let a = few.shared in let b = few.functions in let c = few.tasks in let d = few.locals in (omega arith, omega arith, omega arith, omega arith)
    bounds role.Target one =
        let a = few.shared in let b = few.functions in let c = few.tasks in let d = few.locals in (omega arith, omega arith, omega arith, omega arith)
    bounds (role.Operand refused kept) one =
        let a = few.shared in let b = few.functions in let c = few.tasks in let d = few.locals in (omega arith, omega arith, omega arith, omega arith)

module _ (source : List ℕ) where
  one_here : (o : Occurrence) (front : List Occurrence) → AreFew front → limit_fault source o front ≡ None → IsOneOf o.role front
  unfolding limit_fault
  one_here o front few h = one_of source o o.role front few (no_fault _ _ h)

  are_few : (front : List Occurrence) → first_fault (limit_fault source) front ≡ None → AreFew front
  are_few [] h = record { shared = omega arith; functions = omega arith; tasks = omega arith; locals = omega arith }
  are_few (o ∷ front) h =
      let both = both_none (first_fault (limit_fault source) front) (limit_fault source o front) h in
      let few = are_few front both.0 in
      few_more o o.role front refl few (one_here o front few both.1)

-- ---- what names stand for

-- a symbol's number is below that of the shared variables or the tasks, or below 256
abbrev IsInRange : ℕ → ℕ → Symbol → Type 0
IsInRange shared tasks (symbol.Scalar n of) = n < shared
IsInRange shared tasks (symbol.Array n of) = n < shared
IsInRange shared tasks (symbol.Function n of count) = Unit {0}
IsInRange shared tasks (symbol.Task n) = n < tasks
IsInRange shared tasks (symbol.Local n of) = n < 256

-- the same of what may be there
abbrev IfInRange : ℕ → ℕ → Option Symbol → Type 0
IfInRange shared tasks None = Unit {0}
IfInRange shared tasks (Some s) = IsInRange shared tasks s

-- of a shared variable or a task
abbrev IfGlobal : ℕ → ℕ → Option Global → Type 0
IfGlobal shared tasks None = Unit {0}
IfGlobal shared tasks (Some g) = IsInRange shared tasks g.symbol

-- of a local
abbrev pub IfLocal : Option Local → Type 0
IfLocal None = Unit {0}
IfLocal (Some l) = l.number < 256

local_or : (b : Bool) (l other : Option Local) → IfLocal l → IfLocal other → IfLocal (option_or (if_named b l) other)
local_or false l other h k = k
local_or true None other h k = k
local_or true (Some l) other h k = h

global_or : (shared tasks : ℕ) (b : Bool) (other g : Option Global) → IfGlobal shared tasks other → IfGlobal shared tasks g
    → IfGlobal shared tasks (option_or other (if_named b g))
global_or shared tasks b (Some x) g h k = h
global_or shared tasks false None g h k = tt
global_or shared tasks true None g h k = k

local_here : (r : Role) (front : List Occurrence) → IsOneOf r front → IfLocal (local_with r (functions_in front) (tasks_in front) (locals_in front))
local_here (role.Shared of e) front one = tt
local_here (role.Function of count) front one = tt
local_here role.Task front one = tt
local_here (role.Local of b e extra) front one = one
local_here role.Scalar front one = tt
local_here role.Element front one = tt
local_here role.Counter front one = tt
local_here (role.Call count) front one = tt
local_here role.Target front one = tt
local_here (role.Operand refused kept) front one = tt

global_here : (shared tasks n : ℕ) (r : Role) (front : List Occurrence) → shared_in front + one_shared r ≤ shared → tasks_in front + one_task r ≤ tasks
    → IfGlobal shared tasks (global_with r n (shared_in front) (functions_in front) (tasks_in front))
global_here shared tasks n (role.Shared of (extent.Scalar x)) front h k = omega arith
global_here shared tasks n (role.Shared of (extent.Long x)) front h k = omega arith
global_here shared tasks n (role.Shared of (extent.Array x)) front h k = omega arith
global_here shared tasks n (role.Function of count) front h k = tt
global_here shared tasks n role.Task front h k = omega arith
global_here shared tasks n (role.Local of b e extra) front h k = tt
global_here shared tasks n role.Scalar front h k = tt
global_here shared tasks n role.Element front h k = tt
global_here shared tasks n role.Counter front h k = tt
global_here shared tasks n (role.Call count) front h k = tt
global_here shared tasks n role.Target front h k = tt
global_here shared tasks n (role.Operand refused kept) front h k = tt

known_in : (shared tasks known : ℕ) (s : Symbol) → IsInRange shared tasks s → IfInRange shared tasks (known_symbol known s)
known_in shared tasks known (symbol.Scalar n of) h = h
known_in shared tasks known (symbol.Array n of) h = h
known_in shared tasks known (symbol.Task n) h = h
known_in shared tasks known (symbol.Local n of) h = h
known_in shared tasks known (symbol.Function n of count) h = by (nat_lt n known)
  where
    by : (b : Bool) → IfInRange shared tasks (cond b (Some (symbol.Function n of count)) None)
    by true = tt
    by false = tt

meaning_in : (shared tasks known n : ℕ) (l : Option Local) (g : Option Global) → IfLocal l → IfGlobal shared tasks g
    → IfInRange shared tasks (meaning known n l g)
meaning_in shared tasks known n None None h k = tt
meaning_in shared tasks known n None (Some g) h k = known_in shared tasks known g.symbol k
meaning_in shared tasks known n (Some l) g h k = here (nat_le l.end n && nat_lt n l.begin)
  where
    or_in : (g : Option Global) → IfGlobal shared tasks g → IfInRange shared tasks (or_global known None g)
    or_in None k = tt
    or_in (Some g) k = known_in shared tasks known g.symbol k

    here : (b : Bool) → IfInRange shared tasks (or_global known (cond b (Some (symbol.Local l.number l.word_type)) None) g)
    here true = h
    here false = or_in g k

symbol_in : (shared tasks : ℕ) (r : Role) (front : List Occurrence) (found : Option Symbol) → IsOneOf r front → IfInRange shared tasks found
    → IfInRange shared tasks (symbol_by r (locals_in front) found)
symbol_in shared tasks (role.Shared of e) front found one h = tt
symbol_in shared tasks (role.Function of count) front found one h = tt
symbol_in shared tasks role.Task front found one h = tt
symbol_in shared tasks (role.Local of b e extra) front found one h = one
symbol_in shared tasks role.Scalar front found one h = h
symbol_in shared tasks role.Element front found one h = h
symbol_in shared tasks role.Counter front found one h = h
symbol_in shared tasks (role.Call count) front found one h = h
symbol_in shared tasks role.Target front found one h = h
symbol_in shared tasks (role.Operand refused kept) front found one h = tt

-- whether a variable's number is in range
abbrev is_fine : ℕ → TypedVariable → Bool
is_fine shared v = is_numbered shared v.variable

variable_fine : (shared tasks : ℕ) (s : Symbol) → IsInRange shared tasks s → list_all (is_fine shared) (variable_of s) ≡ true
variable_fine shared tasks (symbol.Scalar n of) h = ap (λ b. b && true) (lt-ltb n shared h)
variable_fine shared tasks (symbol.Array n of) h = ap (λ b. b && true) (lt-ltb n shared h)
variable_fine shared tasks (symbol.Local n of) h = ap (λ b. b && true) (lt-ltb n 256 h)
variable_fine shared tasks (symbol.Function n of count) h = refl
variable_fine shared tasks (symbol.Task n) h = refl

variables_fine : (shared tasks : ℕ) (r : Role) (s : Option Symbol) → IfInRange shared tasks s → list_all (is_fine shared) (variable_by r s) ≡ true
variables_fine shared tasks role.Target s h = refl
variables_fine shared tasks (role.Call count) s h = refl
variables_fine shared tasks (role.Function of count) None h = refl
variables_fine shared tasks (role.Function of count) (Some s) h = variable_fine shared tasks s h
variables_fine shared tasks (role.Shared of e) None h = refl
variables_fine shared tasks (role.Shared of e) (Some s) h = variable_fine shared tasks s h
variables_fine shared tasks role.Task None h = refl
variables_fine shared tasks role.Task (Some s) h = variable_fine shared tasks s h
variables_fine shared tasks (role.Local of b e extra) None h = refl
variables_fine shared tasks (role.Local of b e extra) (Some s) h = variable_fine shared tasks s h
variables_fine shared tasks role.Scalar None h = refl
variables_fine shared tasks role.Scalar (Some s) h = variable_fine shared tasks s h
variables_fine shared tasks role.Element None h = refl
variables_fine shared tasks role.Element (Some s) h = variable_fine shared tasks s h
variables_fine shared tasks role.Counter None h = refl
variables_fine shared tasks role.Counter (Some s) h = variable_fine shared tasks s h
variables_fine shared tasks (role.Operand refused kept) None h = refl
variables_fine shared tasks (role.Operand refused kept) (Some s) h = variable_fine shared tasks s h

target_fine : (shared tasks : ℕ) (s : Symbol) → IsInRange shared tasks s → list_all (λ n. nat_lt n tasks) (target_of s) ≡ true
target_fine shared tasks (symbol.Scalar n of) h = refl
target_fine shared tasks (symbol.Array n of) h = refl
target_fine shared tasks (symbol.Local n of) h = refl
target_fine shared tasks (symbol.Function n of count) h = refl
target_fine shared tasks (symbol.Task n) h = ap (λ b. b && true) (lt-ltb n tasks h)

targets_fine : (shared tasks : ℕ) (r : Role) (s : Option Symbol) → IfInRange shared tasks s → list_all (λ n. nat_lt n tasks) (target_by r s) ≡ true
targets_fine shared tasks role.Target None h = refl
targets_fine shared tasks role.Target (Some s) h = target_fine shared tasks s h
targets_fine shared tasks (role.Shared of e) s h = refl
targets_fine shared tasks role.Task s h = refl
targets_fine shared tasks (role.Local of b e extra) s h = refl
targets_fine shared tasks (role.Function of count) s h = refl
targets_fine shared tasks (role.Call count) s h = refl
targets_fine shared tasks role.Scalar s h = refl
targets_fine shared tasks role.Element s h = refl
targets_fine shared tasks role.Counter s h = refl
targets_fine shared tasks (role.Operand refused kept) s h = refl

all_both : {A : Type 0} (test : A → Bool) (xs ys : List A) → list_all test xs ≡ true → list_all test ys ≡ true → list_all test (xs ++ ys) ≡ true
all_both test xs ys h k = list_all-append test xs ys ∙ (ap (λ b. b && list_all test ys) h ∙ k)

module _ (source : List ℕ) where
  local_in_range : (name : List ℕ) (front : List Occurrence) → first_fault (limit_fault source) front ≡ None → IfLocal (local_in source name front)
  local_in_range name [] h = tt
  local_in_range name (o ∷ front) h =
      let both = both_none (first_fault (limit_fault source) front) (limit_fault source o front) h in
      local_or (bytes_eq (text_of source o.span) name) (local_with o.role (functions_in front) (tasks_in front) (locals_in front))
      (local_in source name front)
      (local_here o.role front (one_here source o front (are_few source front both.0) both.1)) (local_in_range name front both.0)

  global_in_range : (shared tasks : ℕ) (name : List ℕ) (front : List Occurrence) → shared_in front ≤ shared → tasks_in front ≤ tasks
      → IfGlobal shared tasks (global_in source name front)
  global_in_range shared tasks name [] h k = tt
  global_in_range shared tasks name (o ∷ front) h k =
      global_or shared tasks (bytes_eq (text_of source o.span) name) (global_in source name front)
      (global_with o.role (length front) (shared_in front) (functions_in front) (tasks_in front))
      (global_in_range shared tasks name front (omega arith) (omega arith)) (global_here shared tasks (length front) o.role front h k)

  module _ (all : List Occurrence) where
    symbol_in_range : (o : Occurrence) (front : List Occurrence) → first_fault (limit_fault source) front ≡ None → limit_fault source o front ≡ None
        → IfInRange (shared_in all) (tasks_in all) (symbol_at source all o front)
    unfolding symbol_at
    symbol_in_range o front h k =
        let name = text_of source o.span in
        let known = known_functions (functions_in front) (tasks_in front) in
        symbol_in (shared_in all) (tasks_in all) o.role front (meaning known (behind all front) (local_in source name front) (global_in source name all))
        (one_here source o front (are_few source front h) k)
        (meaning_in (shared_in all) (tasks_in all) known (behind all front) (local_in source name front) (global_in source name all)
        (local_in_range name front h)
        (global_in_range (shared_in all) (tasks_in all) name all (omega arith) (omega arith)))

    variables_in_range : (front : List Occurrence) → first_fault (limit_fault source) front ≡ None
        → list_all (is_fine (shared_in all)) (variables_in source all front) ≡ true
    variables_in_range [] h = refl
    variables_in_range (o ∷ front) h =
        let both = both_none (first_fault (limit_fault source) front) (limit_fault source o front) h in
        all_both (is_fine (shared_in all)) (variables_in source all front) (variable_by o.role (symbol_at source all o front)) (variables_in_range front both.0)
        (variables_fine (shared_in all) (tasks_in all) o.role (symbol_at source all o front) (symbol_in_range o front both.0 both.1))

    targets_in_range : (front : List Occurrence) → first_fault (limit_fault source) front ≡ None
        → list_all (λ n. nat_lt n (tasks_in all)) (targets_in source all front) ≡ true
    targets_in_range [] h = refl
    targets_in_range (o ∷ front) h =
        let both = both_none (first_fault (limit_fault source) front) (limit_fault source o front) h in
        all_both (λ n. nat_lt n (tasks_in all)) (targets_in source all front) (target_by o.role (symbol_at source all o front)) (targets_in_range front both.0)
        (targets_fine (shared_in all) (tasks_in all) o.role (symbol_at source all o front) (symbol_in_range o front both.0 both.1))

-- ---- a source with its names looked up, of which none is too many

module _ (source : List ℕ) (tree : Program Span Span Span) (checked : CheckedProgram) (is : IsLookedUp source tree checked)
    (fine : limits_fault source tree ≡ None) where
  shared_is : shared_in (program_names source tree) ≡ length checked.shared
  shared_is = shared_of_program source tree ∙ ap (λ p. length p.shared) (sym is.places)

  functions_are : functions_in (program_names source tree) ≡ length checked.functions
  functions_are = functions_of_program source tree ∙ (ap (λ p. length p.functions) (sym is.places) ∙ length-map checked.functions function_back)

  tasks_are : tasks_in (program_names source tree) ≡ length checked.tasks
  tasks_are = tasks_of_program source tree ∙ (ap (λ p. length p.tasks) (sym is.places) ∙ length-map checked.tasks task_back)

  -- there are at most 256 shared variables
  pub few_shared : length checked.shared ≤ 256
  few_shared = let h = are_few source (program_names source tree) fine in let k = h.shared in omega (arith, shared_is)

  -- there are at most 64 functions
  pub few_functions : length checked.functions ≤ 64
  few_functions = let h = are_few source (program_names source tree) fine in let k = h.functions in omega (arith, functions_are)

  -- there are at most 64 tasks
  pub few_tasks : length checked.tasks ≤ 64
  few_tasks = let h = are_few source (program_names source tree) fine in let k = h.tasks in omega (arith, tasks_are)

  variables_numbered : list_all (λ v. is_numbered (length checked.shared) v.variable) (program_variables checked) ≡ true
  variables_numbered = ap (list_all (λ v. is_numbered (length checked.shared) v.variable)) is.variables
      ∙ subst (λ n. list_all (λ v. is_numbered n v.variable) (variables_in source (program_names source tree) (program_names source tree)) ≡ true) shared_is
      (variables_in_range source (program_names source tree) (program_names source tree) fine)

  -- each transition names one of the tasks
  pub targets_numbered : list_all (λ n. nat_lt n (length checked.tasks)) (program_targets checked) ≡ true
  targets_numbered = ap (list_all (λ n. nat_lt n (length checked.tasks))) is.targets
      ∙ subst (λ m. list_all (λ n. nat_lt n m) (targets_in source (program_names source tree) (program_names source tree)) ≡ true) tasks_are
      (targets_in_range source (program_names source tree) (program_names source tree) fine)

  pub numbered : are_numbered checked ≡ true
  numbered = ap (λ b. b && list_all (λ n. nat_lt n (length checked.tasks)) (program_targets checked)) variables_numbered
      ∙ targets_numbered

-- the same of the code's tree, where the walk found none too many
module _ (source : List ℕ) (s : Source VariableName TaskName FunctionName) (is : IsLookedUp source (program_back (program_of s)) (program_of s))
    (too_many : Option CheckFault)
    (limits : too_many ≡ limits_fault source (program_back (program_of s))) (fine : too_many ≡ None) where
  no_limit : limits_fault source (program_back (program_of s)) ≡ None
  no_limit = sym limits ∙ fine

  pub few_tasks_of : length s.tasks.items ≤ 64
  few_tasks_of = let h = few_tasks source (program_back (program_of s)) (program_of s) is no_limit in omega (arith, length-map s.tasks.items task_of)

  pub few_functions_of : length s.functions.items ≤ 64
  few_functions_of = let h = few_functions source (program_back (program_of s)) (program_of s) is no_limit in
      omega (arith, length-map s.functions.items function_of)

  pub few_shared_of : length s.shared.items ≤ 256
  few_shared_of = few_shared source (program_back (program_of s)) (program_of s) is no_limit

  pub numbered_of : are_numbered (program_of s) ≡ true
  numbered_of = numbered source (program_back (program_of s)) (program_of s) is no_limit

-- a name without a fault is known
pub no_name_fault : (source : List ℕ) (o : Occurrence) (repeated unknown : Bool) → name_fault_if source o repeated unknown ≡ None → unknown ≡ false
no_name_fault source o repeated false h = refl
no_name_fault source o true true h = absurd (cc)
no_name_fault source o false true h = absurd (cc)
