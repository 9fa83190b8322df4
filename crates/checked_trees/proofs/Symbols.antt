-- What the names of a source stand for, where no check finds a fault.
use Rattle.std.proofs.Common.{◌≡◌, ℕ, suc, ◌+◌, ◌<◌, ◌≤◌, ◌==◌, ◌&&◌, ◌||◌, nat_le, nat_lt, Bool, true, false, cond, List, [], ◌∷◌, length, Option, Some, None}
use Rattle.std.proofs.Common.{slice_get, refl}
use Rattle.std.proofs.Common.{arith}
use Rattle.std.specs.Option.{option_or}
use Rattle.std.specs.Str.{bytes_eq}
use Rattle.std.proofs.lemmas.Bool.{and_parts}
use Rattle.std.proofs.lemmas.Bool.Decides.{nat_tests}
use Rattle.alp_text.specs.declared.lines.Span.{Span}
use Rattle.task_ast.specs.declared.WordType.{WordType}
use Rattle.task_ast.specs.declared.Extent.{Extent}
use Rattle.task_ast.specs.declared.Extent.TheVariants as extent
use Rattle.task_ast.specs.Types.{IsOneWord}
use Rattle.task_ast.specs.declared.names.Variable.TheVariants.{Shared, Local as AsLocal}
use Rattle.task_ast.specs.declared.SharedDeclaration.{SharedDeclaration}
use Rattle.task_check.specs.declared.fault.CheckFault.TheVariants as fault
use Rattle.task_check.specs.declared.occurrence.Role.TheVariants as role
use Rattle.task_check.specs.declared.symbol.Symbol.TheVariants as symbol
use Rattle.task_check.proofs.Interface.{no_fault, both_none}
use Rattle.war_analysis.specs.Plans.{IsScalarAt, IsArrayAt}
use Rattle.task_check.specs.declared.fault.CheckFault.{CheckFault}
use Rattle.task_check.specs.declared.occurrence.Role.{Role}
use Rattle.task_check.specs.declared.occurrence.Occurrence.{Occurrence}
use Rattle.task_check.specs.declared.symbol.Symbol.{Symbol}
use Rattle.task_check.specs.declared.symbol.Global.{Global}
use Rattle.task_check.specs.declared.symbol.Local.{Local}
use Rattle.task_check.specs.Scope.{text_of, shared_in, functions_in, tasks_in, locals_in, locals_after, global_with, local_with, if_named, global_in}
use Rattle.task_check.specs.Scope.{local_in, known_functions, known_symbol, or_global, meaning}
use Rattle.task_check.specs.LookedUp.{symbol_by, behind, symbol_at}
use Rattle.task_check.specs.Faults.{line_at, first_fault, limit_fault, is_too_many}
use Rattle.checked_trees.specs.WellFormed.{IsOfType}
use Rattle.checked_trees.proofs.Declared.{Functions, IsDeclaration, IsFunctionAt, DeclaresOf, Declared}
use Rattle.checked_trees.proofs.Scopes.{ScopesClose, IsNear, near}

-- a symbol is of a shared variable as it was declared, of a function as it was, or of one of so many locals, which are no more than 256, and its type
-- is that of one
abbrev pub IsSound : List SharedDeclaration → Functions → ℕ → Symbol → Type 0
IsSound shared functions locals (symbol.Scalar n of) = IsScalarAt shared n × IsOfType shared of (Shared n)
IsSound shared functions locals (symbol.Array n of) = IsArrayAt shared n × IsOfType shared of (Shared n)
IsSound shared functions locals (symbol.Local n of) = (n < 256) × IsOfType shared of (AsLocal n) × (n < locals)
IsSound shared functions locals (symbol.Function n of count) = IsFunctionAt functions n of count
IsSound shared functions locals (symbol.Task n) = Unit {0}

abbrev pub AreSound : List SharedDeclaration → Functions → ℕ → Option Symbol → Type 0
AreSound shared functions locals None = Unit {0}
AreSound shared functions locals (Some s) = IsSound shared functions locals s

-- no global is a local
abbrev IsGlobalSound : List SharedDeclaration → Functions → Symbol → Type 0
IsGlobalSound shared functions s = (locals : ℕ) → IsSound shared functions locals s

abbrev GlobalSound : List SharedDeclaration → Functions → Option Global → Type 0
GlobalSound shared functions None = Unit {0}
GlobalSound shared functions (Some g) = IsGlobalSound shared functions g.symbol

-- a local is one of 256, and has one word
abbrev LocalSound : Option Local → Type 0
LocalSound None = Unit {0}
LocalSound (Some l) = (l.number < 256) × IsOneWord l.word_type

-- of two there may be
global_or : (shared : List SharedDeclaration) (functions : Functions) (a b : Option Global) → GlobalSound shared functions a → GlobalSound shared functions b
    → GlobalSound shared functions (option_or a b)
global_or shared functions None b h k = k
global_or shared functions (Some g) b h k = h

local_or : (a b : Option Local) → LocalSound a → LocalSound b → LocalSound (option_or a b)
local_or None b h k = k
local_or (Some l) b h k = h

global_if : (shared : List SharedDeclaration) (functions : Functions) (c : Bool) (g : Option Global) → GlobalSound shared functions g
    → GlobalSound shared functions (if_named c g)
global_if shared functions true g h = h
global_if shared functions false g h = tt

local_if : (c : Bool) (l : Option Local) → LocalSound l → LocalSound (if_named c l)
local_if true l h = h
local_if false l h = tt

-- the declaration of a number, by what stands there
scalar_there : (shared : List SharedDeclaration) (n w : ℕ) (d : SharedDeclaration) → slice_get shared n ≡ Some d → d.extent ≡ extent.Scalar w
    → IsScalarAt shared n
scalar_there shared n w d e f = rw (e, f) refl

long_there : (shared : List SharedDeclaration) (n w : ℕ) (d : SharedDeclaration) → slice_get shared n ≡ Some d → d.extent ≡ extent.Long w
    → IsScalarAt shared n
long_there shared n w d e f = rw (e, f) refl

array_there : (shared : List SharedDeclaration) (n w : ℕ) (d : SharedDeclaration) → slice_get shared n ≡ Some d → d.extent ≡ extent.Array w → IsArrayAt shared n
array_there shared n w d e f = rw (e, f) refl

-- its type is that of one
type_there : (shared : List SharedDeclaration) (n : ℕ) (s : Span) (of : WordType) (e : Extent) (x : IsDeclaration shared n s of e)
    → IsOfType shared of (Shared n)
type_there shared n s of e x = rw (x.at, x.extent_is) x.typed

global_declared : (shared : List SharedDeclaration) (functions : Functions) (s : Span) (r : Role) (front n k tasks : ℕ)
    → DeclaresOf shared functions n k s r → GlobalSound shared functions (global_with r front n k tasks)
global_declared shared functions s (role.Shared of (extent.Scalar w)) front n k tasks h = λ locals.
    (scalar_there shared n w h.declaration h.at h.extent_is, type_there shared n s of (extent.Scalar w) h)
global_declared shared functions s (role.Shared of (extent.Long w)) front n k tasks h = λ locals.
    (long_there shared n w h.declaration h.at h.extent_is, type_there shared n s of (extent.Long w) h)
global_declared shared functions s (role.Shared of (extent.Array w)) front n k tasks h = λ locals.
    (array_there shared n w h.declaration h.at h.extent_is, type_there shared n s of (extent.Array w) h)
global_declared shared functions s (role.Function of count) front n k tasks h = λ locals. h
global_declared shared functions s role.Task front n k tasks h = λ locals. tt
global_declared shared functions s (role.Local of begin end extra) front n k tasks h = tt
global_declared shared functions s role.Scalar front n k tasks h = tt
global_declared shared functions s role.Element front n k tasks h = tt
global_declared shared functions s role.Counter front n k tasks h = tt
global_declared shared functions s (role.Call count) front n k tasks h = tt
global_declared shared functions s role.Target front n k tasks h = tt
global_declared shared functions s (role.Operand refused kept) front n k tasks h = tt

global_sound : (source name : List ℕ) (shared : List SharedDeclaration) (functions : Functions) (all : List Occurrence) → Declared shared functions all
    → GlobalSound shared functions (global_in source name all)
global_sound source name shared functions [] h = tt
global_sound source name shared functions (o ∷ front) h =
    global_or shared functions (global_in source name front) _ (global_sound source name shared functions front h.1)
    (global_if shared functions (bytes_eq (text_of source o.span) name) _
    (global_declared shared functions o.span o.role (length front) (shared_in front) (functions_in front) (tasks_in front) h.0))

-- ---- locals

-- no name is one too many
abbrev pub Few : List ℕ → List Occurrence → Type 0
Few source front = first_fault (limit_fault source) front ≡ None

pub front_clean : (check : Occurrence → List Occurrence → Option CheckFault) (o : Occurrence) (front : List Occurrence) → first_fault check (o ∷ front) ≡ None
    → first_fault check front ≡ None
front_clean check o front e = (both_none (first_fault check front) (check o front) e).0

pub here_clean : (check : Occurrence → List Occurrence → Option CheckFault) (o : Occurrence) (front : List Occurrence) → first_fault check (o ∷ front) ≡ None
    → check o front ≡ None
here_clean check o front e = (both_none (first_fault check front) (check o front) e).1

not_all : (n : ℕ) (extra : Bool) → n ≤ 256 → (extra || n == 256) ≡ false → n < 256
not_all n true h e = absurd (let never : true ≡ false = e in cc)
not_all n false h e = grind (arith, nat_tests)

one_more : (r : Role) (shared functions tasks n : ℕ) → n ≤ 256 → is_too_many r shared functions tasks n ≡ false → locals_after n r ≤ 256
one_more (role.Local of begin end extra) shared functions tasks n h e = let l = not_all n extra h e in omega (arith, l)
one_more (role.Shared of x) shared functions tasks n h e = h
one_more (role.Function of count) shared functions tasks n h e = omega arith
one_more role.Task shared functions tasks n h e = omega arith
one_more role.Scalar shared functions tasks n h e = h
one_more role.Element shared functions tasks n h e = h
one_more role.Counter shared functions tasks n h e = h
one_more (role.Call count) shared functions tasks n h e = h
one_more role.Target shared functions tasks n h e = h
one_more (role.Operand refused kept) shared functions tasks n h e = h

not_too_many : (source : List ℕ) (o : Occurrence) (front : List Occurrence) → Few source (o ∷ front)
    → is_too_many o.role (shared_in front) (functions_in front) (tasks_in front) (locals_in front) ≡ false
unfolding limit_fault
not_too_many source o front e =
    no_fault (is_too_many o.role (shared_in front) (functions_in front) (tasks_in front) (locals_in front)) (fault.TooMany (line_at source o))
    (here_clean (limit_fault source) o front e)

few_locals : (source : List ℕ) (front : List Occurrence) → Few source front → locals_in front ≤ 256
few_locals source [] e = omega arith
few_locals source (o ∷ front) e =
    one_more o.role (shared_in front) (functions_in front) (tasks_in front) (locals_in front)
    (few_locals source front (front_clean (limit_fault source) o front e))
    (not_too_many source o front e)

local_declared : (all : List SharedDeclaration) (known : Functions) (s : Span) (r : Role) (shared functions tasks n : ℕ)
    → DeclaresOf all known shared functions s r → n ≤ 256
    → is_too_many r shared functions tasks n ≡ false → LocalSound (local_with r functions tasks n)
local_declared all known s (role.Local of begin end extra) shared functions tasks n d h e = (not_all n extra h e, d)
local_declared all known s (role.Shared of x) shared functions tasks n d h e = tt
local_declared all known s (role.Function of count) shared functions tasks n d h e = tt
local_declared all known s role.Task shared functions tasks n d h e = tt
local_declared all known s role.Scalar shared functions tasks n d h e = tt
local_declared all known s role.Element shared functions tasks n d h e = tt
local_declared all known s role.Counter shared functions tasks n d h e = tt
local_declared all known s (role.Call count) shared functions tasks n d h e = tt
local_declared all known s role.Target shared functions tasks n d h e = tt
local_declared all known s (role.Operand refused kept) shared functions tasks n d h e = tt

local_sound : (source name : List ℕ) (shared : List SharedDeclaration) (functions : Functions) (front : List Occurrence) → Declared shared functions front
    → Few source front
    → LocalSound (local_in source name front)
local_sound source name shared functions [] d e = tt
local_sound source name shared functions (o ∷ front) d e =
    let few = front_clean (limit_fault source) o front e in
    local_or _ (local_in source name front)
    (local_if (bytes_eq (text_of source o.span) name) _
    (local_declared shared functions o.span o.role (shared_in front) (functions_in front) (tasks_in front) (locals_in front) d.0
    (few_locals source front few) (not_too_many source o front e)))
    (local_sound source name shared functions front d.1 few)

-- ---- what a name means

known_sound : (shared : List SharedDeclaration) (functions : Functions) (locals known : ℕ) (s : Symbol) → IsSound shared functions locals s
    → AreSound shared functions locals (known_symbol known s)
known_sound shared functions locals known (symbol.Scalar n of) h = h
known_sound shared functions locals known (symbol.Array n of) h = h
known_sound shared functions locals known (symbol.Local n of) h = h
known_sound shared functions locals known (symbol.Function n of count) h = by (nat_lt n known)
  where
    by : (b : Bool) → AreSound shared functions locals (cond b (Some (symbol.Function n of count)) None)
    by true = h
    by false = tt
known_sound shared functions locals known (symbol.Task n) h = tt

is_under : (a n : ℕ) → nat_le a n ≡ true → a < suc n
is_under a n h = grind (arith, nat_tests)

-- where so many names stand behind, and so many locals are declared in front
meaning_sound : (shared : List SharedDeclaration) (functions : Functions) (known n locals : ℕ) (l : Option Local) (g : Option Global) → LocalSound l
    → IsNear (suc n) locals l → GlobalSound shared functions g → AreSound shared functions locals (meaning known n l g)
meaning_sound shared functions known n locals None None h near k = tt
meaning_sound shared functions known n locals None (Some g) h near k = known_sound shared functions locals known g.symbol (k locals)
meaning_sound shared functions known n locals (Some l) g h near k = by (nat_le l.end n && nat_lt n l.begin) refl g k
  where
    by : (b : Bool) → (nat_le l.end n && nat_lt n l.begin) ≡ b → (g : Option Global) → GlobalSound shared functions g
        → AreSound shared functions locals (or_global known (cond b (Some (symbol.Local l.number l.word_type)) None) g)
    by true e g k = (h.0, h.1, near (is_under l.end n (and_parts (nat_le l.end n) (nat_lt n l.begin) e).0))
    by false e None k = tt
    by false e (Some g) k = known_sound shared functions locals known g.symbol (k locals)

-- by its role
by_role : (shared : List SharedDeclaration) (known : Functions) (s : Span) (r : Role) (all functions tasks n : ℕ) (found : Option Symbol)
    → DeclaresOf shared known all functions s r → n ≤ 256 → is_too_many r all functions tasks n ≡ false → AreSound shared known n found
    → AreSound shared known (locals_after n r) (symbol_by r n found)
by_role shared known s (role.Local of begin end extra) all functions tasks n found d h e k =
    let one : n < n + 1 = omega arith in (not_all n extra h e, d, one)
by_role shared known s (role.Shared of x) all functions tasks n found d h e k = tt
by_role shared known s (role.Function of count) all functions tasks n found d h e k = tt
by_role shared known s role.Task all functions tasks n found d h e k = tt
by_role shared known s role.Scalar all functions tasks n found d h e k = k
by_role shared known s role.Element all functions tasks n found d h e k = k
by_role shared known s role.Counter all functions tasks n found d h e k = k
by_role shared known s (role.Call count) all functions tasks n found d h e k = k
by_role shared known s role.Target all functions tasks n found d h e k = k
by_role shared known s (role.Operand refused kept) all functions tasks n found d h e k = tt

-- a name, the names in front of it, and that what is known in front is closed between bodies
pub record IsPlacedName (shared : List SharedDeclaration) (functions : Functions) (source : List ℕ) (all : List Occurrence) (o : Occurrence)
    (front : List Occurrence) : Type 0 where
  pub declared : Declared shared functions (o ∷ front)
  pub few : Few source (o ∷ front)
  pub closes : ScopesClose (suc (behind all front)) front

-- each name stands for what was declared
pub symbol_sound : (source : List ℕ) (shared : List SharedDeclaration) (functions : Functions) (all : List Occurrence) (o : Occurrence)
    (front : List Occurrence) → Declared shared functions all → IsPlacedName shared functions source all o front
    → AreSound shared functions (locals_after (locals_in front) o.role) (symbol_at source all o front)
unfolding symbol_at
symbol_sound source shared functions all o front d here =
    let few = front_clean (limit_fault source) o front here.few in
    let name = text_of source o.span in
    by_role shared functions o.span o.role (shared_in front) (functions_in front) (tasks_in front) (locals_in front) _ here.declared.0
    (few_locals source front few) (not_too_many source o front here.few)
    (meaning_sound shared functions (known_functions (functions_in front) (tasks_in front)) (behind all front) (locals_in front)
    (local_in source name front) (global_in source name all) (local_sound source name shared functions front here.declared.1 few)
    (near source name (suc (behind all front)) front here.closes) (global_sound source name shared functions all d))
