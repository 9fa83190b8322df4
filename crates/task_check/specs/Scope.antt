-- What a name stands for at its place.
use Rattle.std.specs.Prelude.{ℕ, ◌+◌, ◌-◌, ◌==◌, if◌then◌else◌, Bool, true, false, cond, ◌&&◌, List, [], ◌∷◌, length, Option, Some, None, nat_lt, nat_le}
use Rattle.std.specs.Prelude.{slice_range}
use Rattle.std.specs.Option.{option_or}
use Rattle.std.specs.Str.{bytes_eq}
use Rattle.alp_text.specs.declared.lines.Span.{Span}
use Rattle.task_ast.specs.declared.WordType.{WordType}
use Rattle.task_ast.specs.declared.Extent.{Extent}
use Rattle.task_ast.specs.declared.Extent.TheVariants as extent
use Rattle.task_check.specs.declared.occurrence.Role.{Role}
use Rattle.task_check.specs.declared.occurrence.Role.TheVariants as role
use Rattle.task_check.specs.declared.occurrence.Occurrence.{Occurrence}
use Rattle.task_check.specs.declared.symbol.Symbol.{Symbol}
use Rattle.task_check.specs.declared.symbol.Symbol.TheVariants as symbol
use Rattle.task_check.specs.declared.symbol.Global.{Global}
use Rattle.task_check.specs.declared.symbol.Local.{Local}

-- the bytes of a name
abbrev pub text_of : List ℕ → Span → List ℕ
text_of source s = slice_range source s.from s.to

-- Below, `front` are the names in front of a place, the nearest first.

-- 1 for a shared variable
abbrev pub one_shared : Role → ℕ
one_shared (role.Shared of e) = 1
one_shared _ = 0

-- 1 for a task
abbrev pub one_task : Role → ℕ
one_task role.Task = 1
one_task _ = 0

-- 1 for a function
abbrev pub one_function : Role → ℕ
one_function (role.Function of count) = 1
one_function _ = 0

-- how many shared variables are declared in front
abbrev pub shared_in : List Occurrence → ℕ
shared_in [] = 0
shared_in (o ∷ front) = shared_in front + one_shared o.role

-- how many tasks
abbrev pub tasks_in : List Occurrence → ℕ
tasks_in [] = 0
tasks_in (o ∷ front) = tasks_in front + one_task o.role

-- how many functions
abbrev pub functions_in : List Occurrence → ℕ
functions_in [] = 0
functions_in (o ∷ front) = functions_in front + one_function o.role

-- how many locals of the task or the function, after one more name
abbrev pub locals_after : ℕ → Role → ℕ
locals_after n (role.Local of begin end extra) = n + 1
locals_after n (role.Function of count) = 0
locals_after n role.Task = 0
locals_after n _ = n

-- how many locals of the task or the function that the place is in, parameters among them
abbrev pub locals_in : List Occurrence → ℕ
locals_in [] = 0
locals_in (o ∷ front) = locals_after (locals_in front) o.role

-- a shared variable by its extent
abbrev pub shared_symbol : ℕ → WordType → Extent → Symbol
shared_symbol n of (extent.Scalar first) = symbol.Scalar n of
shared_symbol n of (extent.Long first) = symbol.Scalar n of
shared_symbol n of (extent.Array words) = symbol.Array n of

-- the shared variable, the function or the task that is declared by this role, with so many names, shared variables, functions and tasks in front
abbrev pub global_with : Role → ℕ → ℕ → ℕ → ℕ → Option Global
global_with (role.Shared of e) front shared functions tasks = Some (record { front = front; symbol = shared_symbol shared of e })
global_with (role.Function of count) front shared functions tasks = Some (record { front = front; symbol = symbol.Function functions of count })
global_with role.Task front shared functions tasks = Some (record { front = front; symbol = symbol.Task tasks })
global_with _ front shared functions tasks = None

-- the local that is declared by this role, with so many functions, tasks and locals of its own one in front
abbrev pub local_with : Role → ℕ → ℕ → ℕ → Option Local
local_with (role.Local of begin end extra) functions tasks locals =
    Some (record { functions = functions; tasks = tasks; number = locals; word_type = of; begin = begin; end = end })
local_with _ functions tasks locals = None

-- if it has the name
abbrev pub if_named : {A : Type 0} → Bool → Option A → Option A
if_named true found = found
if_named false found = None

-- the first shared variable, function or task of the name
abbrev pub global_in : List ℕ → List ℕ → List Occurrence → Option Global
global_in source name [] = None
global_in source name (o ∷ front) = option_or (global_in source name front)
    (if_named (bytes_eq (text_of source o.span) name)
    (global_with o.role (length front) (shared_in front) (functions_in front) (tasks_in front)))

-- the last local of the name
abbrev pub local_in : List ℕ → List ℕ → List Occurrence → Option Local
local_in source name [] = None
local_in source name (o ∷ front) = option_or
    (if_named (bytes_eq (text_of source o.span) name) (local_with o.role (functions_in front) (tasks_in front) (locals_in front)))
    (local_in source name front)

-- How many functions are known at a place with so many declared functions and tasks in front: all in a task, and in a function those in
-- front of it.
abbrev pub known_functions : ℕ → ℕ → ℕ
known_functions functions tasks = if tasks == 0 then functions - 1 else functions

-- a local, where it is known: so many names stand behind
abbrev pub known_local : ℕ → Local → Option Symbol
known_local behind l = cond (nat_le l.end behind && nat_lt behind l.begin) (Some (symbol.Local l.number l.word_type)) None

-- a shared variable or a task, or a function that is among so many known ones
abbrev pub known_symbol : ℕ → Symbol → Option Symbol
known_symbol known (symbol.Function n of count) = cond (nat_lt n known) (Some (symbol.Function n of count)) None
known_symbol known s = Some s

-- a local, or else a shared variable, a function or a task
abbrev pub or_global : ℕ → Option Symbol → Option Global → Option Symbol
or_global known (Some s) g = Some s
or_global known None None = None
or_global known None (Some g) = known_symbol known g.symbol

-- What a name stands for that is used with so many known functions and so many names behind: a local that is known there, or else a known function, or a
-- shared variable or a task, wherever it is declared.
abbrev pub meaning : ℕ → ℕ → Option Local → Option Global → Option Symbol
meaning known behind None g = or_global known None g
meaning known behind (Some l) g = or_global known (known_local behind l) g

-- whether a shared variable, a function or a task stands in front of a place, which has so many names in front
abbrev pub stands_in_front : ℕ → Option Global → Bool
stands_in_front front None = false
stands_in_front front (Some g) = nat_lt g.front front
