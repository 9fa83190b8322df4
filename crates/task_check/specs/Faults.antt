-- What each check finds wrong at a name, and the first that it finds.
use Rattle.std.specs.Prelude.{ℕ, Bool, true, false, not, ◌==◌, ◌&&◌, ◌||◌, List, [], ◌∷◌, length, Option, Some, None, is_some}
use Rattle.std.specs.Option.{option_or, is_none}
use Rattle.task_ast.specs.declared.Extent.TheVariants as extent
use Rattle.task_lex.specs.Faults.{line_of}
use Rattle.task_check.specs.declared.fault.Kept.TheVariants as kept
use Rattle.task_check.specs.declared.fault.CheckFault.{CheckFault}
use Rattle.task_check.specs.declared.fault.CheckFault.TheVariants as fault
use Rattle.task_check.specs.declared.occurrence.Role.{Role}
use Rattle.task_check.specs.declared.occurrence.Role.TheVariants as role
use Rattle.task_check.specs.declared.occurrence.Occurrence.{Occurrence}
use Rattle.task_check.specs.declared.symbol.Symbol.{Symbol}
use Rattle.task_check.specs.declared.symbol.Symbol.TheVariants as symbol
use Rattle.task_check.specs.declared.symbol.Local.{Local}
use Rattle.task_check.specs.Scope.{text_of, shared_in, functions_in, tasks_in, locals_in, global_in, local_in, stands_in_front}
use Rattle.task_check.specs.LookedUp.{symbol_at}

-- the fault, if the test holds
abbrev pub fault_if : Bool → CheckFault → Option CheckFault
fault_if true f = Some f
fault_if false f = None

-- the line of a name
abbrev pub line_at : List ℕ → Occurrence → ℕ
line_at source o = line_of source o.span.from

-- the first fault of a check in the text's order; `front` are the names in front, the nearest first
abbrev pub first_fault : (Occurrence → List Occurrence → Option CheckFault) → List Occurrence → Option CheckFault
first_fault check [] = None
first_fault check (o ∷ front) = option_or (first_fault check front) (check o front)

-- ---- names

-- whether a local is one of the function or the task that the place is in
abbrev pub is_of_body : ℕ → ℕ → Option Local → Bool
is_of_body functions tasks None = false
is_of_body functions tasks (Some l) = l.functions == functions && l.tasks == tasks

-- whether a name is repeated that is declared: a shared variable, a function or a task where the first of the name stands in front, or any local in front
-- has it; a local where a shared variable, a function or a task in front has it, or a local of its function or task
abbrev pub is_repeated : Role → Bool → ℕ → ℕ → Option Local → Bool
is_repeated (role.Shared of e) global functions tasks local = global || is_some local
is_repeated (role.Function of count) global functions tasks local = global || is_some local
is_repeated role.Task global functions tasks local = global || is_some local
is_repeated (role.Local of begin end extra) global functions tasks local = global || is_of_body functions tasks local
is_repeated _ global functions tasks local = false

-- whether a name is unknown that is used: it stands for nothing
abbrev pub is_unknown : Role → Option Symbol → Bool
is_unknown role.Scalar s = is_none s
is_unknown role.Element s = is_none s
is_unknown role.Counter s = is_none s
is_unknown (role.Call count) s = is_none s
is_unknown role.Target s = is_none s
is_unknown _ s = false

-- a repeated or an unknown name
abbrev pub name_fault_if : List ℕ → Occurrence → Bool → Bool → Option CheckFault
name_fault_if source o repeated unknown = option_or
    (fault_if repeated (fault.RepeatedName (line_at source o) o.span))
    (fault_if unknown (fault.UnknownName (line_at source o) o.span))

-- what is wrong with a name at its place: it is repeated, or unknown
unfoldable pub name_fault : List ℕ → List Occurrence → Occurrence → List Occurrence → Option CheckFault
name_fault source all o front = name_fault_if source o
    (is_repeated o.role (stands_in_front (length front) (global_in source (text_of source o.span) all)) (functions_in front) (tasks_in front)
    (local_in source (text_of source o.span) front))
    (is_unknown o.role (symbol_at source all o front))

-- ---- uses

-- a task, a function, or an array
abbrev pub is_no_word : Option Symbol → Bool
is_no_word (Some (symbol.Task n)) = true
is_no_word (Some (symbol.Function n of count)) = true
is_no_word (Some (symbol.Array n of)) = true
is_no_word _ = false

-- something else than an array
abbrev pub is_no_array : Option Symbol → Bool
is_no_array (Some (symbol.Array n of)) = false
is_no_array _ = true

-- something else than a task
abbrev pub is_no_task : Option Symbol → Bool
is_no_task (Some (symbol.Task n)) = false
is_no_task _ = true

-- something else than a function of so many parameters
abbrev pub is_no_call : ℕ → Option Symbol → Bool
is_no_call count (Some (symbol.Function n of parameters)) = not (parameters == count)
is_no_call count _ = true

-- A task, a function or an array stands where a word is read or assigned, or in a `for`; something else than an array where an element is; something else
-- than a function of as many parameters where values are given; something else than a task behind a transition or as the entry.
-- The types of operands forbid what stands there. An array has no words.
abbrev pub use_fault_by : List ℕ → Occurrence → Role → Option Symbol → Option CheckFault
use_fault_by source o role.Scalar s = fault_if (is_no_word s) (fault.WrongUse (line_at source o) (kept.Name o.span))
use_fault_by source o role.Element s = fault_if (is_no_array s) (fault.WrongUse (line_at source o) (kept.Name o.span))
use_fault_by source o role.Counter s = fault_if (is_no_word s) (fault.WrongUse (line_at source o) (kept.Name o.span))
use_fault_by source o (role.Call count) s = fault_if (is_no_call count s) (fault.WrongUse (line_at source o) (kept.Name o.span))
use_fault_by source o role.Target s = fault_if (is_no_task s) (fault.WrongUse (line_at source o) (kept.Name o.span))
use_fault_by source o (role.Operand refused kept) s = fault_if refused (fault.WrongUse (line_at source o) kept)
use_fault_by source o (role.Shared of (extent.Array words)) s = fault_if (words == 0) (fault.BadLength (line_at source o) o.span)
use_fault_by source o _ s = None

-- the same of a name at its place
unfoldable pub use_fault : List ℕ → List Occurrence → Occurrence → List Occurrence → Option CheckFault
use_fault source all o front = use_fault_by source o o.role (symbol_at source all o front)

-- ---- limits

-- whether a declared name is one too many: 256 shared variables, 64 functions, 64 tasks or 256 locals of its function or task stand in front, or it is a
-- parameter behind eight others
abbrev pub is_too_many : Role → ℕ → ℕ → ℕ → ℕ → Bool
is_too_many (role.Shared of e) shared functions tasks locals = shared == 256
is_too_many (role.Function of count) shared functions tasks locals = functions == 64
is_too_many role.Task shared functions tasks locals = tasks == 64
is_too_many (role.Local of begin end extra) shared functions tasks locals = extra || locals == 256
is_too_many _ shared functions tasks locals = false

-- a declared name that is one too many
unfoldable pub limit_fault : List ℕ → Occurrence → List Occurrence → Option CheckFault
limit_fault source o front = fault_if (is_too_many o.role (shared_in front) (functions_in front) (tasks_in front) (locals_in front))
    (fault.TooMany (line_at source o))
