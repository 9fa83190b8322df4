-- The locals of functions, and the registers that they take. No function is active twice, so each has its locals at one place: in registers above
-- those of all that it calls, where they fit, and else in RAM.
use Rattle.std.specs.Prelude.{ℕ, ◌+◌, Bool, max, nat_le, if◌then◌else◌, List, [], ◌∷◌, length}
use Rattle.task_ast.specs.Answers.{answers}
use Rattle.task_ast.specs.Paths.{CheckedFunction}
use Rattle.cost_bound.specs.Table.{capped}
use Rattle.cost_bound.specs.Counts.{CheckedBlock, block_calls}
use Rattle.cost_bound.specs.Frames.{block_locals}
use Rattle.function_locals.specs.declared.locals.FunctionLocals.{FunctionLocals}

-- whether all locals of a function stand in registers
abbrev pub is_light : FunctionLocals → Bool
is_light l = nat_le (l.base + l.own) 8

-- behind the registers that a function takes, with all that it calls
abbrev pub register_end : FunctionLocals → ℕ
register_end l = if is_light l then l.base + l.own else l.base

-- the greatest of these at the functions that are called, the first of them being that of a number
abbrev pub greatest_end : (ℕ → Bool) → ℕ → List FunctionLocals → ℕ
greatest_end calls k [] = 0
greatest_end calls k (l ∷ more) = max (if calls k then register_end l else 0) (greatest_end calls (k + 1) more)

-- behind the registers that the functions take which a text calls
abbrev pub base_of : List FunctionLocals → CheckedBlock → ℕ
base_of known b = greatest_end (λ k. block_calls k b) 0 known

-- the locals of a function, its parameters among them, as far as 64 bits keep their number
abbrev pub own_locals : CheckedFunction → ℕ
own_locals f = capped (length f.parameters + block_locals f.body)

-- a function's locals, where these are those of the functions in front of it
abbrev pub function_locals : List FunctionLocals → CheckedFunction → FunctionLocals
function_locals known f = record { base = base_of known f.body; own = own_locals f }

-- those of a source's functions
abbrev pub all_locals : List CheckedFunction → List FunctionLocals
all_locals fs = answers function_locals fs
