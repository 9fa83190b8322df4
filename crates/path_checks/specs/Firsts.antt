-- The first place of a text at which something is so.
use Rattle.std.specs.Prelude.{◌≤◌, ◌⊎◌, nat_le, if◌then◌else◌, Option, None, Some, List, [], ◌∷◌}
use Rattle.alp_text.specs.declared.lines.Span.{Span}
pub use Rattle.task_ast.specs.Paths.{CheckedProgram, CheckedFunction, CheckedTask}

-- the first place that is so, by where it begins; or no place is
abbrev pub IsFirst : Option Span → (Span → Type 0) → Type 0
IsFirst None P = (s : Span) → P s → ⊥
IsFirst (Some first) P = P first × ((s : Span) → P s → first.from ≤ s.from)

-- some of these is so
abbrev pub SomeOf : {A : Type 0} → List A → (A → Type 0) → Type 0
SomeOf [] P = ⊥
SomeOf (x ∷ more) P = P x ⊎ SomeOf more P

-- some of the functions is so
abbrev pub SomeFunction : List CheckedFunction → (CheckedFunction → Type 0) → Type 0
SomeFunction functions P = SomeOf functions P

-- some of the tasks is so
abbrev pub SomeTask : List CheckedTask → (CheckedTask → Type 0) → Type 0
SomeTask tasks P = SomeOf tasks P

-- the place that begins first, of those that are there
abbrev pub first_of : Option Span → Option Span → Option Span
first_of None other = other
first_of (Some p) None = Some p
first_of (Some p) (Some q) = Some (if nat_le p.from q.from then p else q)
