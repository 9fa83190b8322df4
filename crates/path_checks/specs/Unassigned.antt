-- Where a path reads a local that has no value.
use Rattle.std.specs.Prelude.{◌≡◌, ◌⊎◌, ℕ, Bool, true, false, not, nat_lt, List, [], ◌∷◌, ◌++◌, map, length, if◌then◌else◌}
use Rattle.alp_text.specs.declared.lines.Span.{Span}
use Rattle.task_ast.specs.declared.names.Variable.TheVariants.{Local}
use Rattle.task_ast.specs.declared.names.VariableName.{VariableName}
use Rattle.task_ast.specs.Paths.{CheckedBlock, Access, read, write, unset, End, BlockPath}
use Rattle.path_sums.specs.Reaches.{at_once}
use Rattle.path_checks.specs.Firsts.{CheckedProgram, CheckedFunction, SomeFunction, SomeTask}
use Rattle.path_checks.specs.Loops.{is_local}

-- Whether a local is unassigned behind the accesses, where it is or isn't in front of them: a write assigns it, and a declaration
-- without a value makes it unassigned, at each turn of a loop anew.
abbrev pub is_unassigned : Bool → ℕ → List Access → Bool
is_unassigned before x [] = before
is_unassigned before x (read n ∷ more) = is_unassigned before x more
is_unassigned before x (write n ∷ more) = is_unassigned (if is_local x n.variable then false else before) x more
is_unassigned before x (unset n ∷ more) = is_unassigned (if is_local x n.variable then true else before) x more

-- Some path of the block reads a local at the place while it is unassigned. At its begin the first locals are assigned, so many as values are given to it, and
-- the others aren't. What a called function does is no matter of its caller's locals: it is taken as one that returns at once.
pub record ReadsUnassigned (functions : List CheckedFunction) (given : ℕ) (b : CheckedBlock) (s : Span) : Type 0 where
  pub x : ℕ
  pub name : VariableName
  pub is_x : name.variable ≡ Local x
  pub place : name.span ≡ s
  pub before : List Access
  pub after : List Access
  pub end : End
  pub path : BlockPath (map at_once functions) b (before ++ read name ∷ after) end
  pub unassigned : is_unassigned (not (nat_lt x given)) x before ≡ true

-- some path of a function, whose parameters have values, reads an unassigned local at the place
abbrev pub UnassignedInFunction : CheckedProgram → Span → Type 0
UnassignedInFunction program s = SomeFunction program.functions (λ f. ReadsUnassigned program.functions (length f.parameters) f.body s)

-- some path of a task does, which begins with all its locals unassigned
abbrev pub UnassignedInTask : CheckedProgram → Span → Type 0
UnassignedInTask program s = SomeTask program.tasks (λ task. ReadsUnassigned program.functions 0 task.body s)

-- some path reads an unassigned local at the place
abbrev pub UnassignedAt : CheckedProgram → Span → Type 0
UnassignedAt program s = UnassignedInFunction program s ⊎ UnassignedInTask program s
