-- The answers of the checks.
use Rattle.std.specs.Prelude.{◌≡◌, ℕ, ◌⊎◌, List, [], ◌∷◌, Option, Some, None}
use Rattle.alp_text.specs.declared.lines.Span.{Span}
use Rattle.task_ast.specs.Tree.{Program}
use Rattle.task_ast.specs.Paths.{CheckedProgram}
use Rattle.task_lex.specs.Faults.{line_of}
use Rattle.path_checks.specs.Firsts.{IsFirst}
use Rattle.path_checks.specs.Loops.{BadLoopAt}
use Rattle.path_checks.specs.Unassigned.{UnassignedAt}
use Rattle.path_checks.specs.Ends.{NoReturnAt, NoTransitionAt}
use Rattle.task_check.specs.declared.fault.CheckFault.{CheckFault}
use Rattle.task_check.specs.declared.fault.CheckFault.TheVariants as fault
use Rattle.task_check.specs.Occurrences.{program_names}
use Rattle.task_check.specs.LookedUp.{program_back, program_variables, program_calls, program_targets, variables_in, calls_in, targets_in}
use Rattle.task_check.specs.Placed.{IsPlaced}
use Rattle.task_check.specs.Faults.{first_fault, name_fault, use_fault, limit_fault}

-- the first repeated or unknown name
abbrev pub names_fault : List ℕ → Program Span Span Span → Option CheckFault
names_fault source tree = first_fault (name_fault source (program_names source tree)) (program_names source tree)

-- the first wrong use or empty array
abbrev pub uses_fault : List ℕ → Program Span Span Span → Option CheckFault
uses_fault source tree = first_fault (use_fault source (program_names source tree)) (program_names source tree)

-- the first name too many
abbrev pub limits_fault : List ℕ → Program Span Span Span → Option CheckFault
limits_fault source tree = first_fault (limit_fault source) (program_names source tree)

-- The source with its names looked up: with their places put back it is the tree, and the names stand, in the text's order, for what the text says of them.
pub record IsLookedUp (source : List ℕ) (tree : Program Span Span Span) (checked : CheckedProgram) : Type 0 where
  pub places : program_back checked ≡ tree
  pub variables : program_variables checked ≡ variables_in source (program_names source tree) (program_names source tree)
  pub calls : program_calls checked ≡ calls_in source (program_names source tree) (program_names source tree)
  pub targets : program_targets checked ≡ targets_in source (program_names source tree) (program_names source tree)

-- The names are known and used as what they are, and these are the source's names looked up: so a call is of a function in front, and what ends a
-- function stands in functions and what ends a task in tasks.
pub record IsNamed (source : List ℕ) (tree : Program Span Span Span) (checked : CheckedProgram) : Type 0 where
  pub names : names_fault source tree ≡ None
  pub uses : uses_fault source tree ≡ None
  pub looked_up : IsLookedUp source tree checked
  pub placed : IsPlaced checked

-- The checks of loops and of paths find no fault.
pub record IsCleanOnPaths (checked : CheckedProgram) : Type 0 where
  pub loops : IsFirst None (BadLoopAt checked)
  pub assigned : IsFirst None (UnassignedAt checked)
  pub returns : IsFirst None (NoReturnAt checked)
  pub transitions : IsFirst None (NoTransitionAt checked)

-- The fault is the first of the first of these checks that finds one: bad loops, then unassigned locals, then ends that are
-- reached, of functions and then of tasks, which stand behind them.
abbrev pub IsRefusedOnPaths : List ℕ → CheckedProgram → CheckFault → Type 0
IsRefusedOnPaths source checked (fault.BadLoop line name) = IsFirst (Some name) (BadLoopAt checked) × (line ≡ line_of source name.from)
IsRefusedOnPaths source checked (fault.Unassigned line name) =
    IsFirst None (BadLoopAt checked) × IsFirst (Some name) (UnassignedAt checked) × (line ≡ line_of source name.from)
IsRefusedOnPaths source checked (fault.NoReturn line name) =
    IsFirst None (BadLoopAt checked) × IsFirst None (UnassignedAt checked) × IsFirst (Some name) (NoReturnAt checked) × (line ≡ line_of source name.from)
IsRefusedOnPaths source checked (fault.NoTransition line name) =
    IsFirst None (BadLoopAt checked) × IsFirst None (UnassignedAt checked) × IsFirst None (NoReturnAt checked) × IsFirst (Some name) (NoTransitionAt checked)
    × (line ≡ line_of source name.from)
IsRefusedOnPaths source checked _ = ⊥

-- No check finds a fault, and this is the source with its names looked up.
pub record IsAccepted (source : List ℕ) (tree : Program Span Span Span) (checked : CheckedProgram) : Type 0 where
  pub named : IsNamed source tree checked
  pub paths : IsCleanOnPaths checked
  pub limits : limits_fault source tree ≡ None

-- The fault is the first of the first check that finds one: names, uses, loops and paths, limits. The last two look at the source with its names looked up.
pub data IsRefused (source : List ℕ) (tree : Program Span Span Span) (e : CheckFault) : Type 0 where
  at_names : names_fault source tree ≡ Some e → IsRefused source tree e
  at_uses : names_fault source tree ≡ None → uses_fault source tree ≡ Some e → IsRefused source tree e
  on_paths : (checked : CheckedProgram) → IsNamed source tree checked → IsRefusedOnPaths source checked e → IsRefused source tree e
  at_limits : (checked : CheckedProgram) → IsNamed source tree checked → IsCleanOnPaths checked → limits_fault source tree ≡ Some e
      → IsRefused source tree e

-- a refusal, or want of memory
abbrev pub IsRefusedOrMemory : List ℕ → Program Span Span Span → CheckFault → Type 0
IsRefusedOrMemory source tree e = (e ≡ fault.Memory) ⊎ IsRefused source tree e
