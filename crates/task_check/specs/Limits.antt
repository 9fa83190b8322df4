-- What holds of the numbers of a checked source.
use Rattle.std.specs.Prelude.{ℕ, Bool, ◌&&◌, nat_lt, [], ◌∷◌, length}
use Rattle.std.specs.List.{list_all}
use Rattle.task_ast.specs.declared.names.Variable.{Variable}
use Rattle.task_ast.specs.declared.names.Variable.TheVariants as variable
use Rattle.task_ast.specs.Paths.{CheckedProgram}
use Rattle.task_check.specs.LookedUp.{program_variables, program_targets}

-- whether a variable's number is below the number of shared variables, or below 256 for a local
abbrev pub is_numbered : ℕ → Variable → Bool
is_numbered shared (variable.Shared n) = nat_lt n shared
is_numbered shared (variable.Local n) = nat_lt n 256

-- whether each variable's number and each task's number is in range
abbrev pub are_numbered : CheckedProgram → Bool
are_numbered p = list_all (λ v. is_numbered (length p.shared) v.variable) (program_variables p)
    && list_all (λ n. nat_lt n (length p.tasks)) (program_targets p)
