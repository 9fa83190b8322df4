-- The programs of a task.
use Rattle.std.specs.Prelude.{ℕ, List, [], get_or}
use Rattle.array_versions.specs.Program.{Program, nothing}

-- its own, and that of each function that it reaches, in order of declaration
pub record TaskPrograms : Type 0 where
  pub own : Program
  pub routines : List Program

-- those of no task
abbrev pub no_programs : TaskPrograms
no_programs = record { own = nothing; routines = [] }

-- the own program of the task of a number
abbrev pub program_at : List TaskPrograms → ℕ → Program
program_at programs k = (get_or programs k no_programs).own
