-- The words that a source's data and code are given.
use Rattle.std.specs.Prelude.{ℕ, ◌+◌, ◌-◌, ◌*◌, Bool, if◌then◌else◌, List}
use Rattle.task_ast.specs.declared.Extent.{Extent}
use Rattle.task_ast.specs.declared.Extent.TheVariants.{Scalar, Long, Array}
use Rattle.task_ast.specs.declared.SharedDeclaration.{SharedDeclaration}
use Rattle.cost_bound.specs.Counts.{CheckedBlock}
use Rattle.memory_map.specs.Words.{row_words}
use Rattle.cost_bound.specs.Summary.{Summary}
use Rattle.cost_bound.specs.Counts.{routine_words}
use Rattle.cost_bound.specs.Summaries.{summaries}
use Rattle.cost_bound.specs.Allowance.{CheckedProgram, CheckedTask, shared_sum, scalars_of, own_words, is_written, total}

-- the words of a variable
abbrev pub home_part : Extent → ℕ
home_part (Scalar _) = 1
home_part (Long _) = 2
home_part (Array length) = length

-- the words of all variables
abbrev pub home_words : List SharedDeclaration → ℕ
home_words shared = shared_sum (λ i extent. home_part extent) shared

-- the words of its copy: of an array only where some task writes it
abbrev pub copy_part : Bool → Extent → ℕ
copy_part written (Scalar _) = 1
copy_part written (Long _) = 2
copy_part written (Array length) = if written then length else 0

-- the words of all copies
abbrev pub copy_words : CheckedProgram → ℕ
copy_words p = shared_sum (λ i extent. copy_part (is_written (summaries p) p.tasks i) extent) p.shared

-- the words of a task's code, as the allowance has them: its own, and the copies of the functions that it reaches
abbrev pub body_words : List Summary → List SharedDeclaration → CheckedBlock → ℕ
body_words known shared code = own_words known shared code + routine_words known code

-- of the commit
abbrev pub commit_words : ℕ
commit_words = 200

-- of the boot: what it costs by itself, and for each task its entry and the copies of its scalars. It shares 599 words with the words of
-- the runtime and the commit
abbrev pub own_boot_words : ℕ
own_boot_words = 599 - row_words - commit_words

-- of the start of a task, with the copies of its scalars
abbrev pub entry_words : List Summary → List SharedDeclaration → CheckedBlock → ℕ
entry_words known shared code = 200 + 16 * scalars_of known shared code

-- of boot and all starts
abbrev pub boot_words : List Summary → List SharedDeclaration → List CheckedTask → ℕ
boot_words known shared tasks = own_boot_words + total (entry_words known shared) tasks
