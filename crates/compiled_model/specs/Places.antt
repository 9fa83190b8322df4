-- The places of a compiled source, by its layout, as the crash theorem takes them.
use Rattle.std.specs.Prelude.{ℕ, ◌+◌, ◌==◌, ◌&&◌, ◌||◌, not, Bool, false, List, [], ◌∷◌, length}
use Rattle.task_ast.specs.Paths.{CheckedBlock, CheckedFunction}
use Rattle.task_ast.specs.declared.names.Variable.TheVariants.{Shared}
use Rattle.path_sums.specs.Sums.{block_sum, call_sums}
use Rattle.path_sums.specs.Access.{summary, private_of}
use Rattle.cost_bound.specs.Summaries.{summaries}
use Rattle.cost_bound.specs.Allowance.{list_of}
use Rattle.cost_bound.specs.Counts.{emits_of}
use Rattle.source_values.specs.Runs.{CheckedProgram, task_body}
use Rattle.lower.specs.Seen.{some_path_writes}
use Rattle.memory_map.specs.declared.place.ScalarWidth.{ScalarWidth}
use Rattle.memory_map.specs.declared.place.ScalarWidth.TheVariants.{OneWord, TwoWords}
use Rattle.memory_map.specs.declared.place.VariablePlace.{VariablePlace}
use Rattle.memory_map.specs.declared.place.VariablePlace.TheVariants.{Scalar, Array}
use Rattle.memory_map.specs.MemoryMap.{MemoryMap}
use Rattle.stands_for.specs.Layout.{ProgramPlaces}

-- whether a shared variable is private in a task with these statements, and whether the task writes it and it isn't private; what the task
-- does may be done by one of these functions
abbrev pub is_private_in : List CheckedFunction → CheckedBlock → ℕ → Bool
is_private_in fs body v = private_of (block_sum (call_sums (summary (Shared v)) fs) (summary (Shared v)) body)

abbrev pub stays_in_place : List CheckedFunction → CheckedBlock → ℕ → Bool
stays_in_place fs body v = some_path_writes fs body v && not (is_private_in fs body v)

-- whether a scalar has a word at an address
abbrev pub has_word_at : ℕ → ScalarWidth → ℕ → Bool
has_word_at home OneWord a = home == a
has_word_at home TwoWords a = (home == a) || (home + 2 == a)

-- whether one of the scalars from a number on that are so has a word at an address
abbrev pub some_scalar_at : (ℕ → Bool) → ℕ → List VariablePlace → ℕ → Bool
some_scalar_at holds v [] a = false
some_scalar_at holds v (Scalar home copy width ∷ places) a = (has_word_at home width a && holds v) || some_scalar_at holds (v + 1) places a
some_scalar_at holds v (Array elements length copies ∷ places) a = some_scalar_at holds (v + 1) places a

-- The memory map, and for how much each task has room. A task writes a scalar in place where some path of it does, and the scalar isn't
-- private in it
abbrev pub program_places : CheckedProgram → MemoryMap → ProgramPlaces
program_places p l = record {
  map = l;
  tasks = length p.tasks;
  list_capacity = λ t. list_of (summaries p) p.shared (task_body p t);
  emit_capacity = λ t. emits_of (summaries p) (task_body p t);
  written_in_place = λ t a. some_scalar_at (stays_in_place p.functions (task_body p t)) 0 l.variables a;
}
