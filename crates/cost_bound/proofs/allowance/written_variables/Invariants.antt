use Rattle.std.proofs.Common.{◌≡◌, ◌<◌, ℕ, false, drop, map, slice_index_or}
use Rattle.task_ast.specs.View.{task_of}
use Rattle.cost_bound.specs.Machine.{known_of}
use Rattle.cost_bound.specs.Allowance.{is_written}
use Rattle.cost_bound.proofs.allowance.written_variables.Given as goal

abbrev pub invariant-loop-i : goal.invariant-loop-i
invariant-loop-i l = (k : ℕ) → k < 256 → slice_index_or l.marks k false ≡ is_written (known_of l.functions) (map task_of (drop l.i l.tasks)) k
