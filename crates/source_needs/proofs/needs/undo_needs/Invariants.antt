use Rattle.std.proofs.Common.{◌≡◌, ◌<◌, ℕ, get_or, length}
use Rattle.task_ast.specs.View.{program_of}
use Rattle.need_lines.specs.declared.needs.UndoNeed.{UndoNeed}
use Rattle.source_needs.specs.Needs.{undo_need}
use Rattle.source_needs.proofs.needs.undo_needs.Given as goal

-- the tasks so far
abbrev pub invariant-loop-i : goal.invariant-loop-i
invariant-loop-i l = record {
  count : length l.needs.items ≡ l.i;
  each : (k : ℕ) (other : UndoNeed) → k < l.i
      → get_or l.needs.items k other ≡ undo_need (program_of l.fn.accepted.checked.source) l.fn.layout k;
}
