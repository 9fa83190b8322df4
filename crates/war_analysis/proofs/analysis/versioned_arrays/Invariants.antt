use Rattle.std.proofs.Common.{length}
use Rattle.task_ast.specs.View.{block_view}
use Rattle.war_analysis.specs.Plans.{IsVersionedIn}
use Rattle.war_analysis.specs.Known.{ForCalled}
use Rattle.war_analysis.proofs.Numbers.{AreNumbersBelow}
use Rattle.war_analysis.proofs.analysis.versioned_arrays.Given as goal

abbrev pub invariant-loop-i : goal.invariant-loop-i
invariant-loop-i l = ForCalled (length l.shared) l.sums (block_view l.body)
    (λ fs. AreNumbersBelow (IsVersionedIn fs l.shared (block_view l.body)) l.i l.numbers.items)
