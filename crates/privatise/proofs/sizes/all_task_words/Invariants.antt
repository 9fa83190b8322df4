use Rattle.std.proofs.Common.{◌≡◌, drop, map}
use Rattle.task_ast.specs.View.{task_of}
use Rattle.cost_bound.specs.Machine.{known_of}
use Rattle.cost_bound.specs.Allowance.{total}
use Rattle.privatise.specs.Sizes.{body_words}
use Rattle.privatise.proofs.sizes.all_task_words.Given as goal

abbrev pub invariant-loop-i : goal.invariant-loop-i
invariant-loop-i l = l.n ≡ total (body_words (known_of l.functions) l.shared) (map task_of (drop l.i l.tasks))
