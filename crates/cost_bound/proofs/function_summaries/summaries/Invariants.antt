use Rattle.std.proofs.Common.{◌≡◌, ℕ, length, take, map}
use Rattle.task_ast.specs.View.{function_of}
use Rattle.cost_bound.specs.Summaries.{function_summaries}
use Rattle.cost_bound.specs.Machine.{known_of, AreSame}
use Rattle.cost_bound.proofs.function_summaries.summaries.Given as goal

pub record Made (n i : ℕ) (same : Type 0) : Type 0 where
  pub count : n ≡ i
  pub are : same

abbrev pub invariant-loop-i : goal.invariant-loop-i
invariant-loop-i l = Made (length l.known.items) l.i (AreSame (known_of l.known.items) (function_summaries (map function_of (take l.i l.functions))))
