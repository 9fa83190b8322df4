use Rattle.std.proofs.Common.{◌≡◌, take, map}
use Rattle.task_ast.specs.View.{function_of}
use Rattle.path_sums.specs.Sums.{call_sums}
use Rattle.path_sums.specs.Access.{summary}
use Rattle.path_sums.proofs.access.call_summaries.Given as goal

abbrev pub invariant-loop-i : goal.invariant-loop-i
invariant-loop-i l = l.known.items ≡ call_sums (summary l.v) (map function_of (take l.i l.functions))
