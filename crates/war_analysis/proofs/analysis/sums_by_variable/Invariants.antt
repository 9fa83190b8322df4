use Rattle.std.proofs.Common.{map}
use Rattle.task_ast.specs.View.{function_of}
use Rattle.war_analysis.specs.Known.{AreSumsByVariable}
use Rattle.war_analysis.proofs.analysis.sums_by_variable.Given as goal

abbrev pub invariant-loop-i : goal.invariant-loop-i
invariant-loop-i l = AreSumsByVariable (map function_of l.functions) l.i l.sums.items
