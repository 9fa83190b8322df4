use Rattle.std.proofs.Common.{◌≡◌, ◌++◌, drop, map}
use Rattle.task_ast.specs.View.{block_view, function_of}
use Rattle.lower.specs.Seen.{some_path_writes, places_seen}
use Rattle.lower.proofs.lowering.places_seen.Given as goal

abbrev pub invariant-loop-i : goal.invariant-loop-i
invariant-loop-i l = l.seen.items ++ places_seen (some_path_writes (map function_of l.functions) (block_view l.body)) l.i (drop l.i l.variables)
    ≡ places_seen (some_path_writes (map function_of l.functions) (block_view l.body)) 0 l.variables
