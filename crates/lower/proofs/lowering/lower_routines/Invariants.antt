use Rattle.std.proofs.Common.{◌≡◌, ◌++◌, drop, map}
use Rattle.task_ast.specs.View.{function_of}
use Rattle.array_versions.specs.View.{program_of}
use Rattle.lower.specs.View.{places_in}
use Rattle.lower.specs.Lowered.{bare_routine}
use Rattle.lower.proofs.lowering.lower_routines.Given as goal

abbrev pub invariant-loop-i : goal.invariant-loop-i
invariant-loop-i l = map program_of l.programs.items ++ map (bare_routine (places_in l.places) (map function_of l.functions)) (drop l.i l.routines)
    ≡ map (bare_routine (places_in l.places) (map function_of l.functions)) l.routines
