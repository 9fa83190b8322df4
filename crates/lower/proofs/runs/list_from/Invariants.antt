use Rattle.std.proofs.Common.{◌≡◌, drop}
use Rattle.array_versions.specs.Program.{joined}
use Rattle.array_versions.specs.View.{program_of}
use Rattle.lower.specs.Runs.{runs_from}
use Rattle.lower.specs.Lowered.{entries}
use Rattle.lower.proofs.runs.list_from.Given as goal

abbrev pub invariant-loop-scalar : goal.invariant-loop-scalar
invariant-loop-scalar l =
    joined (program_of l.program) (entries l.count l.list (runs_from l.run (drop l.scalar-index l.privates)))
    ≡ joined (program_of l.fn.program) (entries l.count l.list (runs_from l.fn.first l.privates))
