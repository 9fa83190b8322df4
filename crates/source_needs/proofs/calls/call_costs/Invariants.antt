use Rattle.std.proofs.Common.{◌≡◌, List, map, take}
use Rattle.array_versions.specs.Program.{Program}
use Rattle.array_versions.specs.View.{program_of}
use Rattle.source_needs.specs.Bodies.{AreBodies, routine_costs}
use Rattle.source_needs.proofs.calls.call_costs.Given as goal

-- the functions so far
abbrev pub invariant-loop-i : goal.invariant-loop-i
invariant-loop-i l =
    (whole : List Program) → AreBodies l.fn.routines (map program_of l.fn.bodies) whole → l.costs.items ≡ take l.i (routine_costs l.fn.routines whole)
