use Rattle.std.proofs.Common.{◌≡◌, drop}
use Rattle.memory_map.specs.Spots.{routine_among}
use Rattle.variable_places.proofs.places.routine_among.Given as goal

abbrev pub invariant-loop-routine : goal.invariant-loop-routine
invariant-loop-routine l = routine_among (drop l.routine-index l.routines) l.number ≡ routine_among l.routines l.number
