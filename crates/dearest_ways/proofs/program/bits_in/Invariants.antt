use Rattle.std.proofs.Common.{◌≡◌, ◌+◌, ◌-◌, ◌≤◌}
use Rattle.code_costs.specs.Dearest.{bits_in}
use Rattle.dearest_ways.proofs.program.bits_in.Given as goal

-- the bits that are counted, and those of what is left, of which there are so many turns more
abbrev pub invariant-loop-turn : goal.invariant-loop-turn
invariant-loop-turn l = record { owed : l.bits + bits_in (15 - l.turn) l.left ≡ bits_in 15 l.number; low : l.bits ≤ l.turn }
