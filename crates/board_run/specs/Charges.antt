-- The charges of a trace as charges of a board.
use Rattle.std.specs.Prelude.{List, [], ◌∷◌, ◌++◌, replicate}
use Rattle.energy_trace.specs.declared.charge.Charge.{Charge}
use Rattle.energy_trace.specs.declared.charge.ChargeKind.{ChargeKind}
use Rattle.energy_trace.specs.declared.charge.ChargeKind.TheVariants as kind
use Rattle.fram_board.specs.Board.{filled}
use Rattle.fram_board.specs.Run.{Measure, Cycles, Instructions, BoardCharge}

-- what a charge of a trace is counted in
abbrev pub measure_of : ChargeKind → Measure
measure_of kind.Cycles = Cycles
measure_of kind.Steps = Instructions

-- one charge, with its fill word in all that doesn't last
abbrev pub charge_of : Charge → BoardCharge
charge_of c = record { measure = measure_of c.kind; amount = c.n; start = filled c.fill }

-- charges one after another, each as often as it comes
abbrev pub charges_of : List Charge → List BoardCharge
charges_of [] = []
charges_of (c ∷ cs) = replicate c.times (charge_of c) ++ charges_of cs
