-- The ranges of what a trace holds.
use Rattle.std.specs.Prelude.{◌<◌, ◌^◌}
use Rattle.energy_trace.specs.declared.charge.Charge.{Charge}
use Rattle.energy_trace.specs.TraceValue.{Event}

-- N and K below 2^32, F below 2^16
pub record IsCharge (c : Charge) : Type 0 where
  pub n : c.n < 2 ^ 32
  pub fill : c.fill < 2 ^ 16
  pub times : c.times < 2 ^ 32

-- N below 2^32, W below 2^16
pub record IsEvent (e : Event) : Type 0 where
  pub step : e.0 < 2 ^ 32
  pub word : e.1 < 2 ^ 16
