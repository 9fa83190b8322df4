-- What a trace is: charges, readings and events, each in order, within limits.
use Rattle.std.specs.Prelude.{ℕ, ◌<◌, ◌≤◌, ◌-◌, List, length, sum_by, All, slice_get, unwrap_or}
use Rattle.std.specs.List.Sorted.{IsNonDecreasingBy}
use Rattle.energy_trace.specs.declared.charge.Charge.{Charge}

-- an event: behind how many steps of the run it arises, and its word
abbrev pub Event : Type 0
Event = ℕ × ℕ

-- charges, readings and events, each in order
pub record TraceValue : Type 0 where
  pub charges : List Charge
  pub readings : List ℕ
  pub events : List Event

-- how many charges, each counted as often as it comes
abbrev pub charge_count : List Charge → ℕ
charge_count cs = sum_by (λ c. c.times) cs

-- behind how many steps the last of events arises; 0 where there is none
abbrev pub last_step : List Event → ℕ
last_step es = (unwrap_or (slice_get es (length es - 1)) (0, 0)).0

-- the limits of a trace: how much it may have, charges that come, words that are no 0, and no event that arises before the one in front of it
pub record IsTrace (t : TraceValue) : Type 0 where
  pub charges : charge_count t.charges ≤ 1000000
  pub readings : length t.readings ≤ 262144
  pub repeats : All (λ c. 0 < c.times) t.charges
  pub events : length t.events ≤ 65536
  pub words : All (λ e. 0 < e.1) t.events
  pub order : IsNonDecreasingBy (λ e. e.0) t.events
