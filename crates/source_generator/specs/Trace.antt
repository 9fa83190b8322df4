-- The trace that is generated from a number and the source's bound: its draws go on behind those of the source.
use Rattle.std.specs.Prelude.{ℕ, zero, suc, ◌+◌, ◌*◌, ◌/◌, List, [], ◌∷◌}
use Rattle.energy_trace.specs.declared.charge.Charge.{Charge}
use Rattle.energy_trace.specs.declared.charge.ChargeKind.TheVariants as kind
use Rattle.energy_trace.specs.TraceValue.{TraceValue}
use Rattle.source_generator.specs.Draws.{next, drawn, draws, behind}

-- the state behind the draws of the source: 8 scalars, and 7 draws for each of 16 tasks
abbrev pub behind_source : ℕ → ℕ
behind_source n = behind (8 + 16 * 7) n

-- a charge of half a bound and a draw more, with the next draw in all that doesn't last
abbrev pub charge_of : ℕ → ℕ → Charge
charge_of bound s = record { kind = kind.Cycles; n = bound / 2 + drawn s; fill = drawn (next s); times = 1 }

-- so many charges
unfoldable pub charges : ℕ → ℕ → ℕ → List Charge
charges zero bound s = []
charges (suc n) bound s = charge_of bound s ∷ charges n bound (behind 2 s)

-- 512 readings, and behind their draws those of 256 charges; no event
unfoldable pub generated_trace : ℕ → ℕ → TraceValue
generated_trace n bound = record {
  charges = charges 256 bound (behind 512 (behind_source n));
  readings = draws 512 (behind_source n);
  events = [];
}
