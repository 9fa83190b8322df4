-- What a builder of traces has built.
use Rattle.energy_trace.specs.declared.builder.TraceBuilder.{TraceBuilder}
use Rattle.energy_trace.specs.TraceValue.{TraceValue}

-- the charges, readings and events so far
abbrev pub built : TraceBuilder → TraceValue
built b = record { charges = b.charges.items; readings = b.readings.items; events = b.events.items }
