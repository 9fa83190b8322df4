-- Where parts of the runtime's code find each other.
use Rattle.std.specs.Prelude.{ℕ, ◌+◌, Bool, true, false}
use Rattle.runtime_effects.specs.memory_map.MemoryMap.{with_events}
-- where the stack begins
pub use Rattle.runtime_effects.specs.address_space.Limits.{stack_top}

-- the bytes of the boot's look at GATE
abbrev pub boot_head_bytes : ℕ
boot_head_bytes = 10

-- where the boot looks at GATE, by whether there are events, and by its address: these enable interrupts in front of it
abbrev pub gate_address : Bool → ℕ → ℕ
gate_address events boot = boot + with_events events 6

-- where an attempt starts
abbrev pub start_address : Bool → ℕ → ℕ
start_address events boot = gate_address events boot + boot_head_bytes
