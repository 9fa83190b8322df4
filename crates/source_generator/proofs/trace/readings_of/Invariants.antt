use Rattle.std.proofs.Common.{◌≡◌, ◌++◌, ◌-◌}
use Rattle.source_generator.specs.Draws.{draws, behind}
use Rattle.source_generator.proofs.trace.readings_of.Given as goal

abbrev pub invariant-loop-reading : goal.invariant-loop-reading
invariant-loop-reading l = record {
  readings : l.readings.items ++ draws (512 - l._reading) l.generator.state ≡ draws 512 l.fn.generator.state;
  state : behind (512 - l._reading) l.generator.state ≡ behind 512 l.fn.generator.state;
}
