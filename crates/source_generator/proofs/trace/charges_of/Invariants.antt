use Rattle.std.proofs.Common.{◌≡◌, ◌++◌, ◌-◌}
use Rattle.source_generator.specs.Trace.{charges}
use Rattle.source_generator.proofs.trace.charges_of.Given as goal

abbrev pub invariant-loop-charge : goal.invariant-loop-charge
invariant-loop-charge l = l.charges.items ++ charges (256 - l._charge) l.bound l.generator.state ≡ charges 256 l.bound l.fn.generator.state
