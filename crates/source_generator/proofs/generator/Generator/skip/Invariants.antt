use Rattle.std.proofs.Common.{◌≡◌, ◌-◌}
use Rattle.source_generator.specs.Draws.{behind}
use Rattle.source_generator.proofs.generator.Generator.skip.Given as goal

abbrev pub invariant-loop-draw : goal.invariant-loop-draw
invariant-loop-draw l = behind (l.count - l._draw) l.self.state ≡ behind l.count l.fn.self.state
