use Rattle.std.proofs.Common.{◌≡◌, ◌++◌, ◌-◌}
use Rattle.source_generator.specs.Draws.{draws, behind}
use Rattle.source_generator.specs.Source.{scalar_texts}
use Rattle.source_generator.proofs.source.push_scalars.Given as goal

abbrev pub invariant-loop-number : goal.invariant-loop-number
invariant-loop-number l = record {
  text : l.out.items ++ scalar_texts l.number (draws (8 - l.number) l.generator.state) ≡ l.fn.out.items ++ scalar_texts 0 (draws 8 l.fn.generator.state);
  state : behind (8 - l.number) l.generator.state ≡ behind 8 l.fn.generator.state;
}
