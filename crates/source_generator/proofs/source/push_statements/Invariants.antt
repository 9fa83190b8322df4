use Rattle.std.proofs.Common.{◌≡◌, ◌++◌, ◌-◌}
use Rattle.std.specs.Prelude.{flat_map}
use Rattle.source_generator.specs.Draws.{draws, behind}
use Rattle.source_generator.specs.Source.{statement_text}
use Rattle.source_generator.proofs.source.push_statements.Given as goal

abbrev pub invariant-loop-statement : goal.invariant-loop-statement
invariant-loop-statement l = record {
  text : l.out.items ++ flat_map statement_text (draws (6 - l._statement) l.generator.state) ≡ l.fn.out.items
      ++ flat_map statement_text (draws 6 l.fn.generator.state);
  state : behind (6 - l._statement) l.generator.state ≡ behind 6 l.fn.generator.state;
}
