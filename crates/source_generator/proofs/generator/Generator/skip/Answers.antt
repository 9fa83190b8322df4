use Rattle.std.proofs.Common.{◌∙◌, sym, arith}
use Rattle.source_generator.proofs.Steps.{behind_left, behind_none}
use Rattle.source_generator.proofs.generator.Generator.skip.Goals as goal

pub loop-draw-preserved : goal.loop-draw-preserved
loop-draw-preserved c = sym (behind_left c.args.count c.loop-draw._draw c.loop-draw.self.state _ (omega arith) c.draw.ensures.state) ∙ c.loop-draw.invariant

pub returns : goal.returns
returns c = sym (behind_none c.args.count c.loop-draw._draw c.loop-draw.self.state (omega arith)) ∙ c.loop-draw.invariant
