use Rattle.std.proofs.Common.{◌∙◌, ap, sym}
use Rattle.source_generator.specs.Draws.{next}
use Rattle.source_generator.proofs.Steps.{behind_two}
use Rattle.source_generator.proofs.trace.charge_of.Goals as goal

pub returns-clause-state : goal.returns-clause-state
returns-clause-state c = c.draw-fill.ensures.state ∙ ap next c.draw-more.ensures.state ∙ sym (behind_two c.args.generator.now.state)
