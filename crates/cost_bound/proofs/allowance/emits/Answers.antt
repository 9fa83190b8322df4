use Rattle.std.proofs.Common.{◌∙◌, ap}
use Rattle.task_ast.specs.View.{block_view}
use Rattle.cost_bound.specs.Table.{capped}
use Rattle.cost_bound.specs.Machine.{known_of}
use Rattle.cost_bound.proofs.Emits.{block_price-emits}
use Rattle.cost_bound.proofs.allowance.emits.Goals as goal

pub returns : goal.returns
returns c = c.block_price.ensures ∙ ap capped (block_price-emits (known_of c.args.functions.now) (block_view c.args.body.now))
