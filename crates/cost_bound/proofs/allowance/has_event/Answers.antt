use Rattle.std.proofs.Common.{◌∙◌, ap, []}
use Rattle.std.specs.Prelude.{nat_lt}
use Rattle.task_ast.specs.View.{block_view}
use Rattle.cost_bound.specs.Table.{events_column, block_price}
use Rattle.cost_bound.proofs.Caps.{some_capped}
use Rattle.cost_bound.proofs.allowance.has_event.Goals as goal

pub returns : goal.returns
returns c = ap (λ n. nat_lt 0 n) c.block_price.ensures ∙ some_capped (block_price [] events_column (block_view c.args.body.now))
