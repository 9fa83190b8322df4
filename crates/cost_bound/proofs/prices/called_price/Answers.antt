use Rattle.std.proofs.Common.{◌∙◌, sym}
use Rattle.cost_bound.specs.Table.{body_price}
use Rattle.cost_bound.proofs.Called.{called_there}
use Rattle.cost_bound.proofs.prices.called_price.Goals as goal

pub returns-then-number-functions : goal.returns-then-number-functions
returns-then-number-functions c =
    c.body_price.ensures ∙ sym (called_there (body_price c.args.column.now.body) c.args.functions.now c.args.number _ c.if-number-functions.true)
