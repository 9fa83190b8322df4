use Rattle.task_ast.specs.View.{block_view}
use Rattle.cost_bound.proofs.Called.{deepest_is}
use Rattle.cost_bound.proofs.frames.deepest.Goals as goal

pub returns : goal.returns
returns c = deepest_is c.args.functions.now c.requires.few (block_view c.args.body.now) c.called_functions.result c.called_functions.ensures
    c.greatest_depth.result c.greatest_depth.ensures
