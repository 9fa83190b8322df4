use Rattle.task_ast.specs.View.{block_view}
use Rattle.cost_bound.proofs.Called.{routines_are}
use Rattle.cost_bound.proofs.allowance.routine_words.Goals as goal

pub returns : goal.returns
returns c = routines_are c.args.functions.now (block_view c.args.body.now) c.reached_functions.result c.marked_words.result
    c.requires.few c.reached_functions.ensures c.marked_words.ensures
