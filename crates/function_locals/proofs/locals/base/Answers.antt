use Rattle.task_ast.specs.View.{block_view}
use Rattle.function_locals.proofs.Loops.{base_is}
use Rattle.function_locals.proofs.locals.base.Goals as goal

pub returns : goal.returns
returns c = base_is c.args.known.now (block_view c.args.body.now) c.called_functions.result c.greatest_end.result c.requires.few c.called_functions.ensures
    c.greatest_end.ensures
