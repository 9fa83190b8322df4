use Rattle.task_ast.specs.View.{block_view}
use Rattle.cost_bound.proofs.Called.{reached_is}
use Rattle.cost_bound.proofs.calls.reached_functions.Goals as goal

pub returns : goal.returns
returns c = λ k l.
    reached_is c.args.functions.now c.requires.few (block_view c.args.body.now) c.called_functions-calls.result c.called_functions-calls.ensures
    c.mark_what_calls_reach.new.marks c.mark_what_calls_reach.ensures k l
