use Rattle.task_ast.specs.View.{block_view}
use Rattle.cost_bound.specs.Counts.{block_assigns}
use Rattle.cost_bound.proofs.Called.{assigned_is}
use Rattle.cost_bound.proofs.Sums.{mark_is}
use Rattle.cost_bound.proofs.assigned.assigned_variables.Goals as goal

pub returns : goal.returns
returns c = λ k l.
    assigned_is c.args.functions.now c.requires.few (block_view c.args.body.now) c.called_functions-calls.result c.called_functions-calls.ensures
    c.mark_assigned.new.marks c.mark_what_calls_assign.new.marks (λ i. block_assigns i (block_view c.args.body.now))
    (mark_is c.mark_assigned.new.marks (λ i. block_assigns i (block_view c.args.body.now)) c.mark_assigned.ensures)
    c.mark_what_calls_assign.ensures k l
