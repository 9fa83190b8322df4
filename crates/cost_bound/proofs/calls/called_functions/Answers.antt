use Rattle.task_ast.specs.View.{block_view}
use Rattle.cost_bound.specs.Counts.{block_calls}
use Rattle.cost_bound.proofs.Sums.{mark_is}
use Rattle.cost_bound.proofs.calls.called_functions.Goals as goal

pub returns : goal.returns
returns c = λ k l. mark_is c.mark_in_block.new.marks (λ k. block_calls k (block_view c.args.body.now)) c.mark_in_block.ensures k l
