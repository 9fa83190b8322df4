use Rattle.std.proofs.Common.{◌≡◌, ◌∙◌, ◌++◌, ◌∷◌, [], ap}
use Rattle.task_ast.specs.View.{block_view}
use Rattle.path_sums.specs.Sums.{block_sum}
use Rattle.path_sums.specs.Access.{summary}
use Rattle.path_sums.proofs.OneMore.{one_more}
use Rattle.path_sums.proofs.access.call_summaries.Goals as goal

pub loop-i-preserved : goal.loop-i-preserved
loop-i-preserved c =
    one_more (summary c.args.v) c.args.functions.now c.loop-i.i c.index-functions-i.result c.deref-in-loop-i.result.now c.loop-i.known.items _
    c.loop-i-test.true c.index-functions-i.is c.deref-in-loop-i.ensures.value c.loop-i.invariant
    (c.in_ok-push.ensures.items ∙ ap (λ s. c.loop-i.known.items ++ s ∷ []) (c.called.ensures
    ∙ ap (summary c.args.v).called (c.access_summary-body.ensures
    ∙ ap (λ known. block_sum known (summary c.args.v) (block_view c.deref-in-loop-i.result.now)) c.deref.ensures.value)))
