use Rattle.task_ast.specs.View.{block_view}
use Rattle.path_sums.proofs.AccessMeaning.{writes_exact}
use Rattle.path_sums.proofs.access.is_written.Goals as goal

pub returns : goal.returns
returns c = λ fs is calls. writes_exact c.args.v c.args.known.now (block_view c.args.body.now) _ c.access_summary.ensures fs is calls
