use Rattle.task_ast.specs.View.{block_view}
use Rattle.path_checks.specs.Assignments.{begun}
use Rattle.path_checks.proofs.UnassignedMeaning.{walk_reads}
use Rattle.path_checks.proofs.unassigned.first_in_body.Goals as goal

pub returns : goal.returns
returns c = λ functions calls. walk_reads functions c.args.given (block_view c.args.body.now) calls _
    (c.in_ok-walk_block.ensures.tells (λ x p. begun c.args.given x) c.in_ok-walk.ensures)
