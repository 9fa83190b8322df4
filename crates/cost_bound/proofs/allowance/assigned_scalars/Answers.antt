use Rattle.std.proofs.Common.{refl}
use Rattle.task_ast.specs.View.{block_view}
use Rattle.cost_bound.specs.Counts.{assigns_of}
use Rattle.cost_bound.specs.Machine.{known_of}
use Rattle.cost_bound.specs.Allowance.{scalar_part}
use Rattle.cost_bound.proofs.Sums.{written_sum}
use Rattle.cost_bound.proofs.allowance.assigned_scalars.Goals as goal

pub returns-clause-value : goal.returns-clause-value
returns-clause-value c =
    written_sum scalar_part c.args.shared.now c.args.shared.now c.assigned_variables.result
    (λ i. assigns_of (known_of c.args.functions.now) i (block_view c.args.body.now)) c.scalars.result
    c.requires.few refl c.assigned_variables.ensures c.scalars.ensures.value
