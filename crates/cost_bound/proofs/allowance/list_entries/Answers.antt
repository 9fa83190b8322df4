use Rattle.task_ast.specs.View.{block_view}
use Rattle.cost_bound.specs.Machine.{known_of}
use Rattle.cost_bound.proofs.Sums.{list_is}
use Rattle.cost_bound.proofs.allowance.list_entries.Goals as goal

pub returns : goal.returns
returns c = list_is (known_of c.args.functions.now) c.args.shared.now c.store_counts-stores.result (block_view c.args.body.now) c.args.scalars
    c.array_entries.result c.plus.result
    c.requires.few c.store_counts-stores.ensures c.requires.scalars c.array_entries.ensures.value c.plus.ensures
