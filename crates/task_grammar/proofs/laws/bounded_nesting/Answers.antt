use Rattle.task_grammar.proofs.Nesting.{nesting_is_bounded}
use Rattle.task_grammar.proofs.laws.bounded_nesting.Goals as goal

pub returns : goal.returns
returns c = nesting_is_bounded
