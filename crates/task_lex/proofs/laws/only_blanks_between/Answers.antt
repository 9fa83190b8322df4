use Rattle.task_lex.proofs.Gaps.{are_gaps}
use Rattle.task_lex.proofs.laws.only_blanks_between.Goals as goal

pub returns : goal.returns
returns c = are_gaps
