use Rattle.task_check.proofs.Parts.{if_back_some}
use Rattle.task_check.proofs.build.if_else.Goals as goal

pub returns-clause-place : goal.returns-clause-place
returns-clause-place c = λ arms block h k. if_back_some _ _ _ arms block c.tests_else.ensures h k
