use Rattle.task_check.proofs.Parts.{if_back_none}
use Rattle.task_check.proofs.build.if_only.Goals as goal

pub returns-clause-place : goal.returns-clause-place
returns-clause-place c = λ arms h. if_back_none _ _ arms c.tests_only.ensures h
