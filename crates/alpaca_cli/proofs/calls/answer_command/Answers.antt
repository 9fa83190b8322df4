use Rattle.std.proofs.Common.{refl}
use Rattle.alpaca_cli.proofs.CallLaws.{answers_as, not_plain, number_as}
use Rattle.alpaca_cli.proofs.calls.answer_command.Goals as goal

pub returns-in-Mean-clause-number : goal.returns-in-Mean-clause-number
returns-in-Mean-clause-number g c = number_as _ _ c.in-Mean.is tt

pub returns-in-Run-clause-number : goal.returns-in-Run-clause-number
returns-in-Run-clause-number g c = number_as _ _ c.in-Run.is tt

pub returns-in-Asm-clause-number : goal.returns-in-Asm-clause-number
returns-in-Asm-clause-number g c = number_as _ _ c.in-Asm.is tt

pub returns-in-Dis-clause-number : goal.returns-in-Dis-clause-number
returns-in-Dis-clause-number g c = number_as _ _ c.in-Dis.is tt

pub returns-in-Audit-clause-number : goal.returns-in-Audit-clause-number
returns-in-Audit-clause-number g c = number_as _ _ c.in-Audit.is tt

pub returns-in-Mean-clause-answers : goal.returns-in-Mean-clause-answers
returns-in-Mean-clause-answers g c = answers_as _ _ _ _ _ _ c.in-Mean.is c.answer_mean.ensures.answers

pub returns-in-Run-clause-answers : goal.returns-in-Run-clause-answers
returns-in-Run-clause-answers g c = answers_as _ _ _ _ _ _ c.in-Run.is c.answer_run.ensures.answers

pub returns-in-Asm-clause-answers : goal.returns-in-Asm-clause-answers
returns-in-Asm-clause-answers g c = answers_as _ _ _ _ _ _ c.in-Asm.is (c.answer_asm.ensures.answers _ refl)

pub returns-in-Dis-clause-answers : goal.returns-in-Dis-clause-answers
returns-in-Dis-clause-answers g c = answers_as _ _ _ _ _ _ c.in-Dis.is c.answer_dis.ensures.answers

pub returns-in-Audit-clause-answers : goal.returns-in-Audit-clause-answers
returns-in-Audit-clause-answers g c = answers_as _ _ _ _ _ _ c.in-Audit.is c.answer_audit.ensures.answers

pub answer_compiler_command-requires : goal.answer_compiler_command-requires
answer_compiler_command-requires g c = let d = c.in_default in not_plain _ d.not-Mean d.not-Run d.not-Asm d.not-Dis d.not-Audit
