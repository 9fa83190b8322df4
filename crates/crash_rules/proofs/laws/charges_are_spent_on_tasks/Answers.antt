use Rattle.crash_rules.proofs.Theorems.{tasks_pay, instructions_pay}
use Rattle.crash_rules.proofs.laws.charges_are_spent_on_tasks.Goals as goal

pub returns-clause-cycles : goal.returns-clause-cycles
returns-clause-cycles g c = tasks_pay g.S.Compiled.model g.S.Compiled.program

pub returns-clause-instructions : goal.returns-clause-instructions
returns-clause-instructions g c = instructions_pay g.S.Compiled.model g.S.Compiled.program
