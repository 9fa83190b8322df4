use Rattle.code_forms.proofs.Rules.{code_goes_undisturbed, code_stays_prepared, code_stays_open}
use Rattle.code_forms.proofs.laws.code_keeps_the_rules_of_interrupts.Goals as goal

pub returns-clause-undisturbed : goal.returns-clause-undisturbed
returns-clause-undisturbed c = code_goes_undisturbed

pub returns-clause-prepared : goal.returns-clause-prepared
returns-clause-prepared c = code_stays_prepared

pub returns-clause-open : goal.returns-clause-open
returns-clause-open c = code_stays_open
