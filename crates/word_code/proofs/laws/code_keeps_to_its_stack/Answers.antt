use Rattle.code_forms.proofs.Interface.{forms_keep_the_stack}
use Rattle.word_code.proofs.Whole.{code_keeps_to_the_stack}
use Rattle.word_code.proofs.laws.code_keeps_to_its_stack.Goals as goal

pub returns-clause-does : goal.returns-clause-does
returns-clause-does c = code_keeps_to_the_stack

pub returns-clause-runs : goal.returns-clause-runs
returns-clause-runs c = λ kept es most u to s tidy stands a. forms_keep_the_stack kept a.steps u tidy a.forms stands

pub returns-clause-starves : goal.returns-clause-starves
returns-clause-starves c = λ kept es most u tidy stands a. forms_keep_the_stack kept _ u tidy a.forms stands
