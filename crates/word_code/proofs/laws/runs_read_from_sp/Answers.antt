use Rattle.code_forms.specs.Code.{anywhere}
use Rattle.code_forms.proofs.Interface.{forms_read_from_sp}
use Rattle.word_code.proofs.laws.runs_read_from_sp.Goals as goal

pub returns-clause-runs : goal.returns-clause-runs
returns-clause-runs c = λ code es most u to s a. forms_read_from_sp (anywhere code) a.steps u a.forms

pub returns-clause-starves : goal.returns-clause-starves
returns-clause-starves c = λ code es most u a. forms_read_from_sp (anywhere code) _ u a.forms
