use Rattle.word_code.proofs.TaskForms.{code_is_of_task_forms, code_names_ram_from}
use Rattle.word_code.proofs.laws.code_keeps_above_its_stack.Goals as goal

pub returns-clause-forms : goal.returns-clause-forms
returns-clause-forms c = code_is_of_task_forms

pub returns-clause-ram : goal.returns-clause-ram
returns-clause-ram c = code_names_ram_from
