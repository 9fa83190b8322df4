use Rattle.model_runs.proofs.Reports.{lines_are_of_dones, report_is_of_dones, few_words_have_lines}
use Rattle.model_runs.proofs.laws.lines_are_of_dones.Goals as goal

pub returns-clause-lines : goal.returns-clause-lines
returns-clause-lines c = lines_are_of_dones

pub returns-clause-report : goal.returns-clause-report
returns-clause-report c = report_is_of_dones

pub returns-clause-words : goal.returns-clause-words
returns-clause-words c = few_words_have_lines
