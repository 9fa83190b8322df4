use Rattle.plain_commands.proofs.Interface.{mean_reports_are_good, mean_reports_are_answered_yes}
use Rattle.compiler_commands.proofs.Interface.{tried_reports_are_good, tried_reports_are_answered_yes}
use Rattle.alpaca_cli.proofs.laws.printed_reports_are_good.Goals as goal

pub returns-clause-tried : goal.returns-clause-tried
returns-clause-tried c = tried_reports_are_good

pub returns-clause-meant : goal.returns-clause-meant
returns-clause-meant c = mean_reports_are_good c.accepted_texts_run.ensures

pub returns-clause-tried_yes : goal.returns-clause-tried_yes
returns-clause-tried_yes c = tried_reports_are_answered_yes

pub returns-clause-meant_yes : goal.returns-clause-meant_yes
returns-clause-meant_yes c = mean_reports_are_answered_yes c.accepted_texts_run.ensures
