use Rattle.plain_commands.proofs.command_texts.Interface.{sources_exclude}
use Rattle.scope_commands.proofs.Called.{files_stand}
use Rattle.scope_commands.proofs.Complete.{complete}
use Rattle.scope_commands.proofs.command.alpaca_scope.Goals as goal

pub returns-clause-files : goal.returns-clause-files
returns-clause-files g c = files_stand _ _ _ _ _ c.answer.ensures.answers

pub returns-clause-complete : goal.returns-clause-complete
returns-clause-complete g c = complete (sources_exclude c.one_answer.ensures) _ _ _ _ _ _ _ _ c.answer.ensures.answers
