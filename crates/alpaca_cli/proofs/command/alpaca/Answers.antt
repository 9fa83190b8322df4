use Rattle.alpaca_cli.proofs.Answered.{complete_told}
use Rattle.alpaca_cli.proofs.FaultLaws.{only_runs_fault, only_audits_differ}
use Rattle.state_commands.proofs.Interface.{TextsExclude}
use Rattle.alpaca_cli.proofs.ShelfLaws.{others_stand}
use Rattle.plain_commands.proofs.command_texts.Interface.{sources_exclude}
use Rattle.alpaca_cli.proofs.command.alpaca.Goals as goal

pub returns-clause-files : goal.returns-clause-files
returns-clause-files g c = others_stand _ _ _ _ _ c.answer.ensures.answers

pub returns-clause-only_runs_fault : goal.returns-clause-only_runs_fault
returns-clause-only_runs_fault g c = only_runs_fault _ _ _ _ _ c.answer.ensures.answers

pub returns-clause-only_audits_differ : goal.returns-clause-only_audits_differ
returns-clause-only_audits_differ g c = only_audits_differ _ _ _ _ _ c.answer.ensures.answers

pub returns-clause-complete : goal.returns-clause-complete
returns-clause-complete g c =
    let exclude : TextsExclude = record {
      sources = sources_exclude c.one_answer.ensures;
      states = c.answers_are_one.ensures;
      migrations = c.no_migration_is_refused.ensures;
    } in
    complete_told c.board_has_one_run.ensures.unique exclude _ _ _ _ _ _ _ _ c.answer.ensures.answers
