use Rattle.state_commands.proofs.MigrateLaws.{of_five_read}
use Rattle.plain_commands.proofs.command_answers.Interface.{of_unread}
use Rattle.state_commands.proofs.migrate.answer_migrate.Goals as goal

pub returns-in-Ok-clause-answers : goal.returns-in-Ok-clause-answers
returns-in-Ok-clause-answers g c = λ out silent.
    of_five_read _ c.args.names _ _ _ _ _ _ _ _ _ _ c.lent.ensures c.in-Ok.ensures.same c.in-Ok.ensures.counts c.in-Ok.ensures.held
    (c.migrate_of.ensures.answers out silent)

pub returns-in-Err-clause-answers : goal.returns-in-Err-clause-answers
returns-in-Err-clause-answers g c = λ out silent. of_unread _ _ _ _ _ _ c.answer_unread.ensures.told c.in-Err.ensures.unread c.in-Err.ensures.same silent
