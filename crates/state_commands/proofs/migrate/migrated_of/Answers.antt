use Rattle.state_commands.specs.Migrating.{editions_of}
use Rattle.state_commands.proofs.MigrateLaws.{fault_refuses}
use Rattle.state_commands.proofs.migrate.migrated_of.Goals as goal

pub returns-clause-refused : goal.returns-clause-refused
returns-clause-refused c =
    fault_refuses _ _ (editions_of c.args.texts) c.args.said c.in-Err.fault c.in-Err.ensures.answer c.failure_of.ensures
