use Rattle.std.proofs.Common.{refl}
use Rattle.state_commands.proofs.MigrateLaws.{refusal_at, migrate_whole, migrate_fails}
use Rattle.plain_commands.proofs.command_answers.Interface.{handed_on}
use Rattle.state_commands.proofs.migrate.migrate_texts.Goals as goal

pub returns-in_err-text-clause-failure : goal.returns-in_err-text-clause-failure
returns-in_err-text-clause-failure g c = handed_on _ _ _ c.from_residual.ensures (refusal_at _ c.args.names _ _ c.in_err-text.ensures.refused refl)

pub returns-clause-whole : goal.returns-clause-whole
returns-clause-whole g c = migrate_whole _ c.args.names _ _ _ _ c.in_ok-text.ensures.migrates c.as_slice.ensures.value c.put_file.ensures.put

pub returns-clause-failure : goal.returns-clause-failure
returns-clause-failure g c = migrate_fails _ c.args.names _ _ _ c.in_ok-text.ensures.migrates c.put_file.ensures.failure
