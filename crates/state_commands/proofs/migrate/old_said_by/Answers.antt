use Rattle.std.proofs.Common.{refl}
use Rattle.state_commands.specs.Migrated.{the_old_source, the_old_image, the_old_state}
use Rattle.state_commands.specs.Migrating.{editions_of}
use Rattle.state_commands.proofs.MigrateLaws.{fails_at, alone}
use Rattle.plain_commands.proofs.command_answers.Interface.{handed_on}
use Rattle.state_commands.proofs.migrate.old_said_by.Goals as goal

pub returns-in_err-source-clause-refused : goal.returns-in_err-source-clause-refused
returns-in_err-source-clause-refused c =
    handed_on _ _ _ c.from_residual.ensures
    (fails_at _ _ _ c.args.names (editions_of c.args.texts) 0 refl
    (λ r no. the_old_source r no) c.in_err-source.ensures.refused)

pub returns-in_err-image-clause-refused : goal.returns-in_err-image-clause-refused
returns-in_err-image-clause-refused c =
    handed_on _ _ _ c.from_residual-in_err-image.ensures
    (fails_at _ _ _ c.args.names (editions_of c.args.texts) 1 refl (λ r no. the_old_image _ r c.in_ok-source.ensures.said no)
    c.in_err-image.ensures.refused)

pub returns-in_err-state-clause-refused : goal.returns-in_err-state-clause-refused
returns-in_err-state-clause-refused c =
    handed_on _ _ _ c.from_residual-in_err-state.ensures
    (fails_at _ _ _ c.args.names (editions_of c.args.texts) 2 refl
    (λ r no. the_old_state _ _ r c.in_ok-source.ensures.said c.in_ok-image.ensures.said no) c.in_err-state.ensures.refused)

pub returns-clause-said : goal.returns-clause-said
returns-clause-said c = record {
  text = c.in_ok-source.ensures.text;
  source_said = c.in_ok-source.ensures.said;
  only = alone _ _ _ c.in_ok-source.ensures.only;
  image_said = c.in_ok-image.ensures.said;
  state_said = c.in_ok-state.ensures.said;
}
