use Rattle.std.proofs.Common.{refl}
use Rattle.state_commands.specs.Migrated.{the_new_source, the_new_image}
use Rattle.state_commands.specs.Migrating.{editions_of}
use Rattle.state_commands.proofs.MigrateLaws.{fails_at, alone}
use Rattle.plain_commands.proofs.command_answers.Interface.{handed_on}
use Rattle.state_commands.proofs.migrate.said_by.Goals as goal

pub returns-in_err-old_said-clause-refused : goal.returns-in_err-old_said-clause-refused
returns-in_err-old_said-clause-refused c = handed_on _ _ _ c.from_residual.ensures c.in_err-old_said.ensures.refused

pub returns-in_err-new_source-clause-refused : goal.returns-in_err-new_source-clause-refused
returns-in_err-new_source-clause-refused c =
    let old = c.in_ok-old_said.ensures.said in
    handed_on _ _ _ c.from_residual-in_err-new_source.ensures
    (fails_at _ _ _ c.args.names (editions_of c.args.texts) 3 refl
    (λ r no. the_new_source _ _ _ r old.source_said old.image_said old.state_said no) c.in_err-new_source.ensures.refused)

pub returns-in_err-new_image-clause-refused : goal.returns-in_err-new_image-clause-refused
returns-in_err-new_image-clause-refused c =
    let old = c.in_ok-old_said.ensures.said in
    handed_on _ _ _ c.from_residual-in_err-new_image.ensures
    (fails_at _ _ _ c.args.names (editions_of c.args.texts) 4 refl
    (λ r no. the_new_image _ _ _ _ r old.source_said old.image_said old.state_said c.in_ok-new_source.ensures.said no)
    c.in_err-new_image.ensures.refused)

pub returns-clause-said : goal.returns-clause-said
returns-clause-said c =
    let old = c.in_ok-old_said.ensures.said in
    record {
      text = old.text;
      source_said = old.source_said;
      only = old.only;
      image_said = old.image_said;
      state_said = old.state_said;
      new_text = c.in_ok-new_source.ensures.text;
      new_source_said = c.in_ok-new_source.ensures.said;
      new_only = alone _ _ _ c.in_ok-new_source.ensures.only;
      new_image_said = c.in_ok-new_image.ensures.said;
    }
