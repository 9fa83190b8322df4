use Rattle.compiler_commands.proofs.TrialLaws.{is_told}
use Rattle.compiler_commands.proofs.built.image_is_told.Goals as goal

pub returns : goal.returns
returns c =
    is_told c.images_are_told.ensures c.images_answer_in_order.ensures c.board_has_one_run.ensures.exists _ _ _ _ c.requires.accepted c.requires.compiled
