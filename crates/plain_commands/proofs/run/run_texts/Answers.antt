use Rattle.std.proofs.Common.{◌∙◌, ap₂, refl}
use Rattle.fram_board.specs.Board.{fresh}
use Rattle.plain_commands.specs.Run.{the_image, the_trace}
use Rattle.command_texts.proofs.command_answers.Interface.{handed_on, refusal_fails}
use Rattle.plain_commands.proofs.CommandLaws.{report_whole, report_fails, run_product}
use Rattle.plain_commands.proofs.run.run_texts.Goals as goal

pub returns-in_err-image-clause-failure : goal.returns-in_err-image-clause-failure
returns-in_err-image-clause-failure g c =
    handed_on _ _ _ c.from_residual.ensures
    (λ shelf stands. refusal_fails _ _ _ _ _ 0 _ _ refl (λ r no. the_image r no) stands refl c.in_err-image.ensures.refused)

pub returns-in_err-trace-clause-failure : goal.returns-in_err-trace-clause-failure
returns-in_err-trace-clause-failure g c =
    handed_on _ _ _ c.from_residual-in_err-trace.ensures
    (λ shelf stands. refusal_fails _ _ _ _ _ 1 _ _ refl (λ r no. the_trace _ r c.in_ok-image.ensures.said no) stands refl c.in_err-trace.ensures.refused)

pub returns-in_err-board-clause-failure : goal.returns-in_err-board-clause-failure
returns-in_err-board-clause-failure g c = handed_on _ _ _ c.from_residual-in_err-board.ensures (λ shelf stands. (stands, refl))

pub returns-clause-whole : goal.returns-clause-whole
returns-clause-whole g c =
    let is_board = c.in_ok-board.ensures ∙ ap₂ (fresh c.in_ok-image.image.words) c.readings.ensures.value c.events.ensures.value in
    report_whole _ _ _ _ _ _ _ refl
    (run_product c.args.names.image.now c.args.names.trace.now _ _ _ _ _ c.in_ok-image.ensures.said c.in_ok-trace.ensures.said is_board)
    c.write_run.ensures.whole

pub returns-clause-failure : goal.returns-clause-failure
returns-clause-failure g c =
    let is_board = c.in_ok-board.ensures ∙ ap₂ (fresh c.in_ok-image.image.words) c.readings.ensures.value c.events.ensures.value in
    report_fails _ _ _ _ _ _ _ refl
    (run_product c.args.names.image.now c.args.names.trace.now _ _ _ _ _ c.in_ok-image.ensures.said c.in_ok-trace.ensures.said is_board)
    c.write_run.ensures.failure
