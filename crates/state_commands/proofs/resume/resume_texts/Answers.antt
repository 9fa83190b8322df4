use Rattle.std.proofs.Common.{◌∙◌, ap₂, refl}
use Rattle.plain_commands.specs.fram_board.Board.{started}
use Rattle.state_commands.specs.Resumed.{the_other_state}
use Rattle.plain_commands.proofs.command_answers.Interface.{handed_on, nothing_done, refusal_fails}
use Rattle.plain_commands.proofs.Interface.{report_whole, report_fails}
use Rattle.state_commands.proofs.ResumeLaws.{resume_product}
use Rattle.state_commands.proofs.resume.resume_texts.Goals as goal

pub returns-in_err-said-clause-failure : goal.returns-in_err-said-clause-failure
returns-in_err-said-clause-failure g c =
    handed_on _ _ _ c.from_residual.ensures (λ shelf stands. nothing_done _ _ _ _ _ c.in_err-said.ensures.failure stands refl)

pub returns-in_err-check_belongs-clause-failure : goal.returns-in_err-check_belongs-clause-failure
returns-in_err-check_belongs-clause-failure g c =
    let said = c.in_ok-said.ensures.said in
    handed_on _ _ _ c.from_residual-in_err-check_belongs.ensures
    (λ shelf stands. refusal_fails _ _ _ _ _ 1 _ _ refl
    (λ r no. the_other_state _ _ _ r said.image_said said.state_said said.trace_said no) stands refl c.in_err-check_belongs.ensures.refused)

pub returns-in_err-board-clause-failure : goal.returns-in_err-board-clause-failure
returns-in_err-board-clause-failure g c = handed_on _ _ _ c.from_residual-in_err-board.ensures (λ shelf stands. (stands, refl))

pub returns-clause-whole : goal.returns-clause-whole
returns-clause-whole g c =
    let said = c.in_ok-said.ensures.said in
    let state = c.in_ok-said.said.state in
    let is_board = c.in_ok-board.ensures ∙ ap₂ (started state.image.words state.receiver) c.readings-readings.ensures.value c.events.ensures.value in
    report_whole _ _ _ _ _ _ _ refl
    (resume_product c.args.names.image.now c.args.names.state.now c.args.names.trace.now _ _ _ _ _ _ _ said.image_said said.state_said said.trace_said
    c.in_ok-check_belongs.ensures.belongs c.is_of_words.ensures said.words is_board)
    c.write_run.ensures.whole

pub returns-clause-failure : goal.returns-clause-failure
returns-clause-failure g c =
    let said = c.in_ok-said.ensures.said in
    let state = c.in_ok-said.said.state in
    let is_board = c.in_ok-board.ensures ∙ ap₂ (started state.image.words state.receiver) c.readings-readings.ensures.value c.events.ensures.value in
    report_fails _ _ _ _ _ _ _ refl
    (resume_product c.args.names.image.now c.args.names.state.now c.args.names.trace.now _ _ _ _ _ _ _ said.image_said said.state_said said.trace_said
    c.in_ok-check_belongs.ensures.belongs c.is_of_words.ensures said.words is_board)
    c.write_run.ensures.failure
