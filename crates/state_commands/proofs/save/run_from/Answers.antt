use Rattle.std.proofs.Common.{◌∙◌, ap₂, refl}
use Rattle.plain_commands.specs.fram_board.Board.{started}
use Rattle.state_commands.proofs.SaveLaws.{ran_from}
use Rattle.plain_commands.proofs.command_answers.Interface.{handed_on}
use Rattle.state_commands.proofs.save.run_from.Goals as goal

pub returns-in_err-board-clause-failure : goal.returns-in_err-board-clause-failure
returns-in_err-board-clause-failure c = handed_on _ _ _ c.from_residual.ensures refl

pub returns-in_err-watch-clause-failure : goal.returns-in_err-watch-clause-failure
returns-in_err-watch-clause-failure c = handed_on _ _ _ c.from_residual-in_err-watch.ensures refl

pub returns-clause-ran : goal.returns-clause-ran
returns-clause-ran c =
    let s = c.args.state.now in
    let is_board = c.in_ok-board.ensures ∙ ap₂ (started s.image.words s.receiver) c.readings.ensures.value c.events.ensures.value in
    ran_from s c.args.trace.now _ _ _ _ _ _ _ is_board c.in_ok-watch.ensures c.run-end.ensures.run c.run-end.ensures.cause _ c.completed-completed.ensures
