use Rattle.std.proofs.Common.{refl, ap, ◌∙◌, Err, None}
use Rattle.fram_board.specs.Board.{performed, board_behind}
use Rattle.fram_board.specs.Steps.{Performs, Halts}
use Rattle.fram_board.proofs.board.Board.step.Goals as goal

pub returns-in-Ok-clause-step : goal.returns-in-Ok-clause-step
returns-in-Ok-clause-step c =
    let b = c.args.self.now in
    let n = c.in-Ok.step in
    let answer = c.perform.ensures.answer in
    let board = c.perform.ensures.board in
    (performed b n, Performs n c.in-Ok.ensures.found, answer, board ∙ ap (λ a. board_behind a (performed b n).board) answer)

pub returns-in-Err-clause-step : goal.returns-in-Err-clause-step
returns-in-Err-clause-step c =
    (record { answer = Err c.in-Err.stop; offered = None; board = c.args.self.now }, Halts c.in-Err.stop c.in-Err.ensures.none, refl, refl)
