use Rattle.std.proofs.Common.{arith}
use Rattle.board_run.specs.Charges.{measure_of}
use Rattle.board_run.proofs.Turns.{spent_now, stopped_now}
use Rattle.board_run.proofs.spend.take_turn.Goals as goal

pub returns-then-left-eq0-clause-turn : goal.returns-then-left-eq0-clause-turn
returns-then-left-eq0-clause-turn g c = spent_now (measure_of c.args.kind) c.args.left c.args.board.now _ _ (omega (arith, c.if-left-eq0.true))

pub returns-in-Err-clause-turn : goal.returns-in-Err-clause-turn
returns-in-Err-clause-turn g c = stopped_now (measure_of c.args.kind) c.args.left c.args.board.now c.in-Err.stop _ _ (omega (arith, c.if-left-eq0.false))
    c.in-Err.ensures.none
