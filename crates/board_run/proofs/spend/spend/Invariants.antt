use Rattle.std.proofs.Common.{◌≡◌, ◌≤◌}
use Rattle.board_run.specs.Charges.{measure_of}
use Rattle.board_run.specs.State.{known_so, Follows}
use Rattle.board_run.proofs.Spends.{SpendsOn}
use Rattle.board_run.proofs.spend.spend.Given as goal

abbrev pub invariant-loop-rest : goal.invariant-loop-rest
invariant-loop-rest g l = record {
  same : l.report.sink.ghost_name ≡ l.fn.report.sink.ghost_name;
  count : g.S.Sink.faults l.fn.report.sink.now ≤ g.S.Sink.faults l.report.sink.now;
  follows : Follows l.watch l.board.fram;
  on : SpendsOn (known_so l.fn.watch) (measure_of l.kind) l.amount l.fn.board (g.S.Sink.contents l.fn.report.sink.now) l.left l.board
      (g.S.Sink.contents l.report.sink.now) (known_so l.watch);
}

abbrev pub decreases-loop-rest : goal.decreases-loop-rest
decreases-loop-rest g l = l.left
