use Rattle.std.proofs.Common.{◌≡◌, ◌≤◌, ◌*◌, replicate}
use Rattle.board_run.specs.Charges.{charge_of}
use Rattle.board_run.specs.State.{known_so, Follows}
use Rattle.board_run.proofs.Charges.{SpendsFor}
use Rattle.board_run.proofs.trace_run.spend_repeated.Given as goal

abbrev pub invariant-loop-left : goal.invariant-loop-left
invariant-loop-left g l = record {
  same : l.report.sink.ghost_name ≡ l.fn.report.sink.ghost_name;
  count : g.S.Sink.faults l.fn.report.sink.now ≤ g.S.Sink.faults l.report.sink.now;
  follows : Follows l.watch l.board.fram;
  on : SpendsFor (known_so l.fn.watch) (replicate l.charge.times (charge_of l.charge)) l.fn.board (g.S.Sink.contents l.fn.report.sink.now)
      (4294967295 * l.charge.times)
      (replicate l.left (charge_of l.charge)) l.board (g.S.Sink.contents l.report.sink.now) (known_so l.watch) (4294967295 * l.left);
}

abbrev pub decreases-loop-left : goal.decreases-loop-left
decreases-loop-left g l = l.left
