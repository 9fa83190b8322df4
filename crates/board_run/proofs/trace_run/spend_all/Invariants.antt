use Rattle.std.proofs.Common.{◌≡◌, ◌≤◌, ◌*◌, drop}
use Rattle.energy_trace.specs.TraceValue.{charge_count}
use Rattle.board_run.specs.Charges.{charges_of}
use Rattle.board_run.specs.State.{known_so, Follows}
use Rattle.board_run.proofs.Charges.{SpendsFor}
use Rattle.board_run.proofs.trace_run.spend_all.Given as goal

abbrev pub invariant-loop-charge : goal.invariant-loop-charge
invariant-loop-charge g l = record {
  same : l.report.sink.ghost_name ≡ l.fn.report.sink.ghost_name;
  count : g.S.Sink.faults l.fn.report.sink.now ≤ g.S.Sink.faults l.report.sink.now;
  follows : Follows l.watch l.board.fram;
  on : SpendsFor (known_so l.fn.watch) (charges_of l.charges) l.fn.board (g.S.Sink.contents l.fn.report.sink.now) (4294967295 * charge_count l.charges)
      (charges_of (drop l.charge-index l.charges)) l.board (g.S.Sink.contents l.report.sink.now) (known_so l.watch)
      (4294967295 * charge_count (drop l.charge-index l.charges));
}
