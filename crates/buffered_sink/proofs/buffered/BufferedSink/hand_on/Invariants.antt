use Rattle.std.proofs.Common.{length, ◌≤◌}
use Rattle.std.specs.Io.KnownBytes.{Keeps, append_known}
use Rattle.buffered_sink.proofs.buffered.BufferedSink.hand_on.Given as goal

abbrev pub invariant-loop-self : goal.invariant-loop-self
invariant-loop-self g l = record {
  bytes : Keeps (append_known (g.S.Sink.contents l.fn.self.sink.now) l.fn.self.waiting.items)
      (append_known (g.S.Sink.contents l.self.sink.now) l.self.waiting.items);
  count : g.S.Sink.faults l.fn.self.sink.now ≤ g.S.Sink.faults l.self.sink.now;
}

abbrev pub decreases-loop-self : goal.decreases-loop-self
decreases-loop-self g l = length l.self.waiting.items
