use Rattle.std.proofs.Common.{◌≤◌, ◌-◌, ◌*◌, length, take}
use Rattle.pair_run.specs.Actions.{all_actions}
use Rattle.pair_run.specs.Pair.{Pair}
use Rattle.pair_run.specs.Lines.{PairKnown}
use Rattle.pair_run.specs.Sides.{IsGoingOn, HasRoomFor, most_steps, Shows, DoesAll}
use Rattle.pair_run.proofs.run.make_entries.Given as goal

abbrev pub invariant-loop-entry : goal.invariant-loop-entry
invariant-loop-entry g l = record {
  going : IsGoingOn l.sides;
  room : HasRoomFor l.sides (most_steps * (length l.entries - l.entry-index));
  faults : g.S.Sink.faults l.fn.sink ≤ g.S.Sink.faults l.sink;
  on : (p : Pair) (k : PairKnown) → Shows l.fn.sides p k
      → DoesAll (all_actions (take l.entry-index l.entries)) p k (g.S.Sink.contents l.fn.sink) (g.S.Sink.contents l.sink) l.sides;
}
