use Rattle.std.proofs.Common.{◌≤◌, ◌+◌, ◌-◌, ℕ, [], ◌∷◌}
use Rattle.pair_run.specs.Actions.{StepOfA, repeated}
use Rattle.pair_run.specs.Pair.{Pair}
use Rattle.pair_run.specs.Lines.{PairKnown}
use Rattle.pair_run.specs.Sides.{IsGoingOn, HasRoomFor, Shows, DoesAll}
use Rattle.pair_run.proofs.rounds.make_steps_of_a.Given as goal

abbrev pub invariant-loop : goal.invariant-loop
invariant-loop g l = record {
  going : IsGoingOn l.sides;
  room : (n : ℕ) → HasRoomFor l.fn.sides (n + l.fn.count) → HasRoomFor l.sides (n + (l.fn.count - l.counter));
  faults : g.S.Sink.faults l.fn.sink ≤ g.S.Sink.faults l.sink;
  on : (p : Pair) (k : PairKnown) → Shows l.fn.sides p k
      → DoesAll (repeated l.counter (StepOfA ∷ [])) p k (g.S.Sink.contents l.fn.sink) (g.S.Sink.contents l.sink) l.sides;
}
