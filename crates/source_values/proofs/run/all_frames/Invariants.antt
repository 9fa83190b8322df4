use Rattle.std.proofs.Common.{◌≡◌, length}
use Rattle.source_values.proofs.run.all_frames.Given as goal

abbrev pub invariant-loop : goal.invariant-loop
invariant-loop l = length l.frames.items ≡ l.counter
