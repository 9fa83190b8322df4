use Rattle.std.proofs.Common.{length, ◌≤◌, ◌+◌, ◌-◌}
use Rattle.std.specs.Io.KnownBytes.{Consumes}
use Rattle.alp_io.proofs.file_reads.read_within.Given as goal

abbrev pub invariant-loop-into : goal.invariant-loop-into
invariant-loop-into g l = record {
  taken : Consumes (g.F.Read.remaining l.fn.file) (g.F.Read.remaining l.file) l.into.items;
  most : length l.into.items ≤ l.limit + 1;
}

abbrev pub decreases-loop-into : goal.decreases-loop-into
decreases-loop-into g l = l.limit + 1 - length l.into.items
