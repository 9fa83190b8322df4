use Rattle.std.proofs.Common.{◌≡◌, length}
use Rattle.std.specs.Io.KnownBytes.{Keeps}
use Rattle.alp_io.proofs.file_reads.read_some.Given as goal

abbrev pub invariant-loop : goal.invariant-loop
invariant-loop g l = record {
  kept : Keeps (g.F.Read.remaining l.fn.file) (g.F.Read.remaining l.file);
  room : length l.piece ≡ length l.fn.piece;
}
