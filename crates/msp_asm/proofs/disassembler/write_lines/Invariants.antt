use Rattle.std.proofs.Common.{◌≤◌, ◌+◌, ◌*◌, length}
use Rattle.msp_asm.specs.Disassembly.{AreLinesOf}
use Rattle.msp_asm.proofs.Listing.{Listed}
use Rattle.msp_asm.proofs.disassembler.write_lines.Given as goal

abbrev pub invariant-loop-rest : goal.invariant-loop-rest
invariant-loop-rest g l = record {
  room : l.at + 2 * length l.rest ≤ 65536;
  bytes : Listed (AreLinesOf l.address 0 l.words) (AreLinesOf l.at 0 l.rest) (g.S.Sink.contents l.fn.sink) (g.S.Sink.contents l.sink);
  count : g.S.Sink.faults l.fn.sink ≤ g.S.Sink.faults l.sink;
}

abbrev pub decreases-loop-rest : goal.decreases-loop-rest
decreases-loop-rest g l = length l.rest
