use Rattle.std.proofs.Common.{◌≡◌, ◌≤◌, ◌+◌, length}
use Rattle.image_text.specs.Text.{sections}
use Rattle.msp_asm.specs.Disassembly.{AreSectionsOf, IsTextOf}
use Rattle.msp_asm.proofs.Listing.{Listed}
use Rattle.msp_asm.proofs.disassembler.disassemble.Given as goal

abbrev pub invariant-loop-at : goal.invariant-loop-at
invariant-loop-at g l = record {
  room : l.place + length l.rest ≡ 24064;
  bytes : Listed (IsTextOf l.image.words) (AreSectionsOf (sections l.place l.rest)) (g.S.Sink.contents l.fn.sink) (g.S.Sink.contents l.sink);
  count : g.S.Sink.faults l.fn.sink ≤ g.S.Sink.faults l.sink;
}

abbrev pub decreases-loop-at : goal.decreases-loop-at
decreases-loop-at g l = length l.rest
