use Rattle.std.proofs.Common.{◌≡◌, ◌+◌, drop, length}
use Rattle.image_text.specs.Memory.{put_once}
use Rattle.image_text.proofs.builder.put_once.Given as goal

abbrev pub invariant-loop-b : goal.invariant-loop-b
invariant-loop-b l = record {
  place : l.i ≡ l.fn.from + l.b-index;
  len : length l.memory.items ≡ length l.fn.memory.items;
  left : put_once l.i (drop l.b-index l.bytes) l.memory.items ≡ put_once l.fn.from l.bytes l.fn.memory.items;
}
