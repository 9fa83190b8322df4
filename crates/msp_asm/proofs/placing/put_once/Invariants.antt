use Rattle.std.proofs.Common.{◌≡◌, ◌+◌, drop, length}
use Rattle.image_text.specs.Memory.{put_once}
use Rattle.msp_asm.proofs.placing.put_once.Given as goal

abbrev pub invariant-loop-w : goal.invariant-loop-w
invariant-loop-w l = record {
  place : l.i ≡ l.fn.from + l.w-index;
  len : length l.memory.items ≡ length l.fn.memory.items;
  left : put_once l.i (drop l.w-index l.words) l.memory.items ≡ put_once l.fn.from l.words l.fn.memory.items;
}
