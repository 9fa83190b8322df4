use Rattle.std.proofs.Common.{◌≡◌, take, vec_len}
use Rattle.msp_asm.specs.Assembled.{all_words}
use Rattle.msp_asm.proofs.assembler.all_words.Given as goal

abbrev pub invariant-loop-w : goal.invariant-loop-w
invariant-loop-w l = record {
  value : l.words.items ≡ all_words (take l.w-index l.memory);
  len : vec_len l.words ≡ l.w-index;
}
