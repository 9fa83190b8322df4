use Rattle.std.proofs.Common.{◌≡◌, ◌+◌, drop}
use Rattle.text_parts.specs.Lengths.{len_before}
use Rattle.text_parts.specs.Fields.{is_blank}
use Rattle.asm_line.proofs.cuts.word_len.Given as goal

abbrev pub invariant-loop-i : goal.invariant-loop-i
invariant-loop-i l = l.i + len_before is_blank (drop l.i l.bytes) ≡ len_before is_blank l.bytes
