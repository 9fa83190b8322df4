use Rattle.std.proofs.Common.{◌≡◌, ◌+◌, not, drop}
use Rattle.text_parts.specs.Lengths.{len_before}
use Rattle.text_parts.specs.Fields.{is_blank}
use Rattle.asm_line.proofs.cuts.blank_len.Given as goal

abbrev pub invariant-loop-i : goal.invariant-loop-i
invariant-loop-i l = l.i + len_before (λ b. not (is_blank b)) (drop l.i l.bytes) ≡ len_before (λ b. not (is_blank b)) l.bytes
