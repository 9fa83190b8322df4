use Rattle.std.proofs.Common.{◌≡◌, ◌+◌, ◌==◌, drop}
use Rattle.text_parts.specs.Lengths.{len_before}
use Rattle.asm_line.proofs.cuts.len_before.Given as goal

abbrev pub invariant-loop-i : goal.invariant-loop-i
invariant-loop-i l = l.i + len_before (λ b. b == l.mark) (drop l.i l.bytes) ≡ len_before (λ b. b == l.mark) l.bytes
