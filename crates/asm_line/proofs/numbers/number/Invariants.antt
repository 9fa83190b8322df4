use Rattle.std.proofs.Common.{drop}
use Rattle.asm_line.proofs.Digits.{SoFar}
use Rattle.asm_line.proofs.numbers.number.Given as goal

abbrev pub invariant-loop-b : goal.invariant-loop-b
invariant-loop-b l = SoFar l.base l.so_far (drop l.b-index l.digits) l.digits
