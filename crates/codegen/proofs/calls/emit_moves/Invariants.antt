use Rattle.codegen.proofs.Names.{◌≡◌, ◌-◌, ◌++◌, frame_code}
use Rattle.codegen.proofs.calls.emit_moves.Given as goal

abbrev pub invariant-loop-i : goal.invariant-loop-i
invariant-loop-i l = l.code.items ++ frame_code l.first (l.count - l.i) ≡ l.initial.code.items ++ frame_code l.first l.count
