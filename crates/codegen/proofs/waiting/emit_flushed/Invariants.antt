use Rattle.codegen.proofs.Names.{◌≡◌, ◌-◌, ◌++◌, drop, length, flushed}
use Rattle.codegen.proofs.waiting.emit_flushed.Given as goal

abbrev pub invariant-loop-i : goal.invariant-loop-i
invariant-loop-i l = l.code.items ≡ l.initial.code.items ++ flushed (drop (length l.waiting - l.i) l.waiting)
