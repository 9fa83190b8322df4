use Rattle.codegen.proofs.Names.{◌≡◌, ◌-◌, ◌++◌, times_code}
use Rattle.codegen.proofs.shifts.emit_times.Given as goal

abbrev pub invariant-loop-i : goal.invariant-loop-i
invariant-loop-i l = l.code.items ++ times_code (l.count - l.i) l.forms ≡ l.initial.code.items ++ times_code l.count l.forms
