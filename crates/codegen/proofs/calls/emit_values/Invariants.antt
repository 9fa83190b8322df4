use Rattle.codegen.proofs.Names.{◌≡◌, ◌-◌, ◌++◌, values_code, below_words}
use Rattle.codegen.proofs.calls.emit_values.Given as goal

abbrev pub invariant-loop-i : goal.invariant-loop-i
invariant-loop-i l =
    let left = l.count - l.i in
    record {
      owed : l.code.items ++ values_code l.first left l.waiting.items ≡ l.initial.code.items ++ values_code l.first l.count l.initial.waiting.items;
      below : below_words left l.waiting.items ≡ below_words l.count l.initial.waiting.items;
    }
