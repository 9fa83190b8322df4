use Rattle.codegen.proofs.Emitted.{behind}
use Rattle.codegen.proofs.versioned.emit_write.Goals as goal

pub returns-clause-code : goal.returns-clause-code
returns-clause-code c = rw c.if-inside.false (behind c.emit_stored-2.result _ _ _ _ _ c.in_ok-emit_check.ensures c.emit_stored-2.ensures)
