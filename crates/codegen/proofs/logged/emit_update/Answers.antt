use Rattle.codegen.proofs.Emitted.{behind}
use Rattle.codegen.proofs.logged.emit_update.Goals as goal

pub returns-then-inside-clause-code : goal.returns-then-inside-clause-code
returns-then-inside-clause-code c = rw c.if-inside.true c.emit_made.ensures

pub returns-clause-code : goal.returns-clause-code
returns-clause-code c = rw c.if-inside.false (behind c.emit_made-2.result _ _ _ _ _ c.in_ok-emit_check.ensures c.emit_made-2.ensures)
