use Rattle.codegen.proofs.Emitted.{behind}
use Rattle.codegen.proofs.versioned.emit_stored.Goals as goal

pub returns : goal.returns
returns c = behind c.emit_first.result _ _ _ _ _ c.in_ok-emit_copy.ensures c.emit_first.ensures
