use Rattle.codegen.proofs.in_place.emit_indexed_update.Goals as goal

pub returns-else-sure : goal.returns-else-sure
returns-else-sure c = rw c.if-sure.false c.emit_checked.ensures
