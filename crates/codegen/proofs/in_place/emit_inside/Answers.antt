use Rattle.codegen.proofs.Names.{◌∙◌}
use Rattle.codegen.proofs.Emitted.{behind}
use Rattle.codegen.proofs.in_place.emit_inside.Goals as goal

pub returns : goal.returns
returns c =
    let again = c.deref.ensures.value ∙ (rw c.new-again.ensures.items at c.in_ok-emit_made.ensures) in
    let first = c.deref-2.ensures.value ∙ (rw c.new-first.ensures.items at c.in_ok-emit_first_update.ensures) in
    let looked = rw c.attempt_number.ensures at c.in_ok-extend_from_slice.ensures.items in
    behind c.emit_by_version.result _ _ _ _ _ looked (rw (again, first) at c.emit_by_version.ensures)
