use Rattle.codegen.proofs.Names.{◌∙◌}
use Rattle.codegen.proofs.Emitted.{behind}
use Rattle.codegen.proofs.in_place.emit_known.Goals as goal

pub returns : goal.returns
returns c =
    let moved = rw c.new-first.ensures.items at c.in_ok-extend_from_slice.ensures.items in
    let first = c.deref.ensures.value ∙ (rw moved at c.in_ok-emit_first_update.ensures) in
    let looked = rw c.attempt_number.ensures at c.in_ok-extend_from_slice-2.ensures.items in
    behind c.emit_by_version.result _ _ _ _ _ looked (rw (first, c.plain_instruction.ensures, c.rest_source.ensures) at c.emit_by_version.ensures)
