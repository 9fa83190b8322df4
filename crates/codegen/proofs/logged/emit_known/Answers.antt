use Rattle.codegen.proofs.Emitted.{behind, on_ok_items}
use Rattle.codegen.proofs.logged.emit_known.Goals as goal

pub returns : goal.returns
returns c =
    let made = rw c.plain_instruction.ensures at c.extend_from_slice.ensures.items in
    let added = on_ok_items c.extend_from_slice.result _ _ _ made in
    behind c.extend_from_slice.result _ _ _ _ _ c.in_ok-emit_known_first.ensures added
