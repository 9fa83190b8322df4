use Rattle.codegen.proofs.Names.{◌++◌, ◌∷◌, [], rest_source, made_code, attempt_form, first_code}
use Rattle.codegen.proofs.Emitted.{behind}
use Rattle.codegen.proofs.in_place.emit_first_update.Goals as goal

pub returns : goal.returns
returns c =
    let place = c.args.update.place in
    let made = made_code c.args.update.operation (rest_source c.args.update.right) place.elements place.copies in
    let number = attempt_form c.args.update.list ∷ [] in
    let rest = first_code place c.args.update.list in
    let numbered = rw c.attempt_number.ensures at c.in_ok-extend_from_slice.ensures.items in
    behind c.emit_first.result c.args.code.now.items _ _ made (number ++ rest) c.in_ok-emit_made.ensures
    (behind c.emit_first.result c.emit_made.new.code.items _ _ number rest numbered c.emit_first.ensures)
