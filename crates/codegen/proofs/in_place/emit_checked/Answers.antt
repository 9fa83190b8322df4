use Rattle.codegen.proofs.Names.{ap, ◌∙◌, arith, size, rest_source}
use Rattle.word_code.proofs.Interface.{reads_bytes, inside_bytes}
use Rattle.codegen.proofs.Emitted.{behind, on_ok_items}
use Rattle.codegen.proofs.in_place.emit_checked.Goals as goal

pub code_words-requires : goal.code_words-requires
code_words-requires c =
    let update = c.args.update in
    let x = rest_source update.right in
    let own = c.deref.ensures.value ∙ (rw c.new-inside.ensures.items at c.in_ok-emit_inside.ensures) in
    omega (arith, ap size own, inside_bytes update.operation x update.place update.list, reads_bytes update.operation x)

pub jump-requires : goal.jump-requires
jump-requires c =
    let update = c.args.update in
    let x = rest_source update.right in
    let own = c.deref.ensures.value ∙ (rw c.new-inside.ensures.items at c.in_ok-emit_inside.ensures) in
    omega (arith, c.code_words.ensures, ap size own, inside_bytes update.operation x update.place update.list, reads_bytes update.operation x)

pub returns : goal.returns
returns c =
    let own = rw c.new-inside.ensures.items at c.in_ok-emit_inside.ensures in
    let words = c.code_words.ensures ∙ ap size (c.deref.ensures.value ∙ own) in
    let front = rw (c.jump.ensures, words) at c.in_ok-extend_from_slice.ensures.items in
    let ended = on_ok_items c.extend_from_slice-2.result _ _ _ c.extend_from_slice-2.ensures.items in
    behind c.extend_from_slice-2.result _ _ _ _ _ front (rw (c.deref-2.ensures.value ∙ own) at ended)
