use Rattle.codegen.proofs.Names.{◌+◌, ◌∷◌, ◌++◌, [], sym, ap, ◌∙◌, append_assoc, Jump, size}
use Rattle.word_code.specs.msp_isa.declared.instructions.Condition.TheVariants as condition
use Rattle.codegen.proofs.Emitted.{behind, on_ok_items, one_more}
use Rattle.codegen.proofs.in_place.emit_by_version.Goals as goal

pub returns : goal.returns
returns c =
    let r = c.extend_from_slice-4.result in
    let first = c.args.first.now in
    let next = c.args.again.now ++ Jump condition.Always (size first) ∷ [] in
    let over = ap (λ n. n + 1) c.code_words.ensures ∙ sym (one_more c.args.again.now condition.Always (size first)) in
    let jumped = rw (c.jump.ensures, over) at c.in_ok-extend_from_slice.ensures.items in
    let leave = rw (c.jump-2.ensures, c.code_words-2.ensures) at c.in_ok-extend_from_slice-3.ensures.items in
    let left = rw (c.in_ok-extend_from_slice-2.ensures.items, append_assoc) at leave in
    behind r c.args.code.now.items _ _ (Jump condition.NotEqual (size next) ∷ []) (next ++ first) jumped
    (behind r c.extend_from_slice.new.self.items _ _ next first left (on_ok_items r _ _ _ c.extend_from_slice-4.ensures.items))
