use Rattle.std.proofs.Common.{◌≡◌, ℕ, ◌∷◌, [], refl, sym, ◌∙◌, ap, arith, Some, subst, length, slice_index, ◌%◌, ◌/◌}
use Rattle.msp_isa.specs.Encoding.{source_row, destination_row, HasFields, IsPrefix}
use Rattle.msp_isa.specs.declared.operands.Dst.{Dst}
use Rattle.msp_decode.proofs.Fields.{two_fields, two_words, prefix_first, same_width}
use Rattle.msp_decode.proofs.two_at.Goals as goal

pub returns-in-None-clause-illegal : goal.returns-in-None-clause-illegal
returns-in-None-clause-illegal c = λ i fits first.
    let t = two_fields c.args.w0 c.requires i fits first in
    c.in-None.ensures.none t.dst t.dst_is

pub returns-in-None-clause-only : goal.returns-in-None-clause-only
returns-in-None-clause-only c = λ i fits front.
    let t = two_fields c.args.w0 c.requires i fits (prefix_first i _ _ front) in
    absurd (c.in-None.ensures.none t.dst t.dst_is)

pub returns-in-Some-clause-only : goal.returns-in-Some-clause-only
returns-in-Some-clause-only c = λ i fits front.
    let t = two_fields c.args.w0 c.requires i fits (prefix_first i _ _ front) in
    let words = two_words i c.args.w0 c.args.w1 c.args.w2 t front in
    let s = c.source_at-src.ensures.only t.src t.src_is words.0 in
    let o = c.from_opcode-op.ensures.only t.op t.op_is in
    let w = same_width c.width_at-width.result t.width (c.width_at-width.ensures ∙ sym t.width_is) in
    let P : ℕ → Type 0 = λ v. IsPrefix (destination_row t.dst).extension (v ∷ []) in
    let after = ap (λ x. slice_index (c.args.w1 ∷ c.args.w2 ∷ []) (length (source_row x).extension)) (sym s) ∙ sym c.word_after-after.ensures in
    let d = c.in-Some.ensures.only t.dst t.dst_is (subst P after words.1) in
    let is = t.is in
    cc
