use Rattle.std.proofs.Common.{◌∙◌, ap, sym, length}
use Rattle.source_values.proofs.Rows.{same_length, followed_more}
use Rattle.source_values.proofs.tracked.follow.Goals as goal

pub follow_row-requires-clause-same_length : goal.follow_row-requires-clause-same_length
follow_row-requires-clause-same_length c =
    ap length c.deref_mut.ensures.value ∙ same_length c.loop-v.to c.args.from.now c.loop-v.v c.index-to-v.result c.index-from-v.result
    c.loop-v.invariant.same_lengths c.loop-v-test.true
    ∙ ap (λ r. length r.items) (sym c.index-from-v.is) ∙ ap length (sym c.deref.ensures.value)

pub loop-v-preserved : goal.loop-v-preserved
loop-v-preserved c =
    followed_more c.args.marks.now c.loop-v.to c.args.from.now c.loop-v.v c.index-to-v.result c.index-from-v.result c.follow_row.new.to c.loop-v.invariant
    c.loop-v-test.true c.index-from-v.is (c.follow_row.ensures ∙ c.deref.ensures.value)
