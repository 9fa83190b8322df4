use Rattle.source_values.proofs.Rows.{rows_set, rows_set-lengths}
use Rattle.source_values.proofs.tracked.set_row_word.Goals as goal

pub returns-then-v-rows-clause-set : goal.returns-then-v-rows-clause-set
returns-then-v-rows-clause-set c =
    rows_set c.args.rows.now c.args.v c.args.i c.args.w c.index-rows-v.result c.deref_mut.result.now c.set_word.new.words c.if-v-rows.true
    c.deref_mut.ensures.value c.set_word.ensures

pub returns-then-v-rows-clause-same_lengths : goal.returns-then-v-rows-clause-same_lengths
returns-then-v-rows-clause-same_lengths c =
    rows_set-lengths c.args.rows.now c.args.v c.args.i c.args.w c.index-rows-v.result c.deref_mut.result.now c.set_word.new.words c.if-v-rows.true
    c.deref_mut.ensures.value c.set_word.ensures
