use Rattle.asm_line.specs.Views.{located}
use Rattle.asm_line.proofs.Splits.{list_next, list_stops, list_shorter}
use Rattle.asm_line.proofs.lists.word_list.Goals as goal

pub returns-in_default-word_value : goal.returns-in_default-word_value
returns-in_default-word_value c = list_stops c.loop-left.count (located c.in-Some.rest) _ (located c.args.list) (rw c.in-Some.is at c.loop-left.invariant)
    c.cut_at.ensures.before c.in_default-word_value.ensures

pub loop-left-smaller : goal.loop-left-smaller
loop-left-smaller c = rw c.in-Some.is (list_shorter (located c.in-Some.rest) _ c.cut_at.ensures.behind)

pub loop-left-preserved : goal.loop-left-preserved
loop-left-preserved c = list_next c.loop-left.count (located c.in-Some.rest) _ (located c.args.list) _ _ (rw c.in-Some.is at c.loop-left.invariant)
    c.cut_at.ensures.before c.cut_at.ensures.behind c.in-Some-word_value.ensures
