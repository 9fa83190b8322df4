use Rattle.std.proofs.Common.{◌∙◌, ap, Some, None}
use Rattle.task_ast.specs.View.{block_view}
use Rattle.cost_bound.specs.Table.{capped}
use Rattle.cost_bound.specs.Counts.{is_store_to, called_stores, block_count}
use Rattle.cost_bound.specs.Machine.{known_of}
use Rattle.cost_bound.proofs.Walks.{greatest_arm, choice_added, none_counted, if_counted, loop_counted}
use Rattle.cost_bound.proofs.stores.+stores.Goals as goal

pub count_in_choice-loop-i-preserved : goal.count_in_choice-loop-i-preserved
count_in_choice-loop-i-preserved t c = λ b h.
    greatest_arm (λ k. called_stores (known_of c.args.functions.now) k) c.args.arms.now c.loop-i.i c.index-arms-i.result c.deref.result.now b c.loop-i.greatest
    c.store_counts-here.result c.raise.new.counts
    c.loop-i-test.true c.loop-i.auto.i c.index-arms-i.is c.deref.ensures.value (c.loop-i.invariant b h) c.store_counts-here.ensures c.raise.ensures

pub count_in_choice-returns : goal.count_in_choice-returns
count_in_choice-returns t c = λ b h.
    choice_added (λ k. called_stores (known_of c.args.functions.now) k) c.args.arms.now c.loop-i.i b c.args.counts.now c.loop-i.greatest c.add_turns.new.counts
    c.loop-i-test.false (c.loop-i.invariant b h) c.add_turns.ensures

pub count_in_statement-returns-in-For : goal.count_in_statement-returns-in-For
count_in_statement-returns-in-For t c =
    loop_counted (λ k. called_stores (known_of c.args.functions.now) k) c.args.s.now c.in-For.variable c.in-For.from c.in-For.tested c.in-For.below
    c.in-For.stepped
    c.in-For.body c.deref-in-For.result.now
    c.saturating_sub.result c.args.counts.now c.store_counts-turn.result c.add_turns.new.counts
    c.in-For.is c.deref-in-For.ensures.value c.saturating_sub.ensures c.store_counts-turn.ensures c.add_turns.ensures

pub count_in_statement-returns-in-None : goal.count_in_statement-returns-in-None
count_in_statement-returns-in-None t c =
    if_counted (λ k. called_stores (known_of c.args.functions.now) k) c.args.s.now c.in-If.arms c.deref.result.now c.deref-in-None.result.now c.in-If.last None
    c.args.counts.now c.count_in_conditions.new.counts c.count_in_choice.new.counts
    c.in-If.is c.in-None.is c.deref.ensures.value c.deref-in-None.ensures.value (c.count_in_conditions.ensures None)
    (c.count_in_choice.ensures None none_counted)

pub count_in_statement-returns-in-Some : goal.count_in_statement-returns-in-Some
count_in_statement-returns-in-Some t c =
    if_counted (λ k. called_stores (known_of c.args.functions.now) k) c.args.s.now c.in-If.arms c.deref.result.now c.deref-in-Some-2.result.now c.in-If.last
    (Some c.in-Some.block)
    c.args.counts.now c.count_in_conditions.new.counts c.count_in_choice-in-Some.new.counts
    c.in-If.is c.in-Some.is c.deref.ensures.value c.deref-in-Some-2.ensures.value (c.count_in_conditions.ensures (Some (block_view c.in-Some.block.items)))
    (c.count_in_choice-in-Some.ensures (Some (block_view c.in-Some.block.items))
    (λ k l. c.store_counts-last.ensures k l
    ∙ ap (λ b. capped (block_count (called_stores (known_of c.args.functions.now) k) (is_store_to k) (block_view b))) c.deref-in-Some.ensures.value))
