use Rattle.link_image.proofs.Names.{◌∙◌, ◌+◌, ◌*◌, ◌++◌, ap, sym, subst, length, drop, map, arith, reset_vector, chained, PartsInOrder, task_parts}
use Rattle.array_versions.specs.View.{programs_of}
use Rattle.linked_code.specs.Linked.{parts_of_task}
use Rattle.link_image.proofs.code.push_tasks.Goals as goal
use Rattle.link_image.proofs.Written.{words_in, weaker_order, order_end, order_split, parts_words, parts_more, next_order, next_emitted}

pub push_task-requires-clause-order : goal.push_task-requires-clause-order
push_task-requires-clause-order c =
    let at = c.args.start + 2 * length c.loop-k.words.items in
    let order = next_order c.args.tasks.now c.args.programs.now at c.loop-k.k c.index-tasks-k.result c.index-programs-k.result c.loop-k-test.true
    c.requires.count c.index-tasks-k.is c.index-programs-k.is c.loop-k.invariant.order in
    let own = parts_of_task c.index-tasks-k.result (programs_of c.index-programs-k.result) in
    let parts = order_split at reset_vector own _ order in
    weaker_order at _ reset_vector own (order_end _ reset_vector _ parts.1) parts.0

pub push_task-requires-clause-emitted : goal.push_task-requires-clause-emitted
push_task-requires-clause-emitted c =
    (next_emitted c.args.tasks.now c.args.programs.now c.loop-k.k c.index-tasks-k.result c.index-programs-k.result c.loop-k-test.true
    (omega (arith, c.loop-k-test.true, c.requires.count)) c.index-tasks-k.is c.index-programs-k.is c.loop-k.invariant.emitted).0

pub loop-k-preserved : goal.loop-k-preserved
loop-k-preserved c =
    let ts = c.args.tasks.now in
    let ps = c.args.programs.now in
    let k = c.loop-k.k in
    let t = c.index-tasks-k.result in
    let p = c.index-programs-k.result in
    let old = c.loop-k.words.items in
    let new = c.push_task.new.words.items in
    let at = c.args.start + 2 * length old in
    let parts = parts_of_task t (programs_of p) in
    let rest = task_parts (drop (k + 1) ts) (map programs_of (drop (k + 1) ps)) in
    let order = next_order ts ps at k t p c.loop-k-test.true c.requires.count c.index-tasks-k.is c.index-programs-k.is c.loop-k.invariant.order in
    let more = parts_more ts ps k t p c.loop-k-test.true (omega (arith, c.loop-k-test.true, c.requires.count)) c.index-tasks-k.is
    c.index-programs-k.is in
    let made = parts_words c.args.start old new _ parts rest reset_vector c.requires.even order c.in_ok-push_task.ensures
    (ap (λ l. old ++ words_in (chained at l)) (sym more) ∙ c.loop-k.invariant.made) in
    record {
      made = made.1;
      order = subst (λ e. PartsInOrder e rest reset_vector) (sym made.0) (order_split at reset_vector parts rest order).1;
      emitted = (next_emitted ts ps k t p c.loop-k-test.true (omega (arith, c.loop-k-test.true, c.requires.count)) c.index-tasks-k.is c.index-programs-k.is
          c.loop-k.invariant.emitted).1;
    }
