use Rattle.std.proofs.Common.{◌-◌, arith}
use Rattle.cost_bound.specs.Machine.{known_of}
use Rattle.privatise.specs.Sizes.{body_words}
use Rattle.privatise.proofs.Sums.{total_left, total_part}
use Rattle.privatise.proofs.sizes.all_task_words.Goals as goal

pub task_words-n-requires-clause-small : goal.task_words-n-requires-clause-small
task_words-n-requires-clause-small c =
    let words = body_words (known_of c.args.functions.now) c.args.shared.now in
    let part = total_part words c.args.tasks.now (c.loop-i.i - 1) c.index-tasks-i.result (omega arith) c.index-tasks-i.is in
    omega (arith, part, c.requires.small)

pub overflow_add-n : goal.overflow_add-n
overflow_add-n c =
    let words = body_words (known_of c.args.functions.now) c.args.shared.now in
    let part = total_part words c.args.tasks.now (c.loop-i.i - 1) c.index-tasks-i.result (omega arith) c.index-tasks-i.is in
    let left = total_left words c.args.tasks.now c.loop-i.i in
    omega (arith, part, left, c.loop-i.invariant, c.task_words-n.ensures, c.requires.small)
