use Rattle.std.proofs.Common.{sym, subst, ap, length, refl, ◌∙◌, ◌+◌, ◌*◌, ◌<◌, arith}
use Rattle.std.proofs.lemmas.Option.{slice_get_read}
use Rattle.privatise.proofs.TasksPlaced.{TasksBelow, Turn, to_place, no_tasks, small_task, low_stack, room_task, task_fits, one_task, all_tasks, known_count}
use Rattle.privatise.proofs.tasks.place_tasks.Goals as goal

pub loop-i-init : goal.loop-i-init
loop-i-init c =
    let s = to_place c.args.functions c.args.shared.now c.args.variables.now c.args.tasks.now c.args.plans.now c.args.address in
    subst (λ xs. TasksBelow s 0 c.args.address xs) (sym c.new-layouts.ensures.items) (no_tasks s c.requires.even)

pub task_layout-requires-clause-stack : goal.task_layout-requires-clause-stack
task_layout-requires-clause-stack c =
    let s = to_place c.args.functions c.args.shared.now c.args.variables.now c.args.tasks.now c.args.plans.now c.args.address in
    let t : Turn s = record {
      i = c.loop-i.i;
      at = c.loop-i.at;
      layouts = c.loop-i.layouts.items;
      below = c.loop-i.invariant;
      task = c.index-tasks-i.result;
      within = c.loop-i-test.true;
      is = c.index-tasks-i.is;
    } in
    low_stack s t c.requires.stacks

pub task_layout-requires-clause-small : goal.task_layout-requires-clause-small
task_layout-requires-clause-small c =
    let s = to_place c.args.functions c.args.shared.now c.args.variables.now c.args.tasks.now c.args.plans.now c.args.address in
    let t : Turn s = record {
      i = c.loop-i.i;
      at = c.loop-i.at;
      layouts = c.loop-i.layouts.items;
      below = c.loop-i.invariant;
      task = c.index-tasks-i.result;
      within = c.loop-i-test.true;
      is = c.index-tasks-i.is;
    } in
    small_task s t c.requires.small

pub task_layout-requires-clause-room : goal.task_layout-requires-clause-room
task_layout-requires-clause-room c =
    let s = to_place c.args.functions c.args.shared.now c.args.variables.now c.args.tasks.now c.args.plans.now c.args.address in
    let t : Turn s = record {
      i = c.loop-i.i;
      at = c.loop-i.at;
      layouts = c.loop-i.layouts.items;
      below = c.loop-i.invariant;
      task = c.index-tasks-i.result;
      within = c.loop-i-test.true;
      is = c.index-tasks-i.is;
    } in
    room_task s t c.requires.room

pub task_layout-requires-clause-scalars : goal.task_layout-requires-clause-scalars
task_layout-requires-clause-scalars c =
    let lt : c.loop-i.i < length c.args.plans.now = omega arith in
    c.requires.scalars c.loop-i.i c.index-plans-i.result
    (slice_get_read c.args.plans.now (length c.args.plans.now) c.loop-i.i c.index-plans-i.result refl lt c.index-plans-i.is)

pub task_words-words-requires-clause-small : goal.task_words-words-requires-clause-small
task_words-words-requires-clause-small c =
    let s = to_place c.args.functions c.args.shared.now c.args.variables.now c.args.tasks.now c.args.plans.now c.args.address in
    let t : Turn s = record {
      i = c.loop-i.i;
      at = c.loop-i.at;
      layouts = c.loop-i.layouts.items;
      below = c.loop-i.invariant;
      task = c.index-tasks-i.result;
      within = c.loop-i-test.true;
      is = c.index-tasks-i.is;
    } in
    small_task s t c.requires.small

pub address_behind-at-requires : goal.address_behind-at-requires
address_behind-at-requires c =
    let s = to_place c.args.functions c.args.shared.now c.args.variables.now c.args.tasks.now c.args.plans.now c.args.address in
    let t : Turn s = record {
      i = c.loop-i.i;
      at = c.loop-i.at;
      layouts = c.loop-i.layouts.items;
      below = c.loop-i.invariant;
      task = c.index-tasks-i.result;
      within = c.loop-i-test.true;
      is = c.index-tasks-i.is;
    } in
    task_fits s t c.task_words-words.result c.requires.room c.task_words-words.ensures

pub loop-i-preserved : goal.loop-i-preserved
loop-i-preserved c =
    let s = to_place c.args.functions c.args.shared.now c.args.variables.now c.args.tasks.now c.args.plans.now c.args.address in
    let t : Turn s = record {
      i = c.loop-i.i;
      at = c.loop-i.at;
      layouts = c.loop-i.layouts.items;
      below = c.loop-i.invariant;
      task = c.index-tasks-i.result;
      within = c.loop-i-test.true;
      is = c.index-tasks-i.is;
    } in
    let lt : c.loop-i.i < length c.args.plans.now = omega arith in
    one_task s t c.index-plans-i.result c.in_ok-task.task c.address_behind-at.result c.push.new.self.items
    (slice_get_read c.args.plans.now (length c.args.plans.now) c.loop-i.i c.index-plans-i.result refl lt c.index-plans-i.is)
    (known_count c.args.functions c.requires.same) c.in_ok-task.ensures
    (c.address_behind-at.ensures ∙ ap (λ n. c.loop-i.at + 2 * n) c.task_words-words.ensures) c.in_ok-push.ensures.items

pub returns : goal.returns
returns c =
    let s = to_place c.args.functions c.args.shared.now c.args.variables.now c.args.tasks.now c.args.plans.now c.args.address in
    all_tasks s c.loop-i.i c.loop-i.at c.loop-i.layouts.items (omega arith) c.loop-i.invariant
