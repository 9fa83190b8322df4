use Rattle.std.proofs.Common.{◌+◌, ◌*◌, All, ap, sym, subst, map, length, ◌∙◌}
use Rattle.std.proofs.lemmas.List.{length-map}
use Rattle.boot_runtime.specs.Entries.{EndsInMemory}
use Rattle.boot_runtime.proofs.Interface.{privates_end}
use Rattle.undo_runtime.specs.Entries.{task_of, logged_tasks}
use Rattle.undo_runtime.specs.Listing.{ladder_offset}
use Rattle.undo_runtime.proofs.Writing.{boot_written}
use Rattle.undo_runtime.proofs.boot_code.Goals as goal

pub push_stubs-requires-clause-ends : goal.push_stubs-requires-clause-ends
push_stubs-requires-clause-ends c =
    subst (All (λ t. All EndsInMemory t.privates)) (sym c.tasks-tasks.ensures) (privates_end c.args.layout.now c.rules.ensures)

pub returns : goal.returns
returns c =
    let l = c.args.layout.now in
    let xs = c.tasks-tasks.result.now in
    let ladder = rw c.in_ok-code.ensures at c.in_ok-push_ladder.ensures in
    let there = ap (λ n. c.args.at + n + 4 * length xs) c.ladder_offset.ensures
    ∙ ap (λ n. c.args.at + ladder_offset l + 4 * n) (sym (length-map xs task_of)) in
    boot_written l l.commit.address c.args.at (c.args.at + c.ladder_offset.result + 4 * length xs) (logged_tasks l)
    (map task_of xs) c.push_ladder.new.code.items c.push_stubs.new.code.items (ap (map task_of) c.tasks-tasks.ensures) there ladder
    c.in_ok-push_stubs.ensures
