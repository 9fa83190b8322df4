use Rattle.std.proofs.Common.{◌+◌, ◌*◌, All, ap, sym, subst, map, length, ◌∙◌}
use Rattle.std.proofs.lemmas.List.{length-map}
use Rattle.boot_runtime.specs.Entries.{entry_of, task_entries, EndsInMemory}
use Rattle.boot_runtime.specs.Listing.{ladder_address}
use Rattle.boot_runtime.proofs.Entered.{privates_end}
use Rattle.boot_runtime.proofs.Writing.{boot_written}
use Rattle.boot_runtime.proofs.boot_code.Goals as goal

pub push_stubs-requires : goal.push_stubs-requires
push_stubs-requires c =
    subst (All (λ t. All EndsInMemory t.privates)) (sym c.tasks-tasks.ensures) (privates_end c.args.layout.now c.rules.ensures)

pub returns : goal.returns
returns c =
    let l = c.args.layout.now in
    let xs = c.tasks-tasks.result.now in
    let ladder = rw c.in_ok-code.ensures at c.in_ok-push_ladder.ensures in
    let there = ap (λ n. c.args.at + n + 4 * length xs) c.ladder_offset.ensures
    ∙ ap (λ n. ladder_address l c.args.at + 4 * n) (sym (length-map xs entry_of)) in
    boot_written l l.commit.address c.args.at (c.args.at + c.ladder_offset.result + 4 * length xs) (task_entries l)
    (map entry_of xs) c.push_ladder.new.code.items c.push_stubs.new.code.items (ap (map entry_of) c.tasks-tasks.ensures) there ladder
    c.in_ok-push_stubs.ensures
