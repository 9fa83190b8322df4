use Rattle.link_image.proofs.Names.{◌≡◌, ◌∙◌, ◌+◌, ◌*◌, ◌++◌, ◌<◌, ◌≤◌, ap, sym, subst, length, map, arith, reset_vector}
use Rattle.array_versions.specs.View.{programs_of}
use Rattle.link_image.proofs.Names.{apart_of, chained, PartsInOrder, task_parts, Bool, List, ℕ, TaskPlace}
use Rattle.link_image.specs.Needs.{TasksAreEmitted}
use Rattle.link_image.proofs.code.code_words.Goals as goal
use Rattle.linked_code.specs.Linked.{boot_code, commit_code, bytes_of_boot, bytes_of_commit, StartsFit}
use Rattle.memory_map.specs.declared.runtime.Logging.{Logging}
use Rattle.memory_map.specs.declared.runtime.Logging.TheVariants.{Redo, Undo}
use Rattle.link_image.proofs.Written.{words_in, after_boot, commit_behind, after_commit, tasks_behind}

pub boot_of-requires-clause-room : goal.boot_of-requires-clause-room
boot_of-requires-clause-room c =
    let l = c.args.layout.now in
    let fits = c.requires.places in
    let room = fits.boot in
    let apart = apart_of l fits.rules in
    let commit = apart.commit in
    let code = apart.code in
    let high = apart.high in
    subst (λ g. l.boot.address + bytes_of_boot g l < 65536) (sym (ap (λ r. r.logging) c.runtime-logging.ensures)) (omega (arith, room, commit, code, high))

pub boot_of-requires-clause-starts : goal.boot_of-requires-clause-starts
boot_of-requires-clause-starts c =
    subst (λ g. StartsFit g c.args.layout.now) (sym (ap (λ r. r.logging) c.runtime-logging.ensures)) c.requires.places.starts

-- a commit has 52 bytes at least
commit_long : (logging : Logging) (events : Bool) → 52 ≤ bytes_of_commit logging events
commit_long Redo events = omega arith
commit_long Undo events = omega arith

pub commit_of-requires : goal.commit_of-requires
commit_of-requires c =
    let l = c.args.layout.now in
    let fits = c.requires.places in
    let long = commit_long l.runtime.logging l.runtime.events in
    let room = fits.commit in
    let apart = apart_of l fits.rules in
    let commit = apart.commit in
    let code = apart.code in
    let high = apart.high in
    omega (arith, long, room, commit, code, high)

pub push_part-requires-2 : goal.push_part-requires-2
push_part-requires-2 c =
    let l = c.args.layout.now in
    let ps = map programs_of c.args.programs.now in
    let start : c.boot-start.result.address ≡ l.boot.address = ap (λ r. r.address) c.boot-start.ensures in
    let logs = ap (λ r. r.logging) c.runtime-logging.ensures in
    let boot = after_boot l ps c.requires.places c.boot-start.result.address c.new-words.result.items c.push_part.new.words.items c.as_slice.result.now start
    c.new-words.ensures.items
    (c.as_slice.ensures.value ∙ c.in_ok-boot.ensures
    ∙ ap (λ g. boot_code g l) logs) c.in_ok-push_part.ensures in
    let at : c.commit.result.address ≡ l.commit.address = ap (λ r. r.address) c.commit.ensures in
    let behind = commit_behind l ps c.requires.places c.boot-start.result.address c.push_part.new.words.items boot in
    record { behind = omega (arith, at, behind) }

pub push_tasks-requires-clause-count : goal.push_tasks-requires-clause-count
push_tasks-requires-clause-count c = ap length c.tasks.ensures ∙ c.requires.count

pub push_tasks-requires-clause-order : goal.push_tasks-requires-clause-order
push_tasks-requires-clause-order c =
    let l = c.args.layout.now in
    let ps = map programs_of c.args.programs.now in
    let start : c.boot-start.result.address ≡ l.boot.address = ap (λ r. r.address) c.boot-start.ensures in
    let logs = ap (λ r. r.logging) c.runtime-logging.ensures in
    let boot = after_boot l ps c.requires.places c.boot-start.result.address c.new-words.result.items c.push_part.new.words.items c.as_slice.result.now start
    c.new-words.ensures.items
    (c.as_slice.ensures.value ∙ c.in_ok-boot.ensures
    ∙ ap (λ g. boot_code g l) logs) c.in_ok-push_part.ensures in
    let commit = after_commit l ps c.requires.places c.boot-start.result.address c.commit.result.address c.push_part.new.words.items
    c.push_part-2.new.words.items c.as_slice-2.result.now
    start (ap (λ r. r.address) c.commit.ensures) (c.as_slice-2.ensures.value ∙ c.in_ok-commit.ensures ∙ ap (λ g. commit_code g l) logs) boot
    c.in_ok-push_part-2.ensures in
    let end = c.boot-start.result.address + 2 * length c.push_part-2.new.words.items in
    subst (λ ts. PartsInOrder end (task_parts ts ps) reset_vector) (sym c.tasks.ensures)
    (tasks_behind l ps c.requires.places c.boot-start.result.address c.push_part-2.new.words.items commit)

pub push_tasks-requires-clause-emitted : goal.push_tasks-requires-clause-emitted
push_tasks-requires-clause-emitted c =
    subst (λ ts. TasksAreEmitted ts (map programs_of c.args.programs.now)) (sym c.tasks.ensures) c.requires.emitted

pub returns : goal.returns
returns c =
    let l = c.args.layout.now in
    let ps = map programs_of c.args.programs.now in
    let start : c.boot-start.result.address ≡ l.boot.address = ap (λ r. r.address) c.boot-start.ensures in
    let logs = ap (λ r. r.logging) c.runtime-logging.ensures in
    let boot = after_boot l ps c.requires.places c.boot-start.result.address c.new-words.result.items c.push_part.new.words.items c.as_slice.result.now start
    c.new-words.ensures.items
    (c.as_slice.ensures.value ∙ c.in_ok-boot.ensures
    ∙ ap (λ g. boot_code g l) logs) c.in_ok-push_part.ensures in
    let commit = after_commit l ps c.requires.places c.boot-start.result.address c.commit.result.address c.push_part.new.words.items
    c.push_part-2.new.words.items c.as_slice-2.result.now
    start (ap (λ r. r.address) c.commit.ensures) (c.as_slice-2.ensures.value ∙ c.in_ok-commit.ensures ∙ ap (λ g. commit_code g l) logs) boot
    c.in_ok-push_part-2.ensures in
    let behind : List TaskPlace → List ℕ = λ ts. c.push_part-2.new.words.items ++ words_in
    (chained (c.boot-start.result.address + 2 * length c.push_part-2.new.words.items) (task_parts ts ps)) in
    c.in_ok-push_tasks.ensures
    ∙ ap behind c.tasks.ensures
    ∙ commit.rest
