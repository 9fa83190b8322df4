use Rattle.std.proofs.Common.{subst}
use Rattle.std.proofs.lemmas.Result.{IfOk-weaker}
use Rattle.task_ast.specs.View.{program_of}
use Rattle.memory_map.specs.MemoryMap.{MemoryMap, logged_map}
use Rattle.privatise.specs.Layouts.{IsLayout}
use Rattle.source_needs.specs.Needs.{AreUndoNeeds}
use Rattle.source_needs.proofs.Rows.{needs_by_layout}
use Rattle.source_needs.proofs.needs.needs_in_place.Goals as goal

pub returns : goal.returns
returns c =
    let p = program_of c.args.accepted.now.checked.source in
    let allow = c.args.accepted.now.allow in
    let plans = c.args.plan.now in
    let l = c.in_ok-layout_of.field-0 in
    IfOk-weaker c.undo_needs.result (λ needs. AreUndoNeeds p c.logged-layout.result needs.items)
    (λ needs. (m : MemoryMap) → IsLayout p allow plans m → AreUndoNeeds p (logged_map m) needs.items)
    (λ needs are. needs_by_layout p allow plans l needs.items (c.one_layout.ensures p allow c.requires.accepted.allowed) c.requires.plan
    c.in_ok-layout_of.ensures (subst (λ m. AreUndoNeeds p m needs.items) c.logged-layout.ensures are))
    c.undo_needs.ensures
