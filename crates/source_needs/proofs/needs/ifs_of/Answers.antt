use Rattle.std.proofs.Common.{◌≡◌, ◌∙◌, ◌^◌, ◌<◌, get_or, sym, ap, subst}
use Rattle.std.proofs.lemmas.Option.{same_Some}
use Rattle.std.proofs.lemmas.Result.{IfOk-weaker}
use Rattle.std.specs.Prelude.{Some, slice_get}
use Rattle.task_ast.specs.View.{block_view, program_of}
use Rattle.cost_bound.specs.Allowance.{CheckedTask}
use Rattle.condition_lines.specs.Conditions.{block_conditions, block_ifs, lists_of}
use Rattle.source_needs.proofs.Rows.{task_at, task_holds}
use Rattle.source_needs.proofs.needs.ifs_of.Goals as goal

pub task_ifs-requires : goal.task_ifs-requires
task_ifs-requires c =
    let text = c.args.accepted.now.text.items in
    let p = program_of c.args.accepted.now.checked.source in
    let l = c.args.layout.now in
    let k = c.args.number in
    let h = task_holds text p c.args.accepted.now.allow c.requires.laid_out.0 l c.requires.laid_out.1 k c.requires.task in
    let source = c.source-source.ensures ∙ ap (λ x. x.source) c.checked.ensures in
    let at = task_at c.args.accepted.now.checked.source.tasks.items k c.index-task.result.now h.task h.there
    (c.index-task.ensures ∙ ap (λ s. get_or s.tasks.items k c.index-task.result.now) source) in
    let body : block_view c.deref.result.now ≡ h.task.body = ap block_view c.deref.ensures.value ∙ at.1 in
    subst (λ b. block_conditions b < 2 ^ 32) (sym body) h.conditions

pub returns : goal.returns
returns c =
    let text = c.args.accepted.now.text.items in
    let p = program_of c.args.accepted.now.checked.source in
    let l = c.args.layout.now in
    let k = c.args.number in
    let h = task_holds text p c.args.accepted.now.allow c.requires.laid_out.0 l c.requires.laid_out.1 k c.requires.task in
    let source = c.source-source.ensures ∙ ap (λ x. x.source) c.checked.ensures in
    let at = task_at c.args.accepted.now.checked.source.tasks.items k c.index-task.result.now h.task h.there
    (c.index-task.ensures ∙ ap (λ s. get_or s.tasks.items k c.index-task.result.now) source) in
    let body : block_view c.deref.result.now ≡ h.task.body = ap block_view c.deref.ensures.value ∙ at.1 in
    IfOk-weaker c.task_ifs.result (λ ifs. lists_of ifs.items ≡ block_ifs 0 (block_view c.deref.result.now))
    (λ ifs. (task : CheckedTask) → slice_get p.tasks k ≡ Some task → lists_of ifs.items ≡ block_ifs 0 task.body)
    (λ ifs is task there. is ∙ ap (block_ifs 0) (body ∙ ap (λ t. t.body) (same_Some h.task task (sym h.there ∙ there)))) c.task_ifs.ensures
