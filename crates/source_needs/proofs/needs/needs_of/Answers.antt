use Rattle.std.proofs.Common.{◌≡◌, ◌∙◌, map, ap}
use Rattle.std.proofs.lemmas.Result.{IfOk-weaker}
use Rattle.task_ast.specs.View.{function_of, program_of}
use Rattle.war_analysis.specs.Plans.{IsPlan}
use Rattle.privatise.specs.Layouts.{IsLayout}
use Rattle.condition_lines.specs.Behind.{functions_behind}
use Rattle.condition_lines.specs.Lines.{if_lines}
use Rattle.need_lines.specs.Rows.{row_of}
use Rattle.source_needs.specs.Needs.{AreNeedsOf, rows_from}
use Rattle.source_needs.proofs.Rows.{needs_are}
use Rattle.source_needs.proofs.needs.needs_of.Goals as goal

pub returns : goal.returns
returns c =
    let text = c.args.accepted.now.text.items in
    let p = program_of c.args.accepted.now.checked.source in
    let allow = c.args.accepted.now.allow in
    let plans = c.in_ok-plan.plan in
    let l = c.in_ok-layout.layout in
    let planned : IsPlan p plans = rw c.checked.ensures at c.in_ok-plan.ensures in
    let laid : IsLayout p allow plans l = c.in_ok-layout.ensures in
    let lines : c.deref.result.now ≡ if_lines text = c.deref.ensures.value ∙ c.in_ok-lines.ensures ∙ ap if_lines c.source.ensures in
    let source = c.source-2.ensures ∙ ap (λ x. x.source) c.checked-3.ensures in
    let functions = c.deref-2.ensures.value ∙ ap (λ s. s.functions.items) source in
    let own : c.behind_functions-own.result.now ≡ functions_behind (if_lines text) p.functions =
    c.behind_functions-own.ensures ∙ ap (λ ls. functions_behind ls (map function_of c.deref-2.result.now)) lines
    ∙ ap (λ fs. functions_behind (if_lines text) (map function_of fs)) functions in
    IfOk-weaker c.tasks_need.result (λ needs. map row_of needs.items ≡ rows_from text p l c.behind_functions-own.result.now 0 p.tasks)
    (λ needs. AreNeedsOf text p allow (map row_of needs.items))
    (λ needs is. needs_are text p allow plans l (map row_of needs.items) (c.one_plan.ensures p) (c.one_layout.ensures p allow c.requires.accepted.allowed)
    (c.one_logged_layout.ensures p allow c.requires.accepted.allowed) c.layouts_are_logged.ensures planned laid
    (is ∙ ap (λ ls. rows_from text p l ls 0 p.tasks) own))
    c.tasks_need.ensures
