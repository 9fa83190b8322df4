use Rattle.std.proofs.Common.{◌∙◌, sym, ap, subst}
use Rattle.task_ast.specs.View.{program_of}
use Rattle.war_analysis.specs.Plans.{IsPlan}
use Rattle.fram_state.specs.Suits.{HasLinesOf}
use Rattle.fram_state.proofs.Answered.{excluded, other_lines}
use Rattle.fram_state.proofs.lines.suits.Goals as goal

pub returns-clause-other : goal.returns-clause-other
returns-clause-other c = λ err s.
    let source = c.args.source.now in
    let m = c.in-Some.map.now in
    let plan = subst (λ x. IsPlan (program_of x.source) c.in-Ok.plan) c.checked.ensures c.in-Ok.ensures in
    let none = excluded c.has_lines_of.result _ c.has_lines_of.ensures c.if-has_lines_of.false in
    other_lines c.one_plan.ensures source.text.items (program_of source.checked.source) c.args.image.now m c.in-Ok.plan c.in-Some.ensures.value plan
    (λ h. none (subst (λ x. HasLinesOf c.source.result.now (program_of x) c.in-Ok.plan m) (sym (c.source-2.ensures ∙ ap (λ x. x.source) c.checked-2.ensures))
    (subst (λ t. HasLinesOf t (program_of source.checked.source) c.in-Ok.plan m) (sym c.source.ensures) h)))
    s
