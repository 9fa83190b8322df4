use Rattle.std.proofs.Common.{◌∙◌, ap, false, true}
use Rattle.task_ast.specs.View.{program_of}
use Rattle.code_ways.specs.Choices.{counts_from}
use Rattle.condition_lines.specs.Conditions.{lists_of}
use Rattle.condition_lines.specs.Ways.{task_ways}
use Rattle.compiled_model.specs.Parts.{task_program}
use Rattle.dearest_ways.specs.Ways.{dearest_way, program_choices}
use Rattle.source_needs.specs.Bodies.{task_calls}
use Rattle.source_needs.specs.Needs.{need_row}
use Rattle.source_needs.proofs.needs.need_by_lines.Goals as goal

pub returns : goal.returns
returns c = λ task there.
    let text = c.args.accepted.now.text.items in
    let p = program_of c.args.accepted.now.checked.source in
    let l = c.args.layout.now in
    let k = c.args.number in
    let program = task_program p l k in
    let n = program_choices program in
    let taken = (dearest_way (task_calls p l k) program).taken in
    let way = c.in_ok-way.ensures.way in
    let held = c.deref.ensures.value ∙ way.held in
    let failed = c.deref-2.ensures.value ∙ way.failed in
    let ways = c.in_ok-ways.ensures ∙ ap (λ h. task_ways h c.deref-2.result.now c.args.ifs.lines.now (lists_of c.args.ifs.numbers.now)) held
    ∙ ap (λ f. task_ways (counts_from true 0 n taken) f c.args.ifs.lines.now (lists_of c.args.ifs.numbers.now)) failed
    ∙ ap (task_ways (counts_from true 0 n taken) (counts_from false 0 n taken) c.args.ifs.lines.now) (c.requires.ifs task there) in
    c.task_need.ensures task there ∙ ap (λ ws. need_row text p l k ws task) ways
