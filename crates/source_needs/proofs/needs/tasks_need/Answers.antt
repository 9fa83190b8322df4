use Rattle.std.proofs.Common.{◌≡◌, ◌∙◌, ◌<◌, ◌≤◌, ◌++◌, ◌∷◌, [], drop, length, map, sym, ap, arith}
use Rattle.std.proofs.lemmas.List.{length-map, map-append}
use Rattle.task_ast.specs.View.{program_of}
use Rattle.array_versions.specs.View.{programs_of}
use Rattle.war_analysis.proofs.Interface.{element}
use Rattle.condition_lines.specs.Conditions.{block_ifs}
use Rattle.need_lines.specs.Rows.{row_of}
use Rattle.source_needs.proofs.Rows.{as_many, row_more, rows_end}
use Rattle.source_needs.proofs.needs.tasks_need.Goals as goal

pub ifs_of-requires-clause-task : goal.ifs_of-requires-clause-task
ifs_of-requires-clause-task c =
    let p = program_of c.args.accepted.now.checked.source in
    let l = c.args.layout.now in
    let made = as_many p.functions l p.tasks l.tasks c.requires.laid_out.1.layout.tasks.count in
    let count = length-map c.args.programs.now programs_of in
    omega (arith, c.loop-i-test.true, made, count, ap length c.requires.programs)

pub need_by_lines-requires-clause-task : goal.need_by_lines-requires-clause-task
need_by_lines-requires-clause-task c =
    let p = program_of c.args.accepted.now.checked.source in
    let l = c.args.layout.now in
    let made = as_many p.functions l p.tasks l.tasks c.requires.laid_out.1.layout.tasks.count in
    let count = length-map c.args.programs.now programs_of in
    omega (arith, c.loop-i-test.true, made, count, ap length c.requires.programs)

pub need_by_lines-requires-clause-ifs : goal.need_by_lines-requires-clause-ifs
need_by_lines-requires-clause-ifs c = rw c.deref.ensures.value c.in_ok-numbers.ensures

pub bounds-undo-i : goal.bounds-undo-i
bounds-undo-i c =
    let p = program_of c.args.accepted.now.checked.source in
    let l = c.args.layout.now in
    let made = as_many p.functions l p.tasks l.tasks c.requires.laid_out.1.layout.tasks.count in
    let count = length-map c.args.programs.now programs_of in
    omega (arith, c.loop-i-test.true, made, count, ap length c.requires.programs, c.requires.undo.count)

pub need_by_lines-requires-clause-undo : goal.need_by_lines-requires-clause-undo
need_by_lines-requires-clause-undo c =
    let p = program_of c.args.accepted.now.checked.source in
    let l = c.args.layout.now in
    let made = as_many p.functions l p.tasks l.tasks c.requires.laid_out.1.layout.tasks.count in
    let count = length-map c.args.programs.now programs_of in
    c.requires.undo.each c.loop-i.i (record { boot = 0; start = 0; path = 0; commit = 0 })
    (omega (arith, c.loop-i-test.true, made, count, ap length c.requires.programs))

pub loop-i-preserved : goal.loop-i-preserved
loop-i-preserved c =
    let text = c.args.accepted.now.text.items in
    let p = program_of c.args.accepted.now.checked.source in
    let l = c.args.layout.now in
    let made = as_many p.functions l p.tasks l.tasks c.requires.laid_out.1.layout.tasks.count in
    let count = length-map c.args.programs.now programs_of in
    let inside : c.loop-i.i < length p.tasks = omega (arith, c.loop-i-test.true, made, count, ap length c.requires.programs) in
    let t = element p.tasks c.loop-i.i inside in
    let one = c.in_ok-need_by_lines.field-0 in
    let row = c.in_ok-need_by_lines.ensures t.0 t.1 in
    let more = ap (map row_of) c.in_ok-push.ensures.items ∙ map-append row_of c.loop-i.needs.items (one ∷ [])
    ∙ ap (λ r. map row_of c.loop-i.needs.items ++ r ∷ []) row in
    let ifs = ap length (c.in_ok-numbers.ensures t.0 t.1) in
    let items = length-map c.in_ok-numbers.numbers.items (λ numbers. numbers.items) in
    let many : c.len.result ≡ length (block_ifs 0 t.0.body) = omega (arith, c.len.ensures, c.in_ok-numbers.numbers.ok.0, items, ifs) in
    let behind = c.lines_behind-left.ensures ∙ ap (λ n. drop n c.loop-i.left.now) many in
    row_more text p l c.loop-i.left.now c.lines_behind-left.result.now c.loop-i.i t.0 (map row_of c.loop-i.needs.items) (map row_of c.push.new.self.items) t.1
    behind more
    ∙ c.loop-i.invariant

pub returns : goal.returns
returns c =
    let text = c.args.accepted.now.text.items in
    let p = program_of c.args.accepted.now.checked.source in
    let l = c.args.layout.now in
    let made = as_many p.functions l p.tasks l.tasks c.requires.laid_out.1.layout.tasks.count in
    let count = length-map c.args.programs.now programs_of in
    let all : length p.tasks ≤ c.loop-i.i = omega (arith, c.loop-i-test.false, made, count, ap length c.requires.programs) in
    sym (rows_end text p l c.loop-i.left.now c.loop-i.i (map row_of c.loop-i.needs.items) all) ∙ c.loop-i.invariant
