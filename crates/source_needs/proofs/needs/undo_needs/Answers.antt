use Rattle.std.proofs.Common.{◌≡◌, length, ap, arith}
use Rattle.std.proofs.lemmas.List.{length-map}
use Rattle.task_ast.specs.View.{program_of}
use Rattle.array_versions.specs.View.{programs_of}
use Rattle.source_needs.proofs.Rows.{as_many}
use Rattle.source_needs.proofs.needs.undo_needs.Goals as goal

pub undo_need_of-requires-clause-task : goal.undo_need_of-requires-clause-task
undo_need_of-requires-clause-task c =
    let p = program_of c.args.accepted.now.checked.source in
    let l = c.args.layout.now in
    let made = as_many p.functions l p.tasks l.tasks c.requires.laid_out.1.layout.tasks.count in
    let count = length-map c.args.programs.now programs_of in
    omega (arith, c.loop-i-test.true, made, count, ap length c.requires.programs)

pub returns : goal.returns
returns c =
    let p = program_of c.args.accepted.now.checked.source in
    let l = c.args.layout.now in
    let made = as_many p.functions l p.tasks l.tasks c.requires.laid_out.1.layout.tasks.count in
    let count = length-map c.args.programs.now programs_of in
    let many = ap length c.requires.programs in
    let all : length p.tasks ≡ c.loop-i.i = omega (arith, c.loop-i-test.false, c.loop-i.auto.i-end, made, count, many) in
    record {
      count = omega (arith, c.loop-i.invariant.count, all);
      each = λ k other below. c.loop-i.invariant.each k other (omega (arith, below, all));
    }
