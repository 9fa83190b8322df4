use Rattle.std.proofs.Common.{◌<◌, ap, sym, arith, length}
use Rattle.std.proofs.lemmas.Bool.Decides.{nat_tests}
use Rattle.undo_runtime.proofs.Writing.{some_rung}
use Rattle.undo_runtime.proofs.stubs.rung.Goals as goal

pub returns-else-is_empty : goal.returns-else-is_empty
returns-else-is_empty c =
    let some : 0 < length c.privates.result.now = grind (arith, nat_tests, c.is_empty.ensures, c.if-is_empty.false) in
    let same = ap length c.privates.ensures in
    sym (some_rung c.args.layout.now c.args.stub c.args.task.now (omega (arith, some, same)))
