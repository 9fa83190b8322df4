use Rattle.std.proofs.Common.{ap, arith}
use Rattle.memory_map.specs.Places.{scalar_words}
use Rattle.memory_map.proofs.Interface.{apart_of}
use Rattle.undo_runtime.proofs.stubs.push_scalar.Goals as goal

pub overflow_add-entry : goal.overflow_add-entry
overflow_add-entry c =
    let apart = apart_of c.args.layout.now c.rules.ensures in
    let few = c.requires.few in
    let two = ap scalar_words c.in-TwoWords.is in
    omega (arith, apart, few, two)
