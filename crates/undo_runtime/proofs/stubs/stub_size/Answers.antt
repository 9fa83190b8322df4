use Rattle.std.proofs.Common.{◌+◌, ◌*◌, ◌<◌, ap, sym, ◌∙◌, arith, length}
use Rattle.std.proofs.lemmas.Bool.Decides.{nat_tests}
use Rattle.memory_map.specs.Spots.{private_words}
use Rattle.undo_runtime.proofs.Writing.{stub_is}
use Rattle.undo_runtime.proofs.stubs.stub_size.Goals as goal

pub words_of-requires : goal.words_of-requires
words_of-requires c =
    let some : 0 < length c.privates.result.now = grind (arith, nat_tests, c.is_empty.ensures, c.if-is_empty.false) in
    let same = ap length c.privates.ensures in
    let size = stub_is c.args.task.now (omega (arith, some, same)) in
    let words = ap private_words c.privates-else-is_empty.ensures in
    omega (arith, size, words, c.requires)

pub overflow_mul-result : goal.overflow_mul-result
overflow_mul-result c =
    let some : 0 < length c.privates.result.now = grind (arith, nat_tests, c.is_empty.ensures, c.if-is_empty.false) in
    let same = ap length c.privates.ensures in
    let size = stub_is c.args.task.now (omega (arith, some, same)) in
    let words = c.words_of.ensures ∙ ap private_words c.privates-else-is_empty.ensures in
    omega (arith, size, words, c.requires)

pub overflow_add-result : goal.overflow_add-result
overflow_add-result c =
    let some : 0 < length c.privates.result.now = grind (arith, nat_tests, c.is_empty.ensures, c.if-is_empty.false) in
    let same = ap length c.privates.ensures in
    let size = stub_is c.args.task.now (omega (arith, some, same)) in
    let words = c.words_of.ensures ∙ ap private_words c.privates-else-is_empty.ensures in
    omega (arith, size, words, c.requires)

pub returns-else-is_empty : goal.returns-else-is_empty
returns-else-is_empty c =
    let some : 0 < length c.privates.result.now = grind (arith, nat_tests, c.is_empty.ensures, c.if-is_empty.false) in
    let same = ap length c.privates.ensures in
    let size = stub_is c.args.task.now (omega (arith, some, same)) in
    let words = c.words_of.ensures ∙ ap private_words c.privates-else-is_empty.ensures in
    ap (λ n. 16 * n + 4) words ∙ sym size
