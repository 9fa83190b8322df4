use Rattle.std.proofs.Common.{◌∙◌, arith}
use Rattle.word_code.specs.array_versions.View.{test_of}
use Rattle.dearest_ways.proofs.Priced.{test_size, words_at_most}
use Rattle.dearest_ways.proofs.program.over_both.Goals as goal

pub code_words-requires : goal.code_words-requires
code_words-requires c =
    let own = rw c.new-code.ensures.items at c.in_ok-emit_test.ensures.code in
    let few = test_size c.args.bounds.now (test_of c.args.second.now) c.args.when c.args.over _ (c.as_slice.ensures.value ∙ own) in
    omega (arith, few, c.requires.room)

pub overflow_add-result : goal.overflow_add-result
overflow_add-result c =
    let own = rw c.new-code.ensures.items at c.in_ok-emit_test.ensures.code in
    let few = test_size c.args.bounds.now (test_of c.args.second.now) c.args.when c.args.over _ (c.as_slice.ensures.value ∙ own) in
    omega (arith, few, c.requires.room, c.code_words.ensures, c.words_if.ensures, words_at_most c.args.further c.args.over)

pub returns-clause-most : goal.returns-clause-most
returns-clause-most c =
    let own = rw c.new-code.ensures.items at c.in_ok-emit_test.ensures.code in
    let few = test_size c.args.bounds.now (test_of c.args.second.now) c.args.when c.args.over _ (c.as_slice.ensures.value ∙ own) in
    omega (arith, few, c.code_words.ensures, c.words_if.ensures, words_at_most c.args.further c.args.over)
