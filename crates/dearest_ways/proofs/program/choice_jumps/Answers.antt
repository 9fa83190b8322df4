use Rattle.std.proofs.Common.{◌∙◌, ap, arith}
use Rattle.word_code.specs.array_versions.View.{steps_of}
use Rattle.word_code.specs.Code.{size, pass_over, block_code}
use Rattle.word_code.proofs.code_forms.Interface.{forms_bytes-append}
use Rattle.word_code.proofs.Interface.{inner_takes, pass_takes}
use Rattle.dearest_ways.proofs.program.choice_jumps.Goals as goal

pub code_words-second-requires : goal.code_words-second-requires
code_words-second-requires c =
    let other = rw c.new-other.ensures.items at c.in_ok-emit_block.ensures.code in
    let words = ap size (c.as_slice.ensures.value ∙ other) in
    omega (arith, words, (inner_takes c.args.bounds.now (steps_of c.args.otherwise.now)).bytes, c.requires.room)

pub emit_pass_over-requires : goal.emit_pass_over-requires
emit_pass_over-requires c =
    let other = rw c.new-other.ensures.items at c.in_ok-emit_block.ensures.code in
    let words = c.code_words-second.ensures ∙ ap size (c.as_slice.ensures.value ∙ other) in
    omega (arith, words, (inner_takes c.args.bounds.now (steps_of c.args.otherwise.now)).bytes, c.requires.room)

pub code_words-requires : goal.code_words-requires
code_words-requires c =
    let taken = rw c.new-code.ensures.items at c.in_ok-emit_block-2.ensures.code in
    let first = rw taken at c.in_ok-emit_pass_over.ensures in
    let words = ap size (c.as_slice-2.ensures.value ∙ first) in
    let block = block_code c.args.bounds.now (steps_of c.args.taken.now) in
    omega (
      arith,
      words,
      forms_bytes-append block (pass_over c.code_words-second.result),
      (inner_takes c.args.bounds.now (steps_of c.args.taken.now)).bytes,
      (pass_takes c.code_words-second.result).bytes,
      c.requires.room,
    )

pub returns-clause-short : goal.returns-clause-short
returns-clause-short c =
    let other = rw c.new-other.ensures.items at c.in_ok-emit_block.ensures.code in
    let words = c.code_words-second.ensures ∙ ap size (c.as_slice.ensures.value ∙ other) in
    omega (arith, words, (inner_takes c.args.bounds.now (steps_of c.args.otherwise.now)).bytes)

pub returns-clause-long : goal.returns-clause-long
returns-clause-long c =
    let taken = rw c.new-code.ensures.items at c.in_ok-emit_block-2.ensures.code in
    let first = rw taken at c.in_ok-emit_pass_over.ensures in
    let words = c.code_words.ensures ∙ ap size (c.as_slice-2.ensures.value ∙ first) in
    let block = block_code c.args.bounds.now (steps_of c.args.taken.now) in
    omega (
      arith,
      words,
      forms_bytes-append block (pass_over c.code_words-second.result),
      (inner_takes c.args.bounds.now (steps_of c.args.taken.now)).bytes,
      (pass_takes c.code_words-second.result).bytes,
    )
