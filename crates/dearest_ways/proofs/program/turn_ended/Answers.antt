use Rattle.std.proofs.Common.{◌∙◌, ap, arith}
use Rattle.word_code.specs.array_versions.View.{steps_of}
use Rattle.word_code.specs.Code.{size, block_code, turn_end}
use Rattle.word_code.proofs.code_forms.Interface.{forms_bytes-append}
use Rattle.word_code.proofs.Interface.{inner_takes, turn_end_takes}
use Rattle.dearest_ways.proofs.program.turn_ended.Goals as goal

pub code_words-requires : goal.code_words-requires
code_words-requires c =
    let body = steps_of c.args.body.now in
    let inner = c.args.inner.now in
    let end = turn_end c.args.own.local c.args.own.below in
    let block = rw c.new-turn.ensures.items at c.in_ok-emit_block.ensures.code in
    let turn = c.as_slice-2.ensures.value ∙ (rw block at c.in_ok-emit_turn_end.ensures) in
    omega (
      arith,
      ap size turn,
      forms_bytes-append (block_code inner body) end,
      (inner_takes inner body).bytes,
      (turn_end_takes c.args.own.local c.args.own.below).bytes,
      c.requires.room,
    )
