use Rattle.msp_asm.proofs.Fronts.{none_whole}
use Rattle.msp_asm.proofs.disassembler.first_instr.Goals as goal

pub returns-else-len-words-clause-none : goal.returns-else-len-words-clause-none
returns-else-len-words-clause-none c = λ i. none_whole i c.in-Ok.instr c.in-Ok.len c.word_or_zero.result c.word_or_zero-2.result c.args.words.now
    c.decode.result
    c.word_or_zero.ensures c.word_or_zero-2.ensures c.decode.ensures.only c.in-Ok.is c.if-len-words.false
