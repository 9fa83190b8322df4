use Rattle.msp_asm.proofs.Fronts.{none_stands}
use Rattle.msp_asm.proofs.disassembler.standing.Goals as goal

pub returns-else-is_given_back-clause-none : goal.returns-else-is_given_back-clause-none
returns-else-is_given_back-clause-none c = none_stands c.args.address c.args.words.now c.in_ok-instr.instr c.in_ok-instr.ensures.found.0
    c.in_ok-instr.ensures.found.1
    (c.is_given_back.ensures.other c.if-is_given_back.false)
