use Rattle.msp_decode.proofs.two_operand_instruction.Goals as goal

pub unreachable-requires : goal.unreachable-requires
unreachable-requires c = let b = c.requires.legal in c.in-None.ensures.illegal b.0 b.1 b.2
