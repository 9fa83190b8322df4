use Rattle.msp_asm.proofs.Alones.{alone_gives}
use Rattle.msp_asm.proofs.laws.lines_alone.Goals as goal

pub returns : goal.returns
returns c = alone_gives
