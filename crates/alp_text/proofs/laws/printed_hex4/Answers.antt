use Rattle.std.proofs.Common.{arith}
use Rattle.alp_text.proofs.Hexadecimals.{numeral-hex4}
use Rattle.alp_text.proofs.laws.printed_hex4.Goals as goal

pub returns : goal.returns
returns c = numeral-hex4 c.args.w (omega arith)
