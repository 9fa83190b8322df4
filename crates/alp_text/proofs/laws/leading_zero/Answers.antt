use Rattle.std.proofs.Common.{arith}
use Rattle.alp_text.proofs.Hexadecimals.{numeral-zero}
use Rattle.alp_text.proofs.laws.leading_zero.Goals as goal

pub returns-clause-decimal : goal.returns-clause-decimal
returns-clause-decimal c = numeral-zero 10 _ (omega arith)

pub returns-clause-hexadecimal : goal.returns-clause-hexadecimal
returns-clause-hexadecimal c = numeral-zero 16 _ (omega arith)
