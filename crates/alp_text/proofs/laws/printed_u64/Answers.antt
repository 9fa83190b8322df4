use Rattle.std.proofs.Common.{arith}
use Rattle.alp_text.proofs.Decimals.{number_back}
use Rattle.alp_text.proofs.laws.printed_u64.Goals as goal

pub returns : goal.returns
returns c = number_back c.args.v (omega arith)
