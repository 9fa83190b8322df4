use Rattle.std.proofs.Common.{◌+◌, ◌∙◌, sym, arith}
use Rattle.source_values.proofs.Placed.{placed_past}
use Rattle.source_values.proofs.statements.local_behind.Goals as goal

pub returns-else-n-lt256 : goal.returns-else-n-lt256
returns-else-n-lt256 c = λ words. placed_past 256 words (omega arith) ∙ sym (placed_past (c.args.n + 1) words (omega arith))
