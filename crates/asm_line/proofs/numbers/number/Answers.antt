use Rattle.asm_line.proofs.Digits.{start}
use Rattle.asm_line.proofs.numbers.number.Goals as goal

pub loop-b-init : goal.loop-b-init
loop-b-init c = start c.args.base c.args.digits.now
