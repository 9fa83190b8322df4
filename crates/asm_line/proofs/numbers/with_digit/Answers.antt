use Rattle.asm_line.proofs.Digits.{with_large, with_small}
use Rattle.asm_line.proofs.numbers.with_digit.Goals as goal

pub returns-then-number : goal.returns-then-number
returns-then-number c = λ n. with_large c.args.number n c.args.base c.args.digit c.if-number.true c.requires.some

pub returns-else-number : goal.returns-else-number
returns-else-number c = λ n. with_small c.args.number n c.args.base c.args.digit c.if-number.false c.requires.some
