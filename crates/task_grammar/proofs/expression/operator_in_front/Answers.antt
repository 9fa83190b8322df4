use Rattle.std.proofs.Common.{rules}
use Rattle.task_grammar.proofs.Nesting.{nests_behind_infix, row_behind_infix}
use Rattle.task_grammar.proofs.expression.operator_in_front.Goals as goal

pub returns-in-Some-clause-nests : goal.returns-in-Some-clause-nests
returns-in-Some-clause-nests c = nests_behind_infix c.args.precedence c.args.tokens.now c.infix_at.result (search rules)

pub returns-in-Some-clause-row : goal.returns-in-Some-clause-row
returns-in-Some-clause-row c = row_behind_infix c.args.precedence c.args.tokens.now c.infix_at.result (search rules)
