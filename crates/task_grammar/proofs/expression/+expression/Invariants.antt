use Rattle.std.proofs.Common.{◌≡◌, ◌+◌, ◌*◌, ◌<◌, ◌≤◌, length, ◌-◌}
use Rattle.task_ast.specs.View.{expression_of}
use Rattle.task_grammar.specs.Expressions.{up_to, climb, unary}
use Rattle.task_grammar.specs.Nesting.{nesting, row_length}
use Rattle.task_grammar.proofs.expression.+expression.Given as goal

-- Each call is behind a token of the row, or at a tighter precedence.
abbrev pub decreases-unary : goal.decreases-unary
decreases-unary l = 16 * row_length l.tokens.now + 3

abbrev pub decreases-primary : goal.decreases-primary
decreases-primary l = 16 * row_length l.tokens.now + 2

abbrev pub decreases-named : goal.decreases-named
decreases-named l = 16 * row_length l.tokens.now + 1

abbrev pub decreases-values : goal.decreases-values
decreases-values l = 16 * row_length l.tokens.now + 15

abbrev pub decreases-more_values : goal.decreases-more_values
decreases-more_values l = 16 * row_length l.tokens.now

abbrev pub decreases-up_to : goal.decreases-up_to
decreases-up_to l = 16 * row_length l.tokens.now + l.precedence + 4

abbrev pub invariant-up_to-operators : goal.invariant-up_to-operators
invariant-up_to-operators l = record {
  fits : length l.rest < length l.fn.tokens;
  nests : nesting l.rest ≤ nesting l.fn.tokens;
  row : row_length l.rest ≤ row_length l.fn.tokens;
  goes_on : up_to unary l.precedence l.fn.tokens ≡ climb (up_to unary (l.precedence - 1)) l.precedence (expression_of l.left) l.rest;
}

abbrev pub decreases-up_to-operators : goal.decreases-up_to-operators
decreases-up_to-operators l = length l.rest

abbrev pub decreases-joined : goal.decreases-joined
decreases-joined l = 16 * row_length l.tokens.now + l.precedence + 4
