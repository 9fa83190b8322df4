use Rattle.std.proofs.Common.{◌≡◌, ◌+◌, ◌*◌, ◌≤◌, [], ◌∷◌, length, map}
use Rattle.task_ast.specs.View.{statement_of, tested_of}
use Rattle.task_grammar.specs.Statements.{elses, statements, block}
use Rattle.task_grammar.specs.Nesting.{nesting}
use Rattle.task_grammar.proofs.statement.+block.Given as goal

-- Each call is behind an opening brace, or of a smaller part of a block.
abbrev pub decreases-arm : goal.decreases-arm
decreases-arm l = 8 * nesting l.tokens.now + 1

abbrev pub decreases-elses : goal.decreases-elses
decreases-elses l = 8 * nesting l.tokens.now + 2

abbrev pub decreases-choice : goal.decreases-choice
decreases-choice l = 8 * nesting l.tokens.now + 3

abbrev pub decreases-looped : goal.decreases-looped
decreases-looped l = 8 * nesting l.tokens.now + 3

abbrev pub decreases-statement : goal.decreases-statement
decreases-statement l = 8 * nesting l.tokens.now + 4

abbrev pub decreases-statements : goal.decreases-statements
decreases-statements l = 8 * nesting l.tokens.now + 5

abbrev pub decreases-block : goal.decreases-block
decreases-block l = 8 * nesting l.tokens.now

abbrev pub invariant-elses-arms : goal.invariant-elses-arms
invariant-elses-arms l = record {
  fits : length l.rest ≤ length l.fn.tokens;
  nests : nesting l.rest ≤ nesting l.fn.tokens;
  goes_on : elses block (tested_of l.fn.first ∷ []) l.fn.tokens ≡ elses block (map tested_of l.arms.items) l.rest;
}

abbrev pub decreases-elses-arms : goal.decreases-elses-arms
decreases-elses-arms l = length l.rest

abbrev pub invariant-statements-statements : goal.invariant-statements-statements
invariant-statements-statements l = record {
  fits : length l.rest ≤ length l.fn.tokens;
  nests : nesting l.rest ≤ nesting l.fn.tokens;
  goes_on : statements block [] l.fn.tokens ≡ statements block (map statement_of l.found.items) l.rest;
}

abbrev pub decreases-statements-statements : goal.decreases-statements-statements
decreases-statements-statements l = length l.rest
