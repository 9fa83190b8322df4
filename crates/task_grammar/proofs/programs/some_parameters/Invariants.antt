use Rattle.std.proofs.Common.{◌≡◌, ◌≤◌, length}
use Rattle.task_grammar.specs.Programs.{many, is_comma, further, some_parameters}
use Rattle.task_grammar.proofs.programs.some_parameters.Given as goal

abbrev pub invariant-parameters : goal.invariant-parameters
invariant-parameters l = record {
  fits : length l.rest ≤ length l.fn.tokens;
  goes_on : some_parameters l.fn.tokens ≡ many is_comma further l.found.items l.rest;
}

abbrev pub decreases-parameters : goal.decreases-parameters
decreases-parameters l = length l.rest
