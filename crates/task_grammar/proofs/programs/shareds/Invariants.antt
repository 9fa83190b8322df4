use Rattle.std.proofs.Common.{◌≡◌, [], length}
use Rattle.task_grammar.specs.Programs.{many, is_shared, shared}
use Rattle.task_grammar.proofs.programs.shareds.Given as goal

abbrev pub invariant-shared : goal.invariant-shared
invariant-shared l = many is_shared shared [] l.fn.tokens ≡ many is_shared shared l.found.items l.rest

abbrev pub decreases-shared : goal.decreases-shared
decreases-shared l = length l.rest
