use Rattle.std.proofs.Common.{◌≡◌, [], length, map}
use Rattle.task_ast.specs.View.{function_of}
use Rattle.task_grammar.specs.Programs.{many, is_function, function}
use Rattle.task_grammar.proofs.programs.functions.Given as goal

abbrev pub invariant-functions : goal.invariant-functions
invariant-functions l = many is_function function [] l.fn.tokens ≡ many is_function function (map function_of l.found.items) l.rest

abbrev pub decreases-functions : goal.decreases-functions
decreases-functions l = length l.rest
