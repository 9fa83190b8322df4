use Rattle.std.proofs.Common.{map, ◌∙◌}
use Rattle.task_ast.specs.View.{function_of}
use Rattle.fram_state.proofs.kept.touches_of.Goals as goal

pub returns-clause-written : goal.returns-clause-written
returns-clause-written c =
    c.is_written.ensures (map function_of c.args.functions.now)
    (record { sums = c.deref.ensures.value ∙ c.in_ok-known.ensures; calls = c.requires.functions; returning = c.requires.returning }) c.requires.calls

pub returns-clause-private : goal.returns-clause-private
returns-clause-private c =
    c.is_private.ensures (map function_of c.args.functions.now)
    (record { sums = c.deref-2.ensures.value ∙ c.in_ok-known.ensures; calls = c.requires.functions; returning = c.requires.returning }) c.requires.calls
