use Rattle.std.proofs.Common.{refl}
use Rattle.task_ast.specs.View.{expression_of}
use Rattle.path_checks.proofs.Walks.{does_where_none, does_read}
use Rattle.path_checks.proofs.walk.read.Goals as goal

pub returns-then-not-walk-clause-does : goal.returns-then-not-walk-clause-does
returns-then-not-walk-clause-does c = does_where_none c.args.walk.now _ c.if-not-walk.true

pub returns-clause-does : goal.returns-clause-does
returns-clause-does c = does_read c.args.walk.now _ (expression_of c.args.e.now) c.first_in.result c.if-not-walk.false c.first_in.ensures refl refl refl
    c.first_of-walk.ensures
